-- Take.

-- What a reader has to believe
pub mod Take
pub mod TakeReplies
pub mod TakeCaps
-- What is proved
pub mod TakenCountsLaws
pub mod TakeCases
pub mod TakeCapsLaws
pub mod TakeReplyLaws
-- What its functions' contracts cite
pub mod TakeCode
