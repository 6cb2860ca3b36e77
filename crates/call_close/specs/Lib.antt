-- Close.

-- What a reader has to believe
pub mod Close
pub mod CloseReplies
-- What is proved
pub mod CloseCases
pub mod CloseReplyLaws
-- What its functions' contracts cite
pub mod CloseCode
