-- Find.

-- What a reader has to believe
pub mod Find
pub mod FindReplies
-- What is proved
pub mod FindLaws
pub mod FindReplyLaws
-- What its functions' contracts cite
pub mod FindCode
