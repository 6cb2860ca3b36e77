-- Open.

-- What a reader has to believe
pub mod Open
pub mod OpenReplies
pub mod OpenExact
-- What is proved
pub mod OpenReplyLaws
pub mod OpenTheorem
-- What its functions' contracts cite
pub mod OpenCode
pub mod OpenFaultLaws
