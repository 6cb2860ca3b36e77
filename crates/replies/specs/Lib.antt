-- Replies: an answer's parts, and what follows from it.

-- What a reader has to believe
pub mod Replies
pub mod Following
pub mod Promises
-- What is proved of them
pub mod ReplyLaws
pub mod FollowingLaws
