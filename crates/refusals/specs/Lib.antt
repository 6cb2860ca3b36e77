-- The refusals that a record, a window or the state of a watch decides.

-- What a reader has to believe
pub mod Refusals
-- What is proved of them
pub mod RefusalLaws
-- The number that the calls' functions look for first
pub mod RefusalCode
pub mod FaultLaws
