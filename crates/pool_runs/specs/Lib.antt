-- Runs of calls on watches that share a pool, and what is proved of every one of them.

-- What a reader has to believe
pub mod Runs
pub mod Turns
-- What is stated of every run, with no proofs
pub mod statements
-- What is proved
pub mod Running
pub mod KeptLaws
pub mod RunningLaws
pub mod MemberCallLaws
pub mod OutcomeLaws
pub mod WithinTheorem
pub mod MembersTheorem
pub mod TurnLaws
pub mod OthersTheorem
pub mod OwnCallLaws
pub mod EmptiesTheorem
