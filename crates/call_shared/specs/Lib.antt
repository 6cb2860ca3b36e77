-- Open, take and close of a watch that shares a pool.

-- What a reader has to believe
pub mod Shared
pub mod SharedExact
pub mod SharedFit
-- What is proved
pub mod SettledLaws
pub mod SharedLaws
pub mod SharedOpenTheorem
pub mod SharedTakeTheorem
pub mod SharedCloseTheorem
pub mod SharedFitLaws
-- What its functions' contracts cite
pub mod SharedCode
