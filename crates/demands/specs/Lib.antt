-- Lists of calls on a watch, and what is proved of every one of them.

-- What a reader has to believe: the lists, what a record is, what the bytes are said to mean
pub mod Ledger
pub mod Mislent
pub mod Run
pub mod Status
pub mod World
pub mod Verdict
pub mod EveryList
pub mod Earlier
pub mod Written
-- What is stated of every list, with no proofs: statements/X is proved in lists/X or forms/X
pub mod statements
-- The invariant of a watch that was written by calls only
pub mod Watching
-- What is proved
pub mod bytes
pub mod calls
pub mod lists
pub mod forms
