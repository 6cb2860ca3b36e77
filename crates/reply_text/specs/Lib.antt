-- The answers' text.

-- What a reader has to believe
pub mod Form
pub mod Texts
pub mod Promises
