-- The pieces of a program's line.

-- What a reader has to believe
pub mod Read
pub mod Number
pub mod Reading
pub mod NumberList
-- What the code's promises say besides
pub mod Digits
pub mod ReadingCode
pub mod NumberListCode
-- What is proved of them
pub mod NumberLaws
