-- What the calls share: their answers, the words that C gets, and the order of their refusals.

-- What a reader has to believe
pub mod Answer
pub mod Result
pub mod Told
pub mod Kinds
-- What is proved of refusals in their order, and of words
pub mod Turns
pub mod ToldLaws
pub mod NumberLaws
