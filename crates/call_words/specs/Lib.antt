-- The words that C hands over.

-- What a reader has to believe
pub mod Words
-- What is proved of them
pub mod WordLaws
