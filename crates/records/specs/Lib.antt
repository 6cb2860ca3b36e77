-- The record's bytes.

-- What a reader has to believe
pub mod Record
-- What is proved of them
pub mod RecordLaws
