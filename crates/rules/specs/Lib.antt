-- The rule language: from a text to a form, to lines.

-- What a reader has to believe
pub mod Formula
pub mod Line
pub mod Text
pub mod WordRead
pub mod Reader
pub mod Fault
pub mod RuleRead
pub mod RuleTable
-- What the reader's functions' contracts cite
pub mod KindNumber
pub mod Laying
pub mod ReaderCode
-- What is proved
pub mod lines
pub mod reading
pub mod grammar
