-- What is proved of the program's lines.

-- What a reader has to believe
pub mod Grammar
pub mod Fault
pub mod RuleLineFault
pub mod FirstFaults
pub mod LineSays
pub mod LinePrefix
-- Pieces, read and written
pub mod pieces
-- A line's answer is its first fault
pub mod faults
-- The numbers that a line says are those that the calls read
pub mod says
-- A long line's answer is that of its first bytes
pub mod prefix
-- Worked examples
pub mod LineExamples
