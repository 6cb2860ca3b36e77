-- The program's lines: what each gives.

-- What a reader has to believe
pub mod WatchLine
pub mod RuleLine
pub mod StartLine
pub mod DidLine
pub mod Words
pub mod Lines
-- What the code's promises say besides
pub mod LinesCode
