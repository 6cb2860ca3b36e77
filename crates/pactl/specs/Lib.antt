-- PaCTL: formulas, their truth at a cut, and judging a cut by a table of lines.

-- What a reader has to believe
pub mod Pactl
pub mod Line
pub mod Table
pub mod TableBytes
pub mod Truth
pub mod ModelCuts
pub mod Semantics
pub mod Paths
pub mod Judge
pub mod Clauses
-- What is proved of tables
pub mod TableLaws
pub mod TableBytesLaws
pub mod GoodLineLaws
-- What is proved of truth
pub mod TruthLaws
pub mod SemanticsTheorem
pub mod PathsTheorem
pub mod TruthLocal
pub mod LineTruthLaws
-- What is proved of judging
pub mod JudgeLaws
pub mod ClauseLaws
pub mod JudgeTruth
