-- The numbers that a line says are those that the calls read.
pub mod ListNumbers
pub mod LineNumbers
pub mod WordParts
pub mod PlacedLaws
pub mod SaidIsRead
pub mod LinesSay
pub mod RuleLineSays
