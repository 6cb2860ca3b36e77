-- A line's answer is its first fault.
pub mod GrammarTheorem
pub mod TenIsFault
pub mod TenStops
pub mod FaultTheorem
pub mod LinePieces
pub mod NamedProcesses
pub mod LinesFirstFault
pub mod RuleLineFirstFault
