-- What is proved of histories and their cuts.
pub mod EventLaws
pub mod HistoryLaws
pub mod CausalLaws
pub mod ConsistentWords
pub mod Step
pub mod Lattice
pub mod Preceding
pub mod Agree
pub mod PrecedingStep
pub mod Between
pub mod SameEvents
pub mod Predecessors
pub mod KeptStep
pub mod SourceDropping
