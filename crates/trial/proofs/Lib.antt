-- What the functions' proofs here share.
pub mod TurnSteps
pub mod TrialSteps
