-- What the functions' proofs here share.
pub mod ChoiceSteps
pub mod TakeCallSteps
pub mod TakenSteps
