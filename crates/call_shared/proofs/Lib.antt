-- What the functions' proofs here share.
pub mod FaultSteps
pub mod CallSteps
