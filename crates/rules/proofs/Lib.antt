-- What the functions' proofs here share.
pub mod FormSteps
pub mod LayingSteps
