-- What the functions' proofs here share.
pub mod OpenCallSteps
pub mod OpenSteps
