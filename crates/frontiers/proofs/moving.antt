-- What the functions' proofs here share.
pub mod MovingSteps
