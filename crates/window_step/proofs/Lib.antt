-- What the functions' proofs here share.
pub mod ChoosingSteps
pub mod GatherSteps
