-- What the functions' proofs share.
pub mod BadSteps
pub mod PutSteps
