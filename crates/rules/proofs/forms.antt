-- What the functions' proofs here share.
pub mod FormDoneSteps
pub mod ReaderSteps
