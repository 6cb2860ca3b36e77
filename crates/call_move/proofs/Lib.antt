-- What the functions' proofs here share.
pub mod CountSteps
pub mod PartSteps
pub mod RecordSteps
pub mod WindowSteps
pub mod CallSteps
