-- What the functions' proofs here share.
pub mod CloseSteps
pub mod RefusedSteps
pub mod StayingSteps
