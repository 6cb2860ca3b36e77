-- What the functions' proofs here share.
pub mod PreparedSteps
pub mod SettingSteps
