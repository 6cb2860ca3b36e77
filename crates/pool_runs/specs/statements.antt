-- What is stated of every run.
pub mod Within
pub mod Members
pub mod Others
pub mod Empties
