-- The code of a step: what its functions' contracts cite.
pub mod Fixed
pub mod Laying
pub mod Gathering
pub mod FullBytes
