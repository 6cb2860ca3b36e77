-- The step of a window for an event.

-- What a reader has to believe
pub mod Step
pub mod Start
-- What the code's proofs cite
pub mod Lists
pub mod SteppedCount
pub mod StepCode
pub mod Room
pub mod Prepared
pub mod Marks
