-- What is proved of tests that compute, and of stored counts and events.
pub mod BoundedLaws
pub mod BoundedTurns
pub mod TestedLaws
pub mod CountsLaws
pub mod CallLaws
pub mod SearchLaws
pub mod StepCountLaws
pub mod RefusalLaws
pub mod KeyLaws
pub mod SameEventLaws
