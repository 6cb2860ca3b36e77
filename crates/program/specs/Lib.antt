-- The program without its input and output.

-- What a reader has to believe
pub mod Split
pub mod Stages
pub mod Turn
-- What is proved of it
pub mod CallAnswers
pub mod LineAnswers
pub mod SessionLaws
pub mod PendingLaws
pub mod TakesTheorem
pub mod Rooms
