-- A move.

-- What a reader has to believe
pub mod Parts
pub mod Move
pub mod MoveExact
-- What is proved
pub mod PartLengths
pub mod PartLaws
pub mod CountLaws
pub mod LengthLaws
pub mod BackLaws
pub mod PlaceLaws
pub mod StandLaws
pub mod FieldLaws
pub mod MoveCases
pub mod MoveTheorem
-- What its functions' contracts cite
pub mod MoveCode
