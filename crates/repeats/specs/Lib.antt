-- Events that are sent again.

-- What a reader has to believe
pub mod Repeats
-- What is proved
pub mod RepeatLaws
-- What its functions' contracts cite
pub mod RepeatsCode
