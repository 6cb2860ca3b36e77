-- The busiest day.

-- What a reader has to believe
pub mod Sharing
pub mod Busiest
pub mod BusiestExact
-- What is proved
pub mod SharingLaws
pub mod DayBytes
pub mod BusiestLaws
pub mod BusiestTheorem
-- What its functions' contracts cite
pub mod BusiestCode
