-- Sharings of events, and the frontiers that they keep: laws without code.

-- What a reader has to believe
pub mod Alone
pub mod SharingExact
-- What is proved: the even sharing keeps the most
pub mod Picked
pub mod Best
-- How many cuts there are
pub mod CutLists
pub mod AloneLaws
-- The events of a day
pub mod DayLaws
