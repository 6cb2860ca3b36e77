-- The order of frontiers, and the look-up among them.

-- What a reader has to believe
pub mod Order
pub mod Seek
-- What is proved of them
pub mod Ascending
pub mod OrderLaws
pub mod SeekLaws
pub mod KeyLaws
