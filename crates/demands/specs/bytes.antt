-- What is proved of the record's bytes.
pub mod Sized
pub mod InsertLaws
pub mod PlaceLaws
pub mod BlockLaws
pub mod StoredLaws
pub mod RecordBlocks
pub mod RecordLaws
pub mod RoomLaws
pub mod PendingLaws
pub mod SetterLaws
pub mod StatusLaws
pub mod MovedLaws
