-- Frontiers in bytes.

-- What a reader has to believe
pub mod Bytes
pub mod Listed
-- What is proved of them
pub mod ListLaws
pub mod Width
pub mod Shaped
pub mod BytesLaws
pub mod WindowLaws
pub mod StoreLaws
