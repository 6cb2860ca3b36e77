-- The definitions of codec, and the laws proved of them.
pub mod Little
pub mod SetsLaws
pub mod LittleLaws
pub mod PutLaws
pub mod LibraryLaws
pub mod Bit
pub mod BitLaws
pub mod LowestBit
pub mod Ascii
pub mod Decimal
pub mod DecimalLaws
