-- Pieces of a line: what their reading says of the text.
pub mod ReadPieces
pub mod NumberTextRead
pub mod PieceTextRead
pub mod PieceBegun
