-- One theorem to start from, made of all statements about the library.

-- What a reader has to believe
pub mod Theorem
-- What is proved
pub mod TheoremProved
