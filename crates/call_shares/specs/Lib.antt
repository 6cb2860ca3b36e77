-- Setting the shares of a pool.

-- What a reader has to believe
pub mod Shares
pub mod SharesExact
-- What is proved
pub mod SharesLaws
pub mod SharesCases
pub mod SharesTheorem
