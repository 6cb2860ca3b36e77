-- The pool of watches that share 1,024 frontiers.

-- What a reader has to believe
pub mod Pool
-- What is proved
pub mod PoolLaws
-- What its functions' contracts cite
pub mod PoolCode
