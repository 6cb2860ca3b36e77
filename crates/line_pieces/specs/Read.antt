-- Where a reading stands, with the number read last; or the first fault met, by its number and place (01, Turned back,
-- from the input: 1 and 10).
use Rattle.std.specs.Prelude.{ℕ}

pub data Read : Type 0 where
  At : (place value : ℕ) → Read
  Refused : (number place : ℕ) → Read
