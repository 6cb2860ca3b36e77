-- What the line with the start labels gives: labels as the bytes of a word, or its fault by number and place.
use Rattle.std.specs.Prelude.{ℕ}

pub data StartLine : Type 0 where
  Start : (labels : ℕ) → StartLine
  Refused : (number place : ℕ) → StartLine
