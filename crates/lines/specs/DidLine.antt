-- What an event's line gives: a bit for each process that takes part, a clock in four words of two counts each, the
-- lower process in the lower half, and labels as the bytes of a word; or its fault by number and place.
use Rattle.std.specs.Prelude.{ℕ}

pub data DidLine : Type 0 where
  Did : (mask c01 c23 c45 c67 labels : ℕ) → DidLine
  Refused : (number place : ℕ) → DidLine
