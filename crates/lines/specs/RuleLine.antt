-- What the rule's line gives: the rule is the bytes from `start` to before `end`; or its fault by number and place. A
-- fault of the rule itself has its place counted from `start`.
use Rattle.std.specs.Prelude.{ℕ}

pub data RuleLine : Type 0 where
  Rule : (start end : ℕ) → RuleLine
  Refused : (number place : ℕ) → RuleLine
