-- What a step makes once, to choose a new frontier's bytes by without a branch.
use Rattle.std.specs.Prelude.{ℕ, Bool, cond, List}
use Rattle.codec.specs.Bit.{bit}
use Rattle.clocks.specs.Counts.{list_of}

-- A byte to choose by: all its bits are set, or none.
abbrev pub full_byte : Bool → ℕ
full_byte b = cond b 255 0

-- Full bytes at the processes in a mask, empty ones at the others.
abbrev pub full_bytes : ℕ → List ℕ
full_bytes mask = list_of 8 (λ p. full_byte (bit mask p))
