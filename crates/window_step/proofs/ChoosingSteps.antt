-- Choosing by a full or an empty byte.
use Prim.Native.Nat.{ℕ, ◌<◌}
use native.Mathlib.Nat.{mod-eq_of_lt}
use mathlib.Core.Path.{◌≡◌, ◌∙◌}
use mathlib.Core.Bool.{Bool, true, false, cond}
use lib.Bits.{bit_and, bit_or, bit_xor, and_mask, and_zero_r, or_zero_r}
use Rattle.window_step.specs.FullBytes.{full_byte}

and_full : (a : ℕ) → a < 256 → bit_and a 255 ≡ a
and_full a h = and_mask a 8 ∙ mod-eq_of_lt h

pub chosen_byte : (first : Bool) (a b : ℕ) → a < 256 → b < 256 → bit_or (bit_and a (full_byte first)) (bit_and b (bit_xor 255 (full_byte first))) ≡ cond first a b
chosen_byte true a b h l = rw (and_full a h, and_zero_r, or_zero_r)
chosen_byte false a b h l = rw (and_zero_r, and_full b l)
