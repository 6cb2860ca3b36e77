-- The bits of a mask, as in the mask of an event (01, Clocks and cuts: bit p says that process p took part).
use Rattle.std.specs.Prelude.{ℕ, ◌/◌, ◌%◌, ◌^◌, Bool, eqb}

-- Bit p of a mask is set. (Bit 0 is the lowest.)
unfoldable pub bit : (m p : ℕ) → Bool
bit m p = eqb (m / 2 ^ p % 2) 1
