-- Laws of the byte at a place of a text.
use Rattle.std.specs.Prelude.{ℕ, zero, suc, ◌≤◌, ◌<◌, ◌≡◌, refl, List, [], ◌∷◌, length, get_or}
use Rattle.std.proofs.Common.{le_of_suc-le-suc, arith}
use Rattle.std.proofs.Math.ListN.{get_or-eq_default}
use Rattle.rules.specs.Text.{byte_at}

-- Inside the text it is the text's byte.
pub byte_at_inside : (s : List ℕ) (i : ℕ) → i < length s → get_or s i 0 ≡ byte_at s i
byte_at_inside [] i h = absurd (omega arith)
byte_at_inside (b ∷ s) zero h = refl
byte_at_inside (b ∷ s) (suc i) h = byte_at_inside s i (le_of_suc-le-suc h)

-- Behind the end it is 256.
pub byte_at_behind : (s : List ℕ) (i : ℕ) → length s ≤ i → byte_at s i ≡ 256
byte_at_behind s i h = get_or-eq_default s 256 h
