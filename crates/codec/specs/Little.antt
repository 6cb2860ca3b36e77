-- Numbers as bytes, low byte first, as record and window hold them (01, The window).
use Rattle.std.specs.Prelude.{ℕ, zero, suc, ◌+◌, ◌*◌, ◌/◌, ◌%◌, ◌<◌, List, [], ◌∷◌, take, drop, get_or}
use Rattle.std.proofs.lemmas.List.Edits.{sets}

-- The bytes of a number in a given width, low byte first.
unfoldable pub bytes_of : (n v : ℕ) → List ℕ
bytes_of zero v = []
bytes_of (suc n) v = v % 256 ∷ bytes_of n (v / 256)

-- The number that bytes are, low byte first.
unfoldable pub value_of : (xs : List ℕ) → ℕ
value_of [] = 0
value_of (b ∷ bs) = b + 256 * value_of bs

-- The number of n bytes at a place of s.
unfoldable pub number : (s : List ℕ) (place n : ℕ) → ℕ
number s place n = value_of (take n (drop place s))

-- s with the n bytes of v stored at a place.
unfoldable pub put : (s : List ℕ) (place n v : ℕ) → List ℕ
put s place n v = sets s place (bytes_of n v)

-- Every element is a byte: below 256. (Past the end `get_or` gives 0.)
abbrev pub Bytes : (s : List ℕ) → Type 0
Bytes s = (i : ℕ) → get_or s i 0 < 256
