-- Numbers in the words that the calls take (01, Clocks and cuts: an event's mask, clock and labels).
use Rattle.std.specs.Prelude.{ℕ, zero, suc, ◌+◌, ◌*◌, ◌%◌, List, [], ◌∷◌, set, replicate}

-- Parts below a base, the first lowest.
unfoldable pub packed_word : (base : ℕ) (xs : List ℕ) → ℕ
packed_word base [] = 0
packed_word base (v ∷ vs) = v % base + base * packed_word base vs

-- Eight numbers: the first n values each at its own place, 0 at the others.
unfoldable pub placed : (n : ℕ) (places values : ℕ → ℕ) → List ℕ
placed zero places values = replicate 8 0
placed (suc j) places values = set (placed j places values) (places j) (values j)
