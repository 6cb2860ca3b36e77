-- The words that C hands over: a clock in two of them or in four, labels in one, each process's part behind the one
-- before.
use Rattle.std.specs.Prelude.{ℕ, ◌*◌, ◌/◌, ◌%◌, ◌^◌, List, [], ◌∷◌, ◌++◌}
use Rattle.clocks.specs.Counts.{list_of}

-- Part number i of a word, of so many bits each, the lowest first.
unfoldable pub part : (bits word i : ℕ) → ℕ
part bits word i = word / 2 ^ (bits * i) % 2 ^ bits

-- Counts of w bytes, as many as a word of eight bytes has, out of each word: eight out of two words for counts of two
-- bytes, out of four for counts of four (02 [6]).
unfoldable pub unpack_counts : (w : ℕ) (xs : List ℕ) → List ℕ
unpack_counts w [] = []
unpack_counts w (word ∷ words) = list_of (8 / w) (part (8 * w) word) ++ unpack_counts w words

-- Eight label bytes.
unfoldable pub unpack_labels : (word : ℕ) → List ℕ
unpack_labels word = list_of 8 (part 8 word)
