-- Numbers in decimal digits (01, Examples: the program; 02 [7]): written without needless zeros, and read.
use Rattle.std.specs.Prelude.{ℕ, zero, suc, ◌+◌, ◌-◌, ◌*◌, ◌/◌, ◌%◌, Bool, cond, ◌&&◌, List, [], ◌∷◌, ◌++◌, leb, ltb}

-- ---- Written

-- A number's decimal digits, without needless zeros, for a number of at most so many digits.
unfoldable pub numeral_of : (most n : ℕ) → List ℕ
numeral_of zero n = []
numeral_of (suc most) n = cond (ltb n 10) ((48 + n) ∷ []) (numeral_of most (n / 10) ++ ((48 + n % 10) ∷ []))

-- The digits of a number of 64 bits, which are at most 20.
abbrev pub numeral : (n : ℕ) → List ℕ
numeral n = numeral_of 20 n

-- ---- Read

-- A byte is a decimal digit.
abbrev pub is_digit : (c : ℕ) → Bool
is_digit c = leb 48 c && leb c 57

-- The digits that a text begins with.
unfoldable pub digits : (xs : List ℕ) → List ℕ
digits [] = []
digits (c ∷ s) = cond (is_digit c) (c ∷ digits s) []

-- The number that digits say behind a number that stands already; it has no bound.
unfoldable pub value_from : (v : ℕ) (xs : List ℕ) → ℕ
value_from v [] = v
value_from v (d ∷ ds) = value_from (10 * v + (d - 48)) ds

-- The number that digits say.
abbrev pub value : (ds : List ℕ) → ℕ
value ds = value_from 0 ds
