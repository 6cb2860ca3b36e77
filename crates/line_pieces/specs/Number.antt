-- A number in a program's line (01, Examples: the program; Turned back, from the input: 1 and 10).
use Rattle.std.specs.Prelude.{ℕ, ◌+◌, cond, ◌&&◌, List, [], ◌∷◌, leb, ltb, eqb, length, drop}
use Rattle.codec.specs.Decimal.{digits, value}
use Rattle.line_pieces.specs.Read.{Read, At, Refused}

-- A number is read from its digits ds, which begin at place i, and has to be one of `least` to `most`. 1 where there
-- is no digit, or at the digit behind a needless leading 0; 10 at the first digit where the number is another.
unfoldable pub number_of : (xs : List ℕ) (i least most : ℕ) → Read
number_of [] i least most = Refused 1 i
number_of (d ∷ ds) i least most =
    cond (eqb d 48 && ltb 0 (length ds)) (Refused 1 (i + 1))
    (cond (leb least (value (d ∷ ds)) && leb (value (d ∷ ds)) most) (At (i + length (d ∷ ds)) (value (d ∷ ds)))
    (Refused 10 i))

-- The number at a place: all the digits from there on are its own.
unfoldable pub number_at : (s : List ℕ) (i least most : ℕ) → Read
number_at s i least most = number_of (digits (drop i s)) i least most
