-- Reading a line from left to right, piece by piece. A reading stands at a place and keeps the number read last, or
-- is the first fault met; each piece goes on from a place, and leaves a fault as it is. No piece has a fault before
-- the place where it begins, so the fault that stays is the one with the lowest place.
use Rattle.std.specs.Prelude.{ℕ, ◌+◌, cond, ◌&&◌, List, [], ◌∷◌, eqb, ltb, length}
use Rattle.rules.specs.Text.{byte_at}
use Rattle.line_pieces.specs.Read.{Read, At, Refused}
use Rattle.line_pieces.specs.Number.{number_at}

-- The number read last.
unfoldable pub value_read : (r : Read) → ℕ
value_read (At i v) = v
value_read (Refused n i) = 0

-- One byte that the grammar has there, else 1.
unfoldable pub then_byte : (s : List ℕ) (b : ℕ) (r : Read) → Read
then_byte s b (At i v) = cond (eqb (byte_at s i) b) (At (i + 1) v) (Refused 1 i)
then_byte s b (Refused n i) = Refused n i

-- Several such bytes.
unfoldable pub then_bytes : (s xs : List ℕ) (r : Read) → Read
then_bytes s [] r = r
then_bytes s (b ∷ bs) r = then_bytes s bs (then_byte s b r)

-- A line's first bytes.
abbrev pub head_read : (s bs : List ℕ) → Read
head_read s bs = then_bytes s bs (At 0 0)

-- A number from `least` to `most`.
unfoldable pub then_number : (s : List ℕ) (least most : ℕ) (r : Read) → Read
then_number s least most (At i v) = number_at s i least most
then_number s least most (Refused n i) = Refused n i

-- The line's end: a byte there is 1.
unfoldable pub then_end : (s : List ℕ) (r : Read) → Read
then_end s (At i v) = cond (ltb i (length s)) (Refused 1 i) (At i v)
then_end s (Refused n i) = Refused n i

-- The bytes that a line may have (01, Turned back, from the input: 10).
abbrev pub line_limit : ℕ
line_limit = 4096

-- A line over the limit is 10 at the place of the limit, behind the faults that stand up to there.
unfoldable pub limited : (s : List ℕ) (r : Read) → Read
limited s (At i v) = cond (ltb line_limit (length s)) (Refused 10 line_limit) (At i v)
limited s (Refused n i) = cond (ltb line_limit (length s) && ltb line_limit i) (Refused 10 line_limit) (Refused n i)

-- A line's closing bracket and its end.
unfoldable pub then_last : (s : List ℕ) (r : Read) → Read
then_last s r = limited s (then_end s (then_byte s 41 r))
