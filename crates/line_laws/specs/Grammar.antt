-- The grammar of the program's lines, where a number may have any size and a list any length, and a line's fault 1,
-- apart from any reader (01, Examples: the program; Turned back, from the input: 1).
use Rattle.std.specs.Prelude.{ℕ, ◌+◌, ◌<◌, ◌≡◌, ◌⊎◌, Bool, true, false, List, [], ◌∷◌, ◌++◌, map, length, take}
use Rattle.codec.specs.Ascii.{ascii}
use Rattle.rules.specs.Text.{byte_at}
use Rattle.rules.specs.Fault.{StandsAt}
use Rattle.codec.specs.Decimal.{is_digit}
use Rattle.lines.specs.Lines.{k_limit, count_limit, label_limit, process_limit, room_limit}

-- The text of a number: digits, the first of them no needless 0.
unfoldable pub AllDigits : (xs : List ℕ) → Type 0
AllDigits [] = Unit {0}
AllDigits (d ∷ ds) = (is_digit d ≡ true) × AllDigits ds

pub record Numeral (ds : List ℕ) : Type 0 where
  pub some : 0 < length ds
  pub all : AllDigits ds
  pub plain : byte_at ds 0 ≡ 48 → length ds ≡ 1

unfoldable pub Numerals : (lists : List (List ℕ)) → Type 0
Numerals [] = Unit {0}
Numerals (d ∷ ds) = Numeral d × Numerals ds

-- Numbers with a space before each, and with a space between any two.
unfoldable pub spaced : (lists : List (List ℕ)) → List ℕ
spaced [] = []
spaced (d ∷ ds) = 32 ∷ (d ++ spaced ds)

unfoldable pub between : (lists : List (List ℕ)) → List ℕ
between [] = []
between (d ∷ ds) = d ++ spaced ds

-- The pieces of a line, with what refusal 10 asks of each: a byte; a number from `least` to `most` and the byte
-- behind it; a list of numbers up to `most`, ascending or not, `fewest` to `fullest` many, and its closing bracket;
-- such a list with a space before its first number too.
pub data Piece : Type 0 where
  a_byte : (b : ℕ) → Piece
  a_number : (least most b : ℕ) → Piece
  list : (ascending : Bool) (most fewest fullest : ℕ) → Piece
  spaced_list : (most fewest fullest : ℕ) → Piece

-- The texts of a piece, and of pieces one after the other.
unfoldable pub PieceText : (piece : Piece) (x : List ℕ) → Type 0
PieceText (a_byte b) x = x ≡ b ∷ []
PieceText (a_number least most b) x = (ds : List ℕ) × (Numeral ds × (x ≡ ds ++ b ∷ []))
PieceText (list ascending most fewest fullest) x = (ns : List (List ℕ)) × (Numerals ns × (x ≡ between ns ++ 41 ∷ []))
PieceText (spaced_list most fewest fullest) x = (ns : List (List ℕ)) × (Numerals ns × (x ≡ spaced ns ++ 41 ∷ []))

unfoldable pub TextOf : (pieces : List Piece) (t : List ℕ) → Type 0
TextOf [] t = t ≡ []
TextOf (p ∷ ps) t = (x y : List ℕ) × (PieceText p x × (TextOf ps y × (t ≡ x ++ y)))

-- The lines: (watch k room), (start l ..) and (did (p ..) (c ..) (l ..)), for k processes of which n take part.
unfoldable pub watch_pieces : List Piece
watch_pieces = map a_byte (ascii "(watch ") ++ a_number 0 k_limit 32 ∷ a_number 1 room_limit 41 ∷ []

unfoldable pub start_pieces : (k : ℕ) → List Piece
start_pieces k = map a_byte (ascii "(start") ++ spaced_list label_limit k k ∷ []

unfoldable pub did_pieces : (k n : ℕ) → List Piece
did_pieces k n =
    map a_byte (ascii "(did (") ++ list true process_limit 1 8
    ∷ a_byte 32 ∷ a_byte 40 ∷ list false count_limit k k
    ∷ a_byte 32 ∷ a_byte 40 ∷ list false label_limit n n
    ∷ a_byte 41 ∷ []

-- An event's line names n processes, if it names any.
unfoldable pub Names : (s : List ℕ) (n : ℕ) → Type 0
Names s n = (ns : List (List ℕ)) → Numerals ns → StandsAt s 0 (ascii "(did (" ++ (between ns ++ 41 ∷ [])) → length ns
    ≡ n

-- 1: no text of the grammar begins with the bytes up to and with this one; or the line ends here and is no whole text.
unfoldable pub LineFault1 : (ps : List Piece) (s : List ℕ) (i : ℕ) → Type 0
LineFault1 ps s i =
    ((i < length s) × ((t : List ℕ) → TextOf ps t → take (i + 1) t ≡ take (i + 1) s → ⊥))
    ⊎ ((i ≡ length s) × (TextOf ps s → ⊥))
