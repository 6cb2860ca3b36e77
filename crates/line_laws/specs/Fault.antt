-- The faults of a line by 10, apart from any reader (01, Turned back, from the input: 10), and the first fault.
use Rattle.std.specs.Prelude.{ℕ, ◌+◌, ◌<◌, ◌≡◌, ◌⊎◌, Bool, cond, List, [], ◌∷◌, ◌++◌, length, drop}
use Rattle.numbers.specs.Refusal.{grammar_number, line_limit_number}
use Rattle.rules.specs.Text.{byte_at}
use Rattle.codec.specs.Decimal.{digits, value}
use Rattle.line_pieces.specs.Reading.{line_limit}
use Rattle.line_laws.specs.Grammar.{Numeral, Numerals, spaced, between, Piece, a_byte, a_number, list, spaced_list, PieceText, LineFault1}
use Rattle.rules.specs.Fault.{Span}

-- The digits at a place are a number's text, and the number is below `least` or above `most`.
unfoldable pub NumberOut : (s : List ℕ) (i least most : ℕ) → Type 0
NumberOut s i least most =
    Numeral (digits (drop i s)) × ((value (digits (drop i s)) < least) ⊎ (most < value (digits (drop i s))))

-- Numbers with a space behind each.
unfoldable pub trailed : (lists : List (List ℕ)) → List ℕ
trailed [] = []
trailed (d ∷ ds) = d ++ 32 ∷ trailed ds

-- What the number behind these numbers has to be at least: in an ascending list, above the last.
unfoldable pub least_behind : (ascending : Bool) (least : ℕ) → (lists : List (List ℕ)) → ℕ
least_behind ascending least [] = least
least_behind ascending least (d ∷ ds) = least_behind ascending (cond ascending (value d + 1) 0) ds

-- A list has not `fewest` to `fullest` numbers.
abbrev pub Miscounted : (ns : List (List ℕ)) (fewest fullest : ℕ) → Type 0
Miscounted ns fewest fullest = (length ns < fewest) ⊎ (fullest < length ns)

-- 10 in a piece that begins at place j: at a number's first digit, or at the closing bracket of a list of a wrong
-- length.
unfoldable pub TenIn : (piece : Piece) (s : List ℕ) (j i : ℕ) → Type 0
TenIn (a_byte b) s j i = ⊥
TenIn (a_number least most b) s j i = (i ≡ j) × NumberOut s i least most
TenIn (list ascending most fewest fullest) s j i =
    ((ns : List (List ℕ)) × (Numerals ns × (Span s j (trailed ns) i × NumberOut s i (least_behind ascending 0 ns) most)))
    ⊎ ((ns : List (List ℕ))
    × (Numerals ns × (Span s j (between ns) i × ((byte_at s i ≡ 41) × Miscounted ns fewest fullest))))
TenIn (spaced_list most fewest fullest) s j i =
    ((ns : List (List ℕ)) × (Numerals ns × (Span s j (spaced ns ++ 32 ∷ []) i × NumberOut s i 0 most)))
    ⊎ ((ns : List (List ℕ))
    × (Numerals ns × (Span s j (spaced ns) i × ((byte_at s i ≡ 41) × Miscounted ns fewest fullest))))

-- 10 in pieces that begin at place j: in one of them, where texts of those before it stand.
unfoldable pub TenFrom : (pieces : List Piece) (s : List ℕ) (j i : ℕ) → Type 0
TenFrom [] s j i = ⊥
TenFrom (p ∷ ps) s j i = TenIn p s j i ⊎ ((x : List ℕ) × (e : ℕ) × (PieceText p x × (Span s j x e × TenFrom ps s e i)))

-- 10 in a line: in its pieces, or at the limit of a line that is over it.
unfoldable pub Fault10 : (ps : List Piece) (s : List ℕ) (i : ℕ) → Type 0
Fault10 ps s i = TenFrom ps s 0 i ⊎ ((line_limit < length s) × (i ≡ line_limit))

-- A line has fault n at place i.
unfoldable pub LineFault : (n : ℕ) (ps : List Piece) (s : List ℕ) (i : ℕ) → Type 0
LineFault n ps s i = ((n ≡ grammar_number) × LineFault1 ps s i) ⊎ ((n ≡ line_limit_number) × Fault10 ps s i)

-- The first fault, and of those at its place the one with the lowest number.
pub record FirstLineFault (n : ℕ) (ps : List Piece) (s : List ℕ) (i : ℕ) : Type 0 where
  pub here : LineFault n ps s i
  pub none_before : (m j : ℕ) → j < i → LineFault m ps s j → ⊥
  pub none_lower : (m : ℕ) → m < n → LineFault m ps s i → ⊥
