-- What the code of the reader keeps to: lines laid down in a table's bytes, and the answers of its parts.
use Rattle.std.specs.Prelude.{ℕ, ◌+◌, ◌-◌, ◌*◌, ◌≤◌, ◌≡◌, Bool, true, false, cond, ◌&&◌, List, leb, ltb, eqb, length}
use Rattle.std.proofs.lemmas.List.Edits.{sets}
use Rattle.pactl.specs.declared.Line.{Line}
use Rattle.rules.specs.declared.Unary.{Unary}
use Rattle.rules.specs.declared.Unary.TheVariants.{Not, Ey, Ep, Ap, Ay, Eh, Ah}
use Rattle.rules.specs.ReaderCode.{Read, Form, Refused, DigitRead, Digit, NoDigit, read_of}
use Rattle.rules.specs.Line.{lines_at}
use Rattle.pactl.specs.Table.{table_bytes}
use Rattle.rules.specs.Text.{byte_at}
use Rattle.rules.specs.Reader.{Reading, formed, faulty}

-- A table's bytes with lines laid down from line n on.
unfoldable pub lay : List ℕ → ℕ → List Line → List ℕ
lay bytes n ls = sets bytes (3 * n) (table_bytes ls)

-- What is answered where lines are laid down from line n on: the number of lines that are laid down then. It is at most
-- so many more.
pub record Laid (n most : ℕ) (ls : List Line) (old new : List ℕ) (r : ℕ) : Type 0 where
  pub count : r ≡ n + length ls
  pub few : r ≤ n + most
  pub table : new ≡ lay old n ls

-- A word with one form has the lines of true before that form's.
unfoldable pub has_true : Unary → Bool
has_true Not = false
has_true Ey = false
has_true Ep = true
has_true Ap = true
has_true Ay = false
has_true Eh = true
has_true Ah = true

-- The digit at a place, below a bound: 1 if it is no digit, 4 if it is not below.
unfoldable pub digit_at : List ℕ → ℕ → ℕ → DigitRead
digit_at s i bound =
    cond (leb 48 (byte_at s i) && leb (byte_at s i) 57)
    (cond (ltb (byte_at s i - 48) bound) (Digit (byte_at s i - 48)) (NoDigit 4))
    (NoDigit 1)

-- The closing bracket of a form, which `laid` and `closed` count with its lines.
unfoldable pub close_read : List ℕ → ℕ → ℕ → ℕ → Read
close_read s i laid closed = cond (eqb (byte_at s i) 41) (cond (leb closed 64) (Form (i + 1) laid closed) (Refused 3 i)) (Refused 1 i)

-- The table after a reading: a form's lines are laid down from line n on. After a fault it may hold anything.
unfoldable pub LaidDown : ℕ → List ℕ → List ℕ → Reading → Type 0
LaidDown n old new (formed i f) = new ≡ lay old n (lines_at n f)
LaidDown n old new (faulty m i) = Unit {0}

-- The code's answer r, and the table that it leaves, are what a reading says.
pub record Done (laid closed : ℕ) (old new : List ℕ) (reading : Reading) (r : Read) : Type 0 where
  pub answer : r ≡ read_of laid closed reading
  pub table : LaidDown laid old new reading

-- There is room for a form: for its place, its lines and the nesting that is left, whatever the text.
pub record Room (a laid closed i : ℕ) (table : List ℕ) : Type 0 where
  pub deep : a ≤ 32
  pub short : closed ≤ 64
  pub lines : laid + 4 * a ≤ closed + 128
  pub near : i + 9 * (64 - closed) + 8 * a ≤ 832
  pub size : length table ≡ 600
