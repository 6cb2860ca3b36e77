-- The lines of a table (01, The rule).
use Rattle.std.specs.Prelude.{ℕ}
use Rattle.pactl.specs.declared.Line.{Line}

-- The six kinds of line (01, The rule: kinds 0 to 5). In the first the numbers are a process and a proposition, in the
-- others lines.
abbrev pub line : (kind a b : ℕ) → Line
line kind a b = record { kind = kind; a = a; b = b }

abbrev pub proposition_line : (p b : ℕ) → Line
proposition_line p b = line 0 p b

abbrev pub not_line : (a : ℕ) → Line
not_line a = line 1 a 0

abbrev pub and_line : (a b : ℕ) → Line
and_line a b = line 2 a b

abbrev pub ey_line : (a : ℕ) → Line
ey_line a = line 3 a 0

abbrev pub es_line : (a b : ℕ) → Line
es_line a b = line 4 a b

abbrev pub as_line : (a b : ℕ) → Line
as_line a b = line 5 a b
