-- A table read from its bytes: three bytes a line (01, The rule: a table line has three bytes).
use Rattle.std.specs.Prelude.{ℕ, zero, suc, ◌+◌, ◌*◌, List, [], ◌∷◌, get_or}
use Rattle.pactl.specs.declared.Line.{Line}
use Rattle.pactl.specs.Line.{line}

-- Line i of a table's bytes: kind, a, b.
unfoldable pub line_at : (bytes : List ℕ) (i : ℕ) → Line
line_at bytes i = line (get_or bytes (3 * i) 0) (get_or bytes (3 * i + 1) 0) (get_or bytes (3 * i + 2) 0)

-- n lines of a table's bytes, from line i on.
unfoldable pub lines_from : (bytes : List ℕ) (n i : ℕ) → List Line
lines_from bytes zero i = []
lines_from bytes (suc n) i = line_at bytes i ∷ lines_from bytes n (i + 1)

-- The first n lines of a table's bytes.
abbrev pub lines_of : (bytes : List ℕ) (n : ℕ) → List Line
lines_of bytes n = lines_from bytes n 0
