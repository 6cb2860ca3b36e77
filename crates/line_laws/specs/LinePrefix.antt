-- The statement that a line's first bytes decide its answer, so that the program may pass over the rest of a longer one
-- (proved in LinePrefixDecides).
use Rattle.std.specs.Prelude.{ℕ, ◌≤◌, ◌≡◌, List, take}
use Rattle.lines.specs.Lines.{watch_line, rule_line, start_line, did_line}

-- So many bytes are enough: 4,096 may pass, and eleven digits show that a number which begins in them is too large.
abbrev pub deciding_bytes : ℕ
deciding_bytes = 4107

-- For lines of each kind, where there are k processes.
abbrev pub FirstBytesDecide : Type 0
FirstBytesDecide =
    (n : ℕ) → deciding_bytes ≤ n → (k : ℕ) (s : List ℕ)
    → (watch_line (take n s) ≡ watch_line s)
    × (rule_line (take n s) k ≡ rule_line s k)
    × (start_line (take n s) k ≡ start_line s k)
    × (did_line (take n s) k ≡ did_line s k)
