-- The refusals, test by test, as the functions go through them.
use Prim.Native.Nat.{ℕ, ◌-◌}
use native.Mathlib.Omega.{arith}
use mathlib.Core.Path.{◌≡◌}
use mathlib.Core.List.{List}
use lib.ListN.{drop, length, take, length-drop}
use lib.Seq.{take_all}
use Rattle.pactl.specs.TableBytes.{lines_of}
use Rattle.records.specs.Record.{line_total, table_lines, table_place}

-- ---- 34

-- The table that is lent is the record's from its place on.
pub lent_table : (w : ℕ) (s : List ℕ) → lines_of (take (length s - table_place w) (drop (table_place w) s)) (line_total s) ≡ table_lines w s
unfolding table_lines
lent_table w s =
    let whole : take (length s - table_place w) (drop (table_place w) s) ≡ drop (table_place w) s = take_all (length s - table_place w) (drop (table_place w) s) (simp length-drop (omega arith)) in
    rw whole
