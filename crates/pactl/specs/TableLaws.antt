-- Laws of a table's bytes.
use Rattle.std.specs.Prelude.{◌*◌, ◌≡◌, refl, List, [], ◌∷◌, ◌++◌, length}
use Rattle.std.proofs.Common.{arith}
use Rattle.pactl.specs.declared.Line.{Line}
use Rattle.pactl.specs.Table.{table_bytes}

-- Three bytes a line.
pub length-table_bytes : (ls : List Line) → length (table_bytes ls) ≡ 3 * length ls
unfolding table_bytes
length-table_bytes [] = refl
length-table_bytes (l ∷ ls) = omega (arith, length-table_bytes ls)

-- Lines behind lines are bytes behind bytes.
pub table_bytes-append : (ls ms : List Line) → table_bytes (ls ++ ms) ≡ table_bytes ls ++ table_bytes ms
unfolding table_bytes
table_bytes-append [] ms = refl
table_bytes-append (l ∷ ls) ms = rw (table_bytes-append ls ms)
