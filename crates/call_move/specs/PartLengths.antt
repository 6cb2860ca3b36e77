-- The length of a part of a record or a window, and of parts one after the other: what the laws of moves go by.
use Rattle.std.specs.Prelude.{ℕ, ◌+◌, ◌*◌, List, [], ◌∷◌}
use Rattle.call_move.specs.Parts.{Part, plain, counts}

unfoldable pub part_length : (w : ℕ) (part : Part) → ℕ
part_length w (plain n) = n
part_length w (counts n) = n * w

unfoldable pub length_of : (w : ℕ) (parts : List Part) → ℕ
length_of w [] = 0
length_of w (p ∷ ps) = part_length w p + length_of w ps
