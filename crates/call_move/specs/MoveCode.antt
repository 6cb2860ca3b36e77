-- What the code of a move keeps to: whether one of some counts is too large, the record's parts as far as they are
-- done, and the number that a move is turned back with.
use Rattle.std.specs.Prelude.{ℕ, ◌*◌, Bool, cond, List, [], ◌∷◌, ◌++◌, length}
use Rattle.codec.specs.Little.{number}
use Rattle.clocks.specs.Bounded.{any_below}
use Rattle.refusals.specs.Refusals.{room_of, bad_state}
use Rattle.call_move.specs.Parts.{Part, plain, counts, many_of, event_parts}
use Rattle.call_move.specs.Move.{too_large, bad_move_lengths, overflows}

-- One of the first n counts of v bytes has no place in w bytes.
unfoldable pub any_too_large : ℕ → ℕ → ℕ → List ℕ → Bool
any_too_large v w n s = any_below n (λ i. too_large w (number s (i * v) v))

-- A record's parts before the pending events; and with the first i of these.
unfoldable pub front_parts : List Part
front_parts = plain 8 ∷ counts 8 ∷ counts 64 ∷ plain 192 ∷ []

unfoldable pub parts_to : ℕ → List Part
parts_to i = front_parts ++ many_of i event_parts

-- The number that a move is turned back with, by the lengths of the buffers that it writes; 0 for none.
unfoldable pub move_fault : ℕ → ℕ → List ℕ → List ℕ → ℕ → ℕ → ℕ
move_fault v w s window t target =
    cond (bad_move_lengths v w (length s) (length window) t target) 6
    (cond (bad_state v (room_of v (length window)) s) 34 (cond (overflows v w s window) 43 0))
