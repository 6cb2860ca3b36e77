-- What the code of take keeps to: the number that it is turned back with.
use Rattle.std.specs.Prelude.{ℕ, cond, List, length}
use Rattle.refusals.specs.Refusals.{room_of, bad_state}
use Rattle.call_take.specs.Take.{bad_lengths}

-- The number that a take is turned back with, by the lengths of window and scratch; 0 for none.
unfoldable pub take_fault : ℕ → List ℕ → ℕ → ℕ → ℕ
take_fault w s n m = cond (bad_lengths w (length s) n m) 6 (cond (bad_state w (room_of w n) s) 34 0)
