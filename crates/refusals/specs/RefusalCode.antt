-- The number that a record and a window alone turn a call back with, as the functions of the calls find it.
use Rattle.std.specs.Prelude.{ℕ, Bool, cond, ◌||◌, List, eqb, ltb, length}
use Rattle.refusals.specs.Refusals.{bad_record_length, bad_window_length, room_of, bad_processes, bad_state}

-- 6 and 34, for a window of n bytes; 0 for none.
unfoldable pub watch_fault : ℕ → List ℕ → ℕ → ℕ
watch_fault w s n = cond (bad_record_length w (length s) || bad_window_length w n) 6 (cond (bad_state w (room_of w n) s) 34 0)

-- The record's numbers: k not 1 to 8, more than 32 pending, lines not 1 to 64, kept not 1 to 1,024 or above the room.
unfoldable pub bad_numbers : ℕ → ℕ → ℕ → ℕ → ℕ → Bool
bad_numbers k pending lines kept room =
    bad_processes k || (ltb 32 pending || (eqb lines 0 || (ltb 64 lines ||
    (eqb kept 0 || (ltb 1024 kept || ltb room kept)))))
