-- Find (01, The calls; 02 [4]): the first kept frontier at which a line of the table holds, or none.
use Rattle.std.specs.Prelude.{ℕ, ◌+◌, cond, ◌||◌, List, [], ◌∷◌, leb, length}
use Rattle.frontiers.specs.declared.Frontier.{Frontier}
use Rattle.codec.specs.Bit.{bit}
use Rattle.frontiers.specs.Bytes.{frontiers}
use Rattle.records.specs.Record.{line_total, kept_count}
use Rattle.refusals.specs.Refusals.{bad_record_length, bad_window_length, room_of, bad_state}
use Rattle.answers.specs.Answer.{Answer, turned_back, found, absent}
use Rattle.numbers.specs.Refusal.{length_number, no_line_number, state_number}

-- The place, from i on, of the first frontier at which the line holds; none if there is none.
unfoldable pub find_from : (line i : ℕ) (fs : List Frontier) → Answer
find_from line i [] = absent
find_from line i (f ∷ fs) = cond (bit f.values line) (found i) (find_from line (i + 1) fs)

unfoldable pub find_call : (w line : ℕ) (s window : List ℕ) → Answer
find_call w line s window =
    cond (bad_record_length w (length s) || bad_window_length w (length window)) (turned_back length_number 0)
    (cond (bad_state w (room_of w (length window)) s) (turned_back state_number 0)
    (cond (leb (line_total s) line) (turned_back no_line_number 0)
    (find_from line 0 (frontiers w window (kept_count s)))))
