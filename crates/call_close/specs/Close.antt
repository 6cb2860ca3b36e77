-- Close (02 [5]): a process that will send no more is closed, and the window keeps, in their order, the frontiers that
-- stay.
use Rattle.std.specs.Prelude.{ℕ, ◌^◌, cond, ◌||◌, List, length}
use Rattle.std.specs.Int.Bits.{bit_or}
use Rattle.clocks.specs.Counts.{at}
use Rattle.frontiers.specs.declared.Frontier.{Frontier}
use Rattle.frontiers.specs.Bytes.{frontiers, replaced}
use Rattle.window.specs.Step.{kept_by, filtered}
use Rattle.records.specs.Record.{process_count, closed_mask, kept_count, taken_counts, pending_events, closed_set}
use Rattle.refusals.specs.Refusals.{bad_record_length, bad_window_length, room_of, bad_state, not_open, named_by}
use Rattle.answers.specs.Answer.{Answer, turned_back, process_closed}
use Rattle.numbers.specs.Refusal.{length_number, state_number, not_open_number, named_number}

-- What close answers and leaves in the two buffers that it is lent.
pub record Closed : Type 0 where
  pub answer : Answer
  pub bytes : List ℕ
  pub window : List ℕ

-- The mask of the closed processes with process p.
abbrev pub closing : (closed p : ℕ) → ℕ
closing closed p = bit_or closed (2 ^ p)

-- The frontiers that stay where these processes are closed, in their order. (In a watch that calls alone wrote the
-- largest is always among them; in other bytes it may be that none is.)
unfoldable pub remaining : (w : ℕ) (s : List ℕ) (closed : ℕ) (fs : List Frontier) → List Frontier
remaining w s closed fs = filtered (λ f. kept_by 8 (process_count s) closed (at (taken_counts w s)) (at f.counts)) fs

-- Process p is closed.
unfoldable pub close_process : (w p : ℕ) (s window : List ℕ) → Closed
close_process w p s window =
    let closed = closing (closed_mask s) p in
    let fs = frontiers w window (kept_count s) in
    let gs = remaining w s closed fs in
    record {
      answer = process_closed (length gs);
      bytes = closed_set s closed (length gs);
      window = replaced w window (length fs) gs;
    }

unfoldable pub close_call : (w p : ℕ) (s window : List ℕ) → Closed
close_call w p s window =
    let turned : ℕ → Closed = λ n. record { answer = turned_back n 0; bytes = s; window = window } in
    cond (bad_record_length w (length s) || bad_window_length w (length window)) (turned length_number)
    (cond (bad_state w (room_of w (length window)) s) (turned state_number)
    (cond (not_open (process_count s) (closed_mask s) p) (turned not_open_number)
    (cond (named_by p (pending_events w s)) (turned named_number)
    (close_process w p s window))))
