-- A close comes, on all bytes, to one of two things: it is turned back, or the process is closed.
use Rattle.std.specs.Prelude.{ℕ, ◌<◌, ◌≡◌, refl, false, ◌||◌, List, eqb, length}
use Rattle.std.proofs.Common.{arith}
use Rattle.records.specs.Record.{process_count, closed_mask, pending_events}
use Rattle.refusals.specs.Refusals.{bad_record_length, bad_window_length, room_of, bad_state, not_open, named_by}
use Rattle.answers.specs.Answer.{turned_back}
use Rattle.answers.specs.Turns.{by_test}
use Rattle.call_close.specs.Close.{Closed, close_process, close_call}

-- What it answers and leaves then.
pub data Case (w p : ℕ) (s window : List ℕ) (c : Closed) : Type 0 where
  -- ... by a number below 43 that is not take's 35
  turned : (n : ℕ) → 0 < n → n < 43 → eqb n 35 ≡ false
      → c ≡ record { answer = turned_back n 0; bytes = s; window = window } → Case w p s window c
  accepted : not_open (process_count s) (closed_mask s) p ≡ false → named_by p (pending_events w s) ≡ false
      → c ≡ close_process w p s window → Case w p s window c

abbrev pub CloseCase : ℕ → ℕ → List ℕ → List ℕ → Type 0
CloseCase w p s window = Case w p s window (close_call w p s window)

pub close_case : (w p : ℕ) (s window : List ℕ) → CloseCase w p s window
unfolding close_call
close_case w p s window =
    let by = by_test (Case w p s window) in
    let back : ℕ → Closed = λ n. record { answer = turned_back n 0; bytes = s; window = window } in
    let six = bad_record_length w (length s) || bad_window_length w (length window) in
    by six (back 6) _ (λ _. turned 6 (omega arith) (omega arith) refl refl) λ _.
    by (bad_state w (room_of w (length window)) s) (back 34) _ (λ _. turned 34 (omega arith) (omega arith) refl refl) λ _.
    by (not_open (process_count s) (closed_mask s) p) (back 41) _ (λ _. turned 41 (omega arith) (omega arith) refl refl)
    λ h41.
    by (named_by p (pending_events w s)) (back 42) _ (λ _. turned 42 (omega arith) (omega arith) refl refl) λ h42.
    accepted h41 h42 refl
