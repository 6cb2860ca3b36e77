-- Take from its lengths on: what turns it back, and what is known where nothing does.
use Prim.Native.Nat.{ℕ, ◌*◌, ◌≤◌, ◌<◌}
use native.Mathlib.Omega.{arith}
use native.Mathlib.Nat.{min-eq_right}
use mathlib.Core.Path.{◌≡◌, ap, ◌∙◌}
use mathlib.Core.Bool.{not, cond, ◌||◌}
use mathlib.Core.List.{List}
use lib.Dec.{eqb, lit<}
use lib.ListN.{length}
use borrow.Author.Tests.{ne_eqb, eq-eqb, eqb-true, not-false}
use Rattle.frontiers.specs.Bytes.{frontier_length}
use Rattle.records.specs.Record.{record_length, process_count, line_total, pending_count, kept_count}
use Rattle.refusals.specs.Refusals.{bad_record_length, bad_window_length, room_of, bad_state}
use Rattle.answers.specs.Answer.{reply_word, turned_back}
use Rattle.call_take.specs.Take.{Taken, take_within, allowed_of, take_capped, take_call}
use Rattle.refusals.specs.RefusalLaws.{right_length, state-within, room_within, room_few}
use Rattle.answers.specs.Turns.{chosen_by, passed, end, turn}
use Rattle.clocks.specs.stored.BoundedLaws.{or-false_e}
use Rattle.call_take.specs.TakeCode.{take_fault}

-- What a take that is turned back answers and leaves.
turned : List ℕ → List ℕ → List ℕ → ℕ → Taken
turned s window scratch n = record { answer = turned_back n 0; bytes = s; window = window; scratch = scratch }

-- What is known of the buffers where nothing turns a take back.
pub record Fit (w : ℕ) (s : List ℕ) (n m : ℕ) : Type 0 where
  pub long : length s ≡ record_length w
  pub processes : process_count s ≤ 8
  pub some_line : 1 ≤ line_total s
  pub few_lines : line_total s ≤ 64
  pub pending : pending_count s ≤ 32
  pub few_kept : kept_count s ≤ 1024
  pub kept_within : kept_count s * frontier_length w ≤ n
  pub few_room : room_of w n ≤ 1024
  pub room_inside : room_of w n * frontier_length w ≤ n
  pub scratch : m ≡ n

module _ (w : ℕ) (s window scratch : List ℕ) where
  abbrev fault : ℕ
  fault = take_fault w s (length window) (length scratch)

  take_by : take_call w s window scratch
      ≡ cond (eqb fault 0) (take_within w (allowed_of w 1024 window) s window) (turned s window scratch fault)
  unfolding take_capped take_fault turned
  take_by =
      chosen_by (turn (bad_record_length w (length s) || (bad_window_length w (length window) || not (eqb (length scratch) (length window)))) 6 (turn (bad_state w (room_of w (length window)) s) 34 end))
      (turned s window scratch) (take_within w (allowed_of w 1024 window) s window) (lit< tt, (lit< tt, tt))

  pub take-turned : (n : ℕ) → n ≡ fault → 0 < n
      → (n ≡ reply_word (take_call w s window scratch).answer) × (s ≡ (take_call w s window scratch).bytes)
      × (window ≡ (take_call w s window scratch).window) × (scratch ≡ (take_call w s window scratch).scratch)
  unfolding turned reply_word
  take-turned n e h =
      let whole : take_call w s window scratch ≡ turned s window scratch n = take_by ∙ rw (← e, ne_eqb n 0 (λ z. omega arith)) in
      (rw whole (omega arith), rw whole, rw whole, rw whole)

  pub take_fit : fault ≡ 0 → Fit w s (length window) (length scratch)
  unfolding take_fault
  take_fit h =
      let n = length window in
      let lengths = passed (bad_record_length w (length s) || (bad_window_length w n || not (eqb (length scratch) n))) 6 (cond (bad_state w (room_of w n) s) 34 0) (lit< tt) h in
      let good = (passed (bad_state w (room_of w n) s) 34 0 (lit< tt) lengths.1).0 in
      let behind = or-false_e (bad_record_length w (length s)) (bad_window_length w n || not (eqb (length scratch) n)) lengths.0 in
      let last = or-false_e (bad_window_length w n) (not (eqb (length scratch) n)) behind.1 in
      let state = state-within w (room_of w n) s good in
      record {
        long = right_length w (length s) behind.0;
        processes = state.0;
        some_line = state.5;
        few_lines = state.2;
        pending = state.1;
        few_kept = state.3;
        kept_within = room_within w (kept_count s) n state.4;
        few_room = room_few w n last.0;
        room_inside = room_within w (room_of w n) n (omega arith);
        scratch = eqb-true (length scratch) n (not-false (eqb (length scratch) n) last.1);
      }

  -- a window of a right length has no room beyond the cap
  pub take_goes : fault ≡ 0 → take_call w s window scratch ≡ take_within w (room_of w (length window)) s window
  take_goes h =
      take_by
      ∙ rw (eq-eqb fault 0 h) (ap (λ (n : ℕ). take_within w n s window) (min-eq_right (take_fit h).few_room))
