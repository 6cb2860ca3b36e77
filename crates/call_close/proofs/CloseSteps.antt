-- Close from its lengths on: what turns it back, what is known where nothing does, and what its parts make up.
use Prim.Native.Nat.{ℕ, ◌*◌, ◌≤◌, ◌<◌}
use native.Mathlib.Omega.{arith}
use mathlib.Core.Path.{◌≡◌, ◌∙◌}
use mathlib.Core.Bool.{false, cond, ◌||◌}
use mathlib.Core.List.{List}
use lib.Dec.{leb, eqb, lit<}
use lib.ListN.{length}
use borrow.Author.Tests.{ne_eqb, eq-eqb, leb-false}
use Rattle.codec.specs.Bit.{bit}
use Rattle.clocks.specs.stored.BoundedLaws.{or-false_e}
use Rattle.frontiers.specs.declared.Frontier.{Frontier}
use Rattle.frontiers.specs.Bytes.{frontier_length, replaced}
use Rattle.frontiers.specs.WindowLaws.{length-frontiers}
use Rattle.records.specs.Record.{record_length, process_count, closed_mask, kept_count, taken_counts, pending_events, closed_set}
use Rattle.refusals.specs.Refusals.{bad_record_length, bad_window_length, room_of, bad_state, not_open, named_by}
use Rattle.refusals.specs.RefusalLaws.{right_length, state-within, room_within}
use Rattle.answers.specs.Answer.{reply_word, turned_back}
use Rattle.answers.specs.Turns.{chosen_by, passed, end, turn}
use Rattle.call_close.specs.Close.{Closed, closing, remaining, close_process, close_call}
use Rattle.call_close.specs.CloseCode.{close_fault, staying}

-- An open process is one of k.
pub open_below : (k closed p : ℕ) → not_open k closed p ≡ false → p < k
unfolding not_open
open_below k closed p h = leb-false k p (or-false_e (leb k p) (bit closed p) h).0

-- What is known of the buffers where nothing turns a close back.
pub record Fit (w p : ℕ) (s : List ℕ) (n : ℕ) : Type 0 where
  pub long : length s ≡ record_length w
  pub one_of_eight : p < 8
  pub processes : process_count s ≤ 8
  pub few_kept : kept_count s ≤ 1024
  pub kept_within : kept_count s * frontier_length w ≤ n

module _ (w p : ℕ) (s window : List ℕ) where
  -- What a close that is turned back answers and leaves.
  turned : ℕ → Closed
  turned n = record { answer = turned_back n 0; bytes = s; window = window }

  abbrev fault : ℕ
  fault = close_fault w p s (length window)

  close_by : close_call w p s window ≡ cond (eqb fault 0) (close_process w p s window) (turned fault)
  unfolding close_call close_fault turned
  close_by =
      chosen_by
      (turn (bad_record_length w (length s) || bad_window_length w (length window)) 6
      (turn (bad_state w (room_of w (length window)) s) 34
      (turn (not_open (process_count s) (closed_mask s) p) 41
      (turn (named_by p (pending_events w s)) 42 end))))
      turned (close_process w p s window) (lit< tt, (lit< tt, (lit< tt, (lit< tt, tt))))

  pub close_turned : (n : ℕ) → n ≡ fault → 0 < n
      → (n ≡ reply_word (close_call w p s window).answer) × (s ≡ (close_call w p s window).bytes)
      × (window ≡ (close_call w p s window).window)
  unfolding turned reply_word
  close_turned n e h =
      let whole : close_call w p s window ≡ turned n = close_by ∙ rw (← e, ne_eqb n 0 (λ z. omega arith)) in
      (rw whole (omega arith), rw whole, rw whole)

  pub close_goes : fault ≡ 0 → close_call w p s window ≡ close_process w p s window
  close_goes h = close_by ∙ rw (eq-eqb fault 0 h)

  pub close_fit : fault ≡ 0 → Fit w p s (length window)
  unfolding close_fault
  close_fit h =
      let n = length window in
      let lengths = passed (bad_record_length w (length s) || bad_window_length w n) 6 _ (lit< tt) h in
      let good = passed (bad_state w (room_of w n) s) 34 _ (lit< tt) lengths.1 in
      let opened = (passed (not_open (process_count s) (closed_mask s) p) 41 _ (lit< tt) good.1).0 in
      let right = or-false_e (bad_record_length w (length s)) (bad_window_length w n) lengths.0 in
      let state = state-within w (room_of w n) s good.0 in
      record {
        long = right_length w (length s) right.0;
        one_of_eight = omega (arith, open_below (process_count s) (closed_mask s) p opened, state.0);
        processes = state.0;
        few_kept = state.3;
        kept_within = room_within w (kept_count s) n state.4;
      }

  -- The parts of a close: the frontiers dropped, by what was read of the record.
  module _ (n k closed kept : ℕ) (reached : List ℕ) where
    abbrev gs : List Frontier
    gs = staying w k closed reached window n

    pub closed_by : n ≡ kept_count s → k ≡ process_count s → closed ≡ closing (closed_mask s) p → reached ≡ taken_counts w s
        → kept ≡ length gs
        → (65536 * kept ≡ reply_word (close_process w p s window).answer)
        × (closed_set s closed kept ≡ (close_process w p s window).bytes)
        × (replaced w window n gs ≡ (close_process w p s window).window)
    unfolding close_process remaining reply_word
    closed_by e f g h q =
        (rw (q, e, f, g, h), rw (q, e, f, g, h), rw (e, f, g, h, length-frontiers w window (kept_count s)))
