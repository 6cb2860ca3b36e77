-- The three shared calls, each by its fault.
use Prim.Native.Nat.{ℕ, min, ◌*◌, ◌≤◌, ◌<◌}
use native.Mathlib.Omega.{arith}
use native.Mathlib.Nat.{min-le_right}
use mathlib.Core.Path.{◌≡◌, refl, ◌∙◌}
use mathlib.Core.Bool.{Bool, not, cond, ◌||◌, or_assoc}
use mathlib.Core.List.{List}
use lib.Dec.{eqb, lit<}
use lib.ListN.{length}
use borrow.Author.Tests.{eqb-true, not-false}
use Rattle.clocks.specs.Refusal.{bad_start}
use Rattle.clocks.specs.stored.BoundedLaws.{or-false_e}
use Rattle.frontiers.specs.Bytes.{frontier_length}
use Rattle.records.specs.Record.{record_length, process_count, closed_mask, pending_events}
use Rattle.refusals.specs.Refusals.{bad_record_length, bad_window_length, room_of, bad_processes, bad_state, not_open, named_by}
use Rattle.refusals.specs.RefusalCode.{watch_fault}
use Rattle.refusals.specs.RefusalLaws.{right_length, room_within, room_few}
use Rattle.refusals.specs.FaultLaws.{Good, tests_good, good_watch}
use Rattle.answers.specs.Turns.{passed}
use Rattle.pool.specs.Pool.{bad_pool_length, no_share, allowance}
use Rattle.call_open.specs.Open.{Opened, open_call}
use Rattle.call_open.specs.OpenCode.{open_fault}
use Rattle.call_open.specs.OpenFaultLaws.{open_back}
use Rattle.call_take.specs.Take.{Taken, bad_lengths, take_within, allowed_of, take_capped}
use Rattle.call_take.specs.TakeCode.{take_fault}
use Rattle.call_close.specs.Close.{Closed, close_process, close_call}
use Rattle.call_shared.specs.Shared.{shared_open, shared_take, shared_close}
use Rattle.call_shared.specs.SharedLaws.{opens, takes, closes, turned, went}
use Rattle.call_shared.specs.SharedCode.{shared_fault}
use Rattle.call_shared.proofs.FaultSteps.{by_fault, fault_turned, fault_passed, two_turned, two_by, three_by}

-- ---- Open

module _ (w : ℕ) (text : List ℕ) (k : ℕ) (labels s window pool : List ℕ) (i : ℕ) where
  abbrev open_number : ℕ
  open_number = open_fault w k labels (length s) (length window)

  abbrev opened : Opened
  opened = open_call w text k labels s window

  open_by : shared_open w text k labels s window pool i ≡ by_fault (opens s window) pool i open_number opened
  unfolding shared_open open_fault
  open_by =
      rw (← or_assoc (bad_record_length w (length s)) (bad_window_length w (length window)) (bad_pool_length (length pool)))
      (three_by (opens s window) pool i (bad_record_length w (length s) || bad_window_length w (length window))
      (bad_pool_length (length pool)) (bad_processes k) (no_share pool i) (bad_start k labels) opened)

  pub open_turned : (n : ℕ) → n ≡ shared_fault open_number pool i → 0 < n
      → shared_open w text k labels s window pool i ≡ turned (opens s window) pool i n
  open_turned n e some =
      open_by
      ∙ fault_turned (opens s window) pool i open_number opened
      (open_back w text k labels s window open_number refl) n e some

  -- What is known where neither its own tests nor those of the plain open, but for the text, turn it back.
  pub record OpenPassed : Type 0 where
    pub pool_long : length pool ≡ 32
    pub member : i < 8
    pub long : length s ≡ record_length w
    pub whole : shared_open w text k labels s window pool i ≡ went (opens s window) pool i opened

  pub open_passed : shared_fault open_number pool i ≡ 0 → OpenPassed
  unfolding open_fault
  open_passed h =
      let p = fault_passed (opens s window) pool i open_number opened h in
      let right = (passed (bad_record_length w (length s) || bad_window_length w (length window)) 6 _ (lit< tt) p.0).0 in
      record {
        pool_long = p.1;
        member = p.2;
        long = right_length w (length s) (or-false_e (bad_record_length w (length s)) _ right).0;
        whole = open_by ∙ p.3;
      }

-- ---- Take

-- What is allowed lies within the window.
pub allowed_room : (w most n allowed : ℕ) → allowed ≡ min most (room_of w n) → room_of w n ≤ 1024
    → (allowed ≤ 1024) × (allowed * frontier_length w ≤ n)
allowed_room w most n allowed e few =
    let below : allowed ≤ room_of w n = rw e (min-le_right most (room_of w n)) in
    (omega arith, room_within w allowed n below)

module _ (w : ℕ) (s window scratch pool : List ℕ) (i : ℕ) where
  abbrev take-number : ℕ
  take-number = take_fault w s (length window) (length scratch)

  abbrev taken : Taken
  taken = take_capped w (allowance pool i) s window scratch

  abbrev within : Taken
  within = take_within w (allowed_of w (allowance pool i) window) s window

  abbrev wrong : Bool
  wrong = bad_lengths w (length s) (length window) (length scratch)

  abbrev bad : Bool
  bad = bad_state w (room_of w (length window)) s

  take_by : shared_take w s window scratch pool i ≡ by_fault (takes s window scratch) pool i take-number taken
  unfolding shared_take take_fault take_capped
  take_by = two_by (takes s window scratch) pool i wrong (bad_pool_length (length pool)) bad (no_share pool i) within

  plain-turned : (take-number ≡ 0 → ⊥) → taken ≡ (takes s window scratch).back take-number
  unfolding take_fault take_capped
  plain-turned h = two_turned (takes s window scratch) pool i wrong bad within h

  pub take-turned : (n : ℕ) → n ≡ shared_fault take-number pool i → 0 < n
      → shared_take w s window scratch pool i ≡ turned (takes s window scratch) pool i n
  take-turned n e some = take_by ∙ fault_turned (takes s window scratch) pool i take-number taken plain-turned n e some

  -- What is known where nothing turns it back.
  pub record TakePassed : Type 0 where
    pub pool_long : length pool ≡ 32
    pub member : i < 8
    pub good : Good w s (length window)
    pub few_room : room_of w (length window) ≤ 1024
    pub same : length scratch ≡ length window
    pub goes : taken ≡ within
    pub whole : shared_take w s window scratch pool i ≡ went (takes s window scratch) pool i taken

  pub take_passed : shared_fault take-number pool i ≡ 0 → TakePassed
  unfolding take_fault take_capped
  take_passed h =
      let p = fault_passed (takes s window scratch) pool i take-number taken h in
      let n = length window in
      let lengths = passed wrong 6 (cond bad 34 0) (lit< tt) p.0 in
      let sound = (passed bad 34 0 (lit< tt) lengths.1).0 in
      let after = or-false_e (bad_record_length w (length s)) _ lengths.0 in
      let last = or-false_e (bad_window_length w n) (not (eqb (length scratch) n)) after.1 in
      record {
        pool_long = p.1;
        member = p.2;
        good = tests_good w s n (rw (after.0, last.0)) sound;
        few_room = room_few w n last.0;
        same = eqb-true (length scratch) n (not-false _ last.1);
        goes = rw (lengths.0, sound);
        whole = take_by ∙ p.3;
      }

-- ---- Close

module _ (w p : ℕ) (s window pool : List ℕ) (i : ℕ) where
  abbrev close_number : ℕ
  close_number = watch_fault w s (length window)

  abbrev closed : Closed
  closed = close_call w p s window

  -- ... behind 6 and 34.
  abbrev judged : Closed
  judged =
      cond (not_open (process_count s) (closed_mask s) p) ((closes s window).back 41)
      (cond (named_by p (pending_events w s)) ((closes s window).back 42) (close_process w p s window))

  abbrev lengths_wrong : Bool
  lengths_wrong = bad_record_length w (length s) || bad_window_length w (length window)

  abbrev damaged : Bool
  damaged = bad_state w (room_of w (length window)) s

  close_by : shared_close w p s window pool i ≡ by_fault (closes s window) pool i close_number closed
  unfolding shared_close watch_fault close_call
  close_by =
      rw (← or_assoc (bad_record_length w (length s)) (bad_window_length w (length window)) (bad_pool_length (length pool)))
      (two_by (closes s window) pool i lengths_wrong (bad_pool_length (length pool)) damaged (no_share pool i) judged)

  close_plain : (close_number ≡ 0 → ⊥) → closed ≡ (closes s window).back close_number
  unfolding watch_fault close_call
  close_plain h = two_turned (closes s window) pool i lengths_wrong damaged judged h

  pub close_turned : (n : ℕ) → n ≡ shared_fault close_number pool i → 0 < n
      → shared_close w p s window pool i ≡ turned (closes s window) pool i n
  close_turned n e some = close_by ∙ fault_turned (closes s window) pool i close_number closed close_plain n e some

  -- What is known where its own tests let it pass.
  pub record ClosePassed : Type 0 where
    pub pool_long : length pool ≡ 32
    pub member : i < 8
    pub good : Good w s (length window)
    pub whole : shared_close w p s window pool i ≡ went (closes s window) pool i closed

  pub close_passed : shared_fault close_number pool i ≡ 0 → ClosePassed
  close_passed h =
      let q = fault_passed (closes s window) pool i close_number closed h in
      record {
        pool_long = q.1;
        member = q.2;
        good = good_watch w s (length window) q.0;
        whole = close_by ∙ q.3;
      }
