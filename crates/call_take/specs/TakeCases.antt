-- A take comes, on all bytes, to one of four things: its buffers turn it back, no event is decided on, one leaves with
-- a false clock, or one is taken.
use Rattle.std.specs.Prelude.{ℕ, ◌≤◌, ◌≡◌, Bool, not, ◌||◌, List, ◌⊎◌, ltb, leb, eqb, length}
use native.Mathlib.Omega.{arith}
use Rattle.std.proofs.Math.Nat.{min-le_right}
use Rattle.std.proofs.Math.Path.{refl}
use Rattle.std.proofs.Common.{inl, inr}
use Rattle.std.proofs.Math.Dec.{T, leb→le, ltb→lt}
use Rattle.clocks.specs.stored.BoundedLaws.{and_l, and_r, or-false_e}
use Rattle.frontiers.specs.declared.Frontier.{Frontier}
use Rattle.frontiers.specs.Bytes.{frontiers}
use Rattle.window.specs.Step.{fits, kept_after}
use Rattle.records.specs.Record.{record_length, kept_count, pending_at, ready_in}
use Rattle.refusals.specs.Refusals.{bad_record_length, bad_window_length, room_of, bad_state}
use Rattle.refusals.specs.RefusalLaws.{right_length, room_few}
use Rattle.answers.specs.Answer.{turned_back}
use Rattle.answers.specs.Turns.{by_test}
use Rattle.trial.specs.Trial.{Decision, undecided, false_clock, chosen, valid_among, setting_in, trial}
use Rattle.trial.specs.TrialLaws.{Right, trial_right}
use Rattle.call_take.specs.Take.{Taken, decided, take_within, allowed_of, take_capped}

-- Of an event that is taken: it is ready, and 1 to 1,024 frontiers are kept.
pub record Taking (w : ℕ) (s : List ℕ) (fs : List Frontier) (i : ℕ) : Type 0 where
  pub long : length s ≡ record_length w
  pub ready : T (ready_in w s (pending_at w s i))
  pub some : 1 ≤ kept_after (setting_in w s (pending_at w s i)) fs
  pub few : kept_after (setting_in w s (pending_at w s i)) fs ≤ 1024

-- What it answers and leaves then.
pub data Case (w : ℕ) (s window scratch : List ℕ) (fs : List Frontier) (t : Taken) : Type 0 where
  turned : (n : ℕ) → (n ≡ 6) ⊎ (n ≡ 34)
      → t ≡ record { answer = turned_back n 0; bytes = s; window = window; scratch = scratch }
      → Case w s window scratch fs t
  none : (seen : Bool) → t ≡ decided w s window fs (undecided seen) → Case w s window scratch fs t
  falsified : (i : ℕ) → t ≡ decided w s window fs (false_clock i) → Case w s window scratch fs t
  takes : (i : ℕ) → Taking w s fs i → t ≡ decided w s window fs (chosen i) → Case w s window scratch fs t

abbrev pub TakeCase : (w cap : ℕ) (s window scratch : List ℕ) → Type 0
TakeCase w cap s window scratch =
    Case w s window scratch (frontiers w window (kept_count s)) (take_capped w cap s window scratch)

module _ (w allowed : ℕ) (s window scratch : List ℕ) (long : length s ≡ record_length w) (few : allowed ≤ 1024) where
  abbrev kept : List Frontier
  kept = frontiers w window (kept_count s)

  taking : (i : ℕ) → T (ready_in w s (pending_at w s i)) → T (fits (setting_in w s (pending_at w s i)) allowed kept)
      → Taking w s kept i
  unfolding fits
  taking i r f =
      let n = kept_after (setting_in w s (pending_at w s i)) kept in
      let here : T (ltb 0 n) = and_l (ltb 0 n) (leb n allowed) f in
      let most : n ≤ allowed = leb→le n allowed (and_r (ltb 0 n) (leb n allowed) f) in
      record { long = long; ready = r; some = ltb→lt 0 n here; few = omega arith }

  -- The ready pending events are gone through.
  within_case : Case w s window scratch kept (take_within w allowed s window)
  unfolding take_within
  within_case = go (trial w s allowed kept) (trial_right w s (valid_among kept) allowed kept)
    where
      go : (d : Decision) → Right w s (valid_among kept) allowed kept d
          → Case w s window scratch kept (decided w s window kept d)
      go (undecided seen) r = none seen refl
      go (false_clock i) r = falsified i refl
      go (chosen i) r = takes i (taking i r.1 r.3) refl

pub take_case : (w cap : ℕ) (s window scratch : List ℕ) → TakeCase w cap s window scratch
unfolding take_capped
take_case w cap s window scratch =
    let fs = frontiers w window (kept_count s) in
    let room = room_of w (length window) in
    let by = by_test (Case w s window scratch fs) in
    let back : ℕ → Taken = λ n.
    record { answer = turned_back n 0; bytes = s; window = window; scratch = scratch } in
    let wrong = bad_window_length w (length window) || not (eqb (length scratch) (length window)) in
    by (bad_record_length w (length s) || wrong) (back 6) _ (λ _. turned 6 (inl refl) refl) λ right.
    by (bad_state w room s) (back 34) _ (λ _. turned 34 (inr refl) refl) λ _.
    let lengths = or-false_e (bad_record_length w (length s)) wrong right in
    let window_right =
    (or-false_e (bad_window_length w (length window)) (not (eqb (length scratch) (length window))) lengths.1).0 in
    let few : allowed_of w cap window ≤ 1024 =
    omega (arith, min-le_right cap room, room_few w (length window) window_right) in
    within_case w (allowed_of w cap window) s window scratch (right_length w (length s) lengths.0) few
