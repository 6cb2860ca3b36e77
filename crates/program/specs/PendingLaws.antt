-- The number of pending events after a take: one less, where another take is to follow.
use Rattle.std.specs.Prelude.{ℕ, ◌+◌, ◌-◌, ◌≤◌, ◌<◌, ◌≡◌, Bool, not, ◌||◌, List, eqb, get_or}
use Rattle.std.proofs.Common.{arith, sym, subst, ◌∙◌, ap, get_or-set_same, get_or-take}
use Rattle.std.proofs.Math.Bool.{true, false}
use Rattle.std.proofs.Math.Dec.{T}
use Rattle.std.proofs.Math.ListN.{length}
use Rattle.std.proofs.lemmas.List.Edits.{sets}
use Rattle.std.proofs.Math.Seq.{length-sets}
use Rattle.codec.specs.Little.{bytes_of, put}
use Rattle.codec.specs.SetsLaws.{get_d_sets_before}
use Rattle.clocks.specs.declared.Event.{Event}
use Rattle.clocks.specs.Event.{apply}
use Rattle.clocks.specs.Counts.{at, list_of}
use Rattle.clocks.specs.stored.BoundedLaws.{or-false_e}
use Rattle.frontiers.specs.declared.Frontier.{Frontier}
use Rattle.frontiers.specs.Bytes.{count_bytes, frontiers}
use Rattle.records.specs.Record.{taken_place, clocks_place, record_length, pending_place, pending_count, kept_count, taken_counts, pending_at, removed, clocks_set, counted}
use Rattle.refusals.specs.Refusals.{bad_record_length, bad_window_length, room_of, bad_state}
use Rattle.refusals.specs.RefusalLaws.{right_length, state-within}
use Rattle.answers.specs.Answer.{turned_back}
use Rattle.answers.specs.Turns.{by_test}
use Rattle.window.specs.Step.{stepped}
use Rattle.trial.specs.Trial.{valid_among, setting_in, Decision, undecided, false_clock, chosen, trial}
use Rattle.trial.specs.TrialLaws.{Right, trial_right}
use Rattle.call_take.specs.Take.{Taken, decided, take_within, allowed_of, take_capped, take_call}
use Rattle.replies.specs.Following.{takes_again}
use Rattle.call_take.specs.TakenCountsLaws.{moved_up, clocks_leave}

-- One event is gone.
pending_removed : (w : ℕ) (s : List ℕ) (i : ℕ) → length s ≡ record_length w
    → pending_count (removed w s i) ≡ pending_count s - 1
unfolding removed
pending_removed w s i long =
    let moved = sets s (pending_place w i) (moved_up w s i) in
    let inside : 2 < length moved = omega (arith, long, length-sets s (pending_place w i) (moved_up w s i)) in
    get_or-set_same moved 2 (pending_count s - 1) 0 inside

-- What is counted stands elsewhere.
pending_counted : (w : ℕ) (s : List ℕ) (e : Event) (kept : ℕ) → pending_count (counted w s e kept) ≡ pending_count s
unfolding counted put
pending_counted w s e kept =
    let taken = count_bytes w (list_of 8 (apply e (at (taken_counts w s)))) in
    let told = sets s 4 (bytes_of 4 kept) in
    let stored = sets told taken_place taken in
    sym (get_or-take (clocks_place w) (clocks_set w 8 stored e) 2 0 (omega arith))
    ∙ ap (λ (t : List ℕ). get_or t 2 0) (clocks_leave w 8 stored e)
    ∙ get_or-take (clocks_place w) stored 2 0 (omega arith)
    ∙ get_d_sets_before told taken_place taken 2 0 (omega arith)
    ∙ get_d_sets_before s 4 (bytes_of 4 kept) 2 0 (omega arith)

-- Where another take is to follow, the state was good and an event is no longer pending.
abbrev pub Lowers : List ℕ → Taken → Type 0
Lowers s o = takes_again o.answer ≡ true → (pending_count s ≤ 32) × (pending_count o.bytes + 1 ≡ pending_count s)

module _ (w room : ℕ) (s window : List ℕ) (long : length s ≡ record_length w) (few : pending_count s ≤ 32) where
  abbrev kept : List Frontier
  kept = frontiers w window (kept_count s)

  -- Nothing is ready, or there is no room.
  none_lowers : (seen : Bool) → Lowers s (decided w s window kept (undecided seen))
  unfolding decided takes_again
  none_lowers true e = absurd (subst T (sym e) tt)
  none_lowers false e = absurd (subst T (sym e) tt)

  -- The event of a false clock leaves.
  false_lowers : (i : ℕ) → i < pending_count s → Lowers s (decided w s window kept (false_clock i))
  unfolding decided
  false_lowers i l e = (few, omega (arith, l, pending_removed w s i long))

  -- The event is taken.
  chosen_lowers : (i : ℕ) → i < pending_count s → Lowers s (decided w s window kept (chosen i))
  unfolding decided
  chosen_lowers i l e =
      let n = length (stepped (setting_in w s (pending_at w s i)) kept) in
      (few, omega (arith, l, pending_removed w s i long, pending_counted w (removed w s i) (pending_at w s i) n))

  within_lowers : Lowers s (take_within w room s window)
  unfolding take_within
  within_lowers = go (trial w s room kept) (trial_right w s (valid_among kept) room kept)
    where
      go : (d : Decision) → Right w s (valid_among kept) room kept d → Lowers s (decided w s window kept d)
      go (undecided seen) r = none_lowers seen
      go (false_clock i) r = false_lowers i r.0
      go (chosen i) r = chosen_lowers i r.0

-- A take of whatever bytes.
pub take_lowers : (w : ℕ) (s window scratch : List ℕ) → Lowers s (take_call w s window scratch)
unfolding take_capped takes_again
take_lowers w s window scratch =
    let back : ℕ → Taken = λ n. record { answer = turned_back n 0; bytes = s; window = window; scratch = scratch } in
    let room = room_of w (length window) in
    let wrong = bad_window_length w (length window) || not (eqb (length scratch) (length window)) in
    by_test (Lowers s) (bad_record_length w (length s) || wrong) (back 6) _ (λ _ e. absurd (subst T (sym e) tt)) λ right.
    by_test (Lowers s) (bad_state w room s) (back 34) _ (λ _ e. absurd (subst T (sym e) tt)) λ good.
    let r = or-false_e (bad_record_length w (length s)) wrong right in
    within_lowers w (allowed_of w 1024 window) s window (right_length w (length s) r.0)
    (state-within w room s good).1
