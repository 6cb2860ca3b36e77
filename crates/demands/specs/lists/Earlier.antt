-- A list of calls that met no 35 by the earlier rule for valid clocks ends as it did: what the join let pass is known
-- (clocks validity/JoinedClock), so each trial decides as it did.
use Rattle.std.specs.Prelude.{ℕ, ◌≡◌, Bool, T, length}
use Rattle.std.proofs.Math.Path.{refl, sym, ap, ap₂, subst}
use Rattle.std.proofs.Common.{◌∙◌}
use Rattle.std.proofs.Math.Bool.{true, false}
use mathlib.Core.List.Memᴰ
use mathlib.Core.List.{List, [], ◌∷◌, ◌++◌, Memᴰ}
use Rattle.std.proofs.Math.ListN.{replicate}
use Rattle.clocks.specs.declared.Event.{Event}
use Rattle.clocks.specs.Event.{Cut}
use Rattle.clocks.specs.Counts.{at}
use Rattle.clocks.specs.Causal.{Causal}
use Rattle.clocks.specs.validity.ClockRule.{history_causal}
use Rattle.clocks.specs.validity.JoinedClock.{joined_known}
use Rattle.frontiers.specs.declared.Frontier.{Frontier}
use Rattle.frontiers.specs.Bytes.{frontiers}
use Rattle.pactl.specs.declared.Line.{Line}
use Rattle.rules.specs.Line.{lines_at}
use Rattle.records.specs.Record.{ready_in, kept_count, pending_events}
use Rattle.refusals.specs.Refusals.{room_of, bad_state}
use Rattle.answers.specs.Answer.{Answer, turned_back}
use Rattle.trial.specs.Trial.{Decision, false_clock, valid_among}
use Rattle.trial.specs.TrialLaws.{same-trial}
use Rattle.call_open.specs.Open.{open_call}
use Rattle.call_take.specs.Take.{Taken, decided, bad_lengths, take_within, allowed_of, take_capped}
use Rattle.demands.specs.Ledger.{Ledger}
use Rattle.demands.specs.Run.{Call, offers, takes, finds, closes, mislends, Watch, after_take, after, run, opened, trial_of, taken_ledger}
use Rattle.demands.specs.Earlier.{joined_in, earlier_trial, earlier_take, earlier_after, earlier_run}
use Rattle.demands.specs.Watching.{Rule, Watching}
use Rattle.demands.specs.World.{Valid}
use Rattle.demands.specs.EveryList.{AllPassed}
use Rattle.demands.specs.statements.Earlier.{NoFalseClock, EarlierListsStand}
use Rattle.demands.specs.calls.AfterCall.{WatchRight, lengthened, room_iff, after_right}
use Rattle.demands.specs.calls.ValidRule.{valid_rule}
use Rattle.demands.specs.calls.WatchingLaws.{says_pending, says_frontiers, never_34, ready_in_lem, valid_in, joined_in_lem}
use Rattle.demands.specs.lists.SoundRun.{sound_run}

-- ---- One take
module _ (w k : ℕ) (table : List Line) (start : Cut) (R : Rule w k table start) (L : Ledger) (bytes lent : List ℕ)
    (X : Watching w k table start L bytes lent) (cap : ℕ) where
  causal : Causal L.history
  causal = history_causal k Valid (valid_rule k) L.history X.right.by_rule

  abbrev fs : List Frontier
  fs = frontiers w lent (kept_count bytes)

  read : fs ≡ X.kept
  read = ap (λ (s : List ℕ). frontiers w s (kept_count bytes)) X.window_is
      ∙ says_frontiers w k table start R L bytes lent X (length lent)

  -- a ready pending event whose clock is the join knows of a kept frontier
  passes : (e : Event) → Memᴰ e (pending_events w bytes) → T (ready_in w bytes e) → T (joined_in w bytes e)
      → T (valid_among fs e)
  unfolding joined_in
  passes e m r j =
      let pending = subst (Memᴰ e) (says_pending w k table start R L bytes lent X) m in
      let formed = X.right.formed e pending in
      let ready = (ready_in_lem w k table start R L bytes lent X e formed).0 r in
      let known = joined_known 8 L.history e causal ((joined_in_lem w k table start R L bytes lent X e formed).0 j) in
      rw read ((valid_in w k table start R L bytes lent X e formed (X.names_open e pending) ready).1 known)

  same_decision : ((j : ℕ) → earlier_trial w cap bytes lent ≡ false_clock j → ⊥)
      → earlier_trial w cap bytes lent ≡ trial_of w cap bytes lent
  unfolding earlier_trial trial_of
  same_decision none =
      same-trial w bytes (joined_in w bytes) (valid_among fs) (allowed_of w cap lent) fs passes none

  never_bad : bad_state w (room_of w (length lent)) bytes ≡ false
  never_bad =
      never_34 w k table start R L bytes lent X (room_of w (length lent))
      ((room_iff w (length X.kept) (length lent)).1 X.room)

  -- what it answers and leaves, and the ledger after it, are the same
  same-take : (scratch : List ℕ) → ((earlier_take w cap bytes lent scratch).answer ≡ turned_back 35 0 → ⊥) → (W : Watch)
      → after_take w (earlier_take w cap bytes lent scratch) (earlier_trial w cap bytes lent) W
      ≡ after_take w (take_capped w cap bytes lent scratch) (trial_of w cap bytes lent) W
  unfolding taken_ledger decided
  same-take scratch n W = go (bad_lengths w (length bytes) (length lent) (length scratch)) refl
    where
      go : (b : Bool) → bad_lengths w (length bytes) (length lent) (length scratch) ≡ b
          → after_take w (earlier_take w cap bytes lent scratch) (earlier_trial w cap bytes lent) W
          ≡ after_take w (take_capped w cap bytes lent scratch) (trial_of w cap bytes lent) W
      go true h =
          let one : earlier_take w cap bytes lent scratch
          ≡ record { answer = turned_back 6 0; bytes = bytes; window = lent; scratch = scratch } =
          unfold earlier_take in (unfold take_capped in (rw h)) in
          let two : take_capped w cap bytes lent scratch
          ≡ record { answer = turned_back 6 0; bytes = bytes; window = lent; scratch = scratch } = unfold take_capped in
          (rw h) in
          rw (one, two) refl
      go false h =
          let one : earlier_take w cap bytes lent scratch ≡ decided w bytes lent fs (earlier_trial w cap bytes lent) =
          unfold earlier_take in (rw (h, never_bad)) in
          let two : take_capped w cap bytes lent scratch ≡ decided w bytes lent fs (trial_of w cap bytes lent) =
          unfold take_capped in (unfold take_within in (unfold trial_of in (rw (h, never_bad)))) in
          let same : earlier_trial w cap bytes lent ≡ trial_of w cap bytes lent =
          same_decision (λ j q. n (ap (λ (r : Taken). r.answer) (one ∙ ap (decided w bytes lent fs) q))) in
          ap₂ (λ (r : Taken) (d : Decision). after_take w r d W) (one ∙ ap (decided w bytes lent fs) same ∙ sym two) same

-- ---- Lists

-- a call's answer is the newest, and those before it stay
earlier_more : (w : ℕ) (c : Call) (W : Watch) → (a : Answer) × ((earlier_after w c W).answers ≡ a ∷ W.answers)
unfolding earlier_after after
earlier_more w (takes cap _ scratch) W = (_, refl)
earlier_more w (offers mask clock labels) W = (_, refl)
earlier_more w (finds line) W = (_, refl)
earlier_more w (closes p) W = (_, refl)
earlier_more w (mislends m) W = (_, refl)

answers_stay : (w : ℕ) (cs : List Call) (W : Watch) (a : Answer) → Memᴰ a W.answers
    → Memᴰ a (earlier_run w cs W).answers
unfolding earlier_run
answers_stay w [] W a m = m
answers_stay w (c ∷ cs) W a m = answers_stay w cs (earlier_after w c W) a (rw (earlier_more w c W).1 (Memᴰ.tail m))

module _ (w k : ℕ) (table : List Line) (start : Cut) (R : Rule w k table start) where
  same_after : (c : Call) (W : Watch) → WatchRight w k table start W → NoFalseClock (earlier_after w c W).answers
      → earlier_after w c W ≡ after w c W
  unfolding earlier_after after
  same_after (offers mask clock labels) W X n = refl
  same_after (finds line) W X n = refl
  same_after (closes p) W X n = refl
  same_after (mislends m) W X n = refl
  same_after (takes cap zeros scratch) W X n =
      same-take w k table start R W.ledger W.bytes (W.window ++ replicate zeros 0)
      (lengthened w k table start R W.ledger W.bytes W.window X zeros) cap scratch
      (λ q. n (Memᴰ.head (sym q))) W

  same-run : (cs : List Call) (W : Watch) → WatchRight w k table start W → AllPassed w cs
      → NoFalseClock (earlier_run w cs W).answers
      → earlier_run w cs W ≡ run w cs W
  unfolding earlier_run run
  same-run [] W X p n = refl
  same-run (c ∷ cs) W X p n =
      let here : earlier_after w c W ≡ after w c W =
      same_after c W X (λ m. n (answers_stay w cs (earlier_after w c W) (turned_back 35 0) m)) in
      let rest : earlier_run w cs (after w c W) ≡ run w cs (after w c W) =
      same-run cs (after w c W) (after_right w k table start R W X c (p c (Memᴰ.head refl)))
      (λ d m. p d (Memᴰ.tail m)) (subst (λ (Y : Watch). NoFalseClock (earlier_run w cs Y).answers) here n) in
      ap (earlier_run w cs) here ∙ rest

-- ---- Theorem
pub earlier_lists_stand : EarlierListsStand
unfolding run
earlier_lists_stand w pos text k labels eight s window a cs p n =
    let x = sound_run w pos text k labels eight s window a [] (λ c m. absurd (Memᴰ.not-nil m)) in
    same-run w k (lines_at 0 x.0) (at labels) x.3.rule cs (opened (open_call w text k labels s window))
    x.3.right p n
