-- What the code learns from its choice: which decision it was, and what holds of the event that was decided on.
use Prim.Native.Nat.{ℕ, ◌≤◌, ◌<◌}
use native.Mathlib.Omega.{arith}
use mathlib.Core.Path.{◌≡◌, subst}
use mathlib.Core.Bool.{Bool}
use mathlib.Core.List.{List}
use lib.Dec.{T, ltb, leb, leb→le, ltb→lt}
use Rattle.clocks.specs.stored.BoundedLaws.{and_l, and_r}
use Rattle.frontiers.specs.declared.Frontier.{Frontier}
use Rattle.frontiers.specs.Bytes.{frontiers}
use Rattle.window.specs.Step.{Setting, fits, kept_after}
use Rattle.trial.specs.declared.Choice.TheVariants.{Undecided, Falsified, Chosen}
use Rattle.records.specs.Record.{kept_count, pending_count, pending_at, ready_in}
use Rattle.trial.specs.Trial.{Decision, undecided, false_clock, chosen, valid_among, setting_in, trial}
use Rattle.call_take.specs.Take.{decided, take_within}
use Rattle.trial.specs.TrialLaws.{Right, trial_right}
use Rattle.trial.specs.TrialCode.{choice_for}

-- Of an event that is taken: it is pending and ready, and so many frontiers, at least one and no more than are allowed,
-- are kept.
pub record Taking (w : ℕ) (s : List ℕ) (allowed : ℕ) (fs : List Frontier) (i kept : ℕ) : Type 0 where
  pub pending : i < pending_count s
  pub ready : T (ready_in w s (pending_at w s i))
  pub many : kept ≡ kept_after (setting_in w s (pending_at w s i)) fs
  pub some : 1 ≤ kept
  pub few : kept ≤ allowed

fits_e : (t : Setting) (allowed : ℕ) (fs : List Frontier) → T (fits t allowed fs) → (0 < kept_after t fs) × (kept_after t fs ≤ allowed)
unfolding fits
fits_e t allowed fs h = (ltb→lt 0 (kept_after t fs) (and_l (ltb 0 (kept_after t fs)) (leb (kept_after t fs) allowed) h), leb→le (kept_after t fs) allowed (and_r (ltb 0 (kept_after t fs)) (leb (kept_after t fs) allowed) h))

module _ (w : ℕ) (s : List ℕ) (allowed : ℕ) (fs : List Frontier) where
  -- ---- Which decision it was
  from_undecided : (seen : Bool) (d : Decision) → Undecided seen ≡ choice_for w s fs d → d ≡ undecided seen
  unfolding choice_for
  from_undecided seen (undecided b) e = cc
  from_undecided seen (false_clock i) e = let z : ◌≡◌ {A = ℕ} 0 1 = cc in absurd (omega arith)
  from_undecided seen (chosen i) e = let z : ◌≡◌ {A = ℕ} 0 1 = cc in absurd (omega arith)

  from_falsified : (i : ℕ) (d : Decision) → Falsified i ≡ choice_for w s fs d → d ≡ false_clock i
  unfolding choice_for
  from_falsified i (undecided b) e = let z : ◌≡◌ {A = ℕ} 0 1 = cc in absurd (omega arith)
  from_falsified i (false_clock j) e = cc
  from_falsified i (chosen j) e = let z : ◌≡◌ {A = ℕ} 0 1 = cc in absurd (omega arith)

  from_chosen : (i kept : ℕ) (d : Decision) → Chosen i kept ≡ choice_for w s fs d → (d ≡ chosen i) × (kept ≡ kept_after (setting_in w s (pending_at w s i)) fs)
  unfolding choice_for
  from_chosen i kept (undecided b) e = let z : ◌≡◌ {A = ℕ} 0 1 = cc in absurd (omega arith)
  from_chosen i kept (false_clock j) e = let z : ◌≡◌ {A = ℕ} 0 1 = cc in absurd (omega arith)
  from_chosen i kept (chosen j) e = let same : i ≡ j = cc in (cc, cc)

  pub choice_undecided : (seen : Bool) → Undecided seen ≡ choice_for w s fs (trial w s allowed fs)
      → (trial w s allowed fs) ≡ undecided seen
  choice_undecided seen h = from_undecided seen (trial w s allowed fs) h

  -- ---- What holds of the event
  right : (d : Decision) → trial w s allowed fs ≡ d → Right w s (valid_among fs) allowed fs d
  right d e = subst (Right w s (valid_among fs) allowed fs) e (trial_right w s (valid_among fs) allowed fs)

  pub choice_falsified : (i : ℕ) → Falsified i ≡ choice_for w s fs (trial w s allowed fs)
      → ((trial w s allowed fs) ≡ false_clock i) × (i < pending_count s)
  choice_falsified i h = let d = from_falsified i (trial w s allowed fs) h in (d, (right (false_clock i) d).0)

  pub choice_chosen : (i kept : ℕ) → Chosen i kept ≡ choice_for w s fs (trial w s allowed fs)
      → ((trial w s allowed fs) ≡ chosen i) × Taking w s allowed fs i kept
  choice_chosen i kept h =
      let c = from_chosen i kept (trial w s allowed fs) h in
      let of = right (chosen i) c.0 in
      let room = fits_e (setting_in w s (pending_at w s i)) allowed fs of.3 in (
        c.0,
        record {
          pending = of.0;
          ready = of.1;
          many = c.1;
          some = omega (arith, c.1, room.0);
          few = omega (arith, c.1, room.1);
        },
      )

-- A take within so many frontiers, by its decision.
pub within_by : (w allowed : ℕ) (s window : List ℕ) (d : Decision)
    → trial w s allowed (frontiers w window (kept_count s)) ≡ d
    → take_within w allowed s window ≡ decided w s window (frontiers w window (kept_count s)) d
unfolding take_within
within_by w allowed s window d e = rw e
