-- Caps from n on make the same next take, where with no pending event more than n cuts are kept: the bytes say the same
-- of the pending events.
use Rattle.std.specs.Prelude.{ℕ, ◌≤◌, ◌<◌, ◌≡◌, Bool, false, List, ◌∷◌, T, length, get_or}
use Rattle.std.proofs.Common.{arith, sym, ap, ◌∙◌}
use Rattle.std.proofs.Math.Decide.{dec_lt}
use Rattle.std.proofs.Math.Path.{refl, ap₂}
use Rattle.std.proofs.Math.Bool.{true}
use Rattle.pactl.specs.declared.Line.{Line}
use Rattle.clocks.specs.declared.Event.{Event}
use Rattle.clocks.specs.Event.{Cut, Ready}
use Rattle.clocks.specs.History.{taken}
use Rattle.frontiers.specs.declared.Frontier.{Frontier}
use Rattle.frontiers.specs.Bytes.{frontiers}
use Rattle.frontiers.specs.ListLaws.{place_member}
use Rattle.window.specs.Step.{Setting, stepped, kept_after}
use Rattle.window.specs.SteppedCount.{stepped_many}
use Rattle.window_laws.specs.Represents.{setting_of}
use Rattle.rules.specs.Formula.{Formula}
use Rattle.rules.specs.Line.{lines_at}
use Rattle.records.specs.Record.{ready_in, kept_count}
use Rattle.trial.specs.Trial.{valid_among, setting_in, Decision}
use Rattle.call_take.specs.Take.{Taken}
use Rattle.call_take.specs.TakeCaps.{NoneAbove}
use Rattle.call_take.specs.TakeCapsLaws.{same-trial_capped, caps_make_no_difference}
use Rattle.demands.specs.Ledger.{Ledger}
use Rattle.demands.specs.Run.{Watch, after, takes, trial_of, stopped_at, taken_ledger}
use Rattle.demands.specs.World.{world_of, Valid}
use Rattle.demands.specs.EveryList.{lent_window, RightLengths, next_take}
use Rattle.demands.specs.Watching.{Rule, Watching}
use Rattle.demands.specs.calls.WatchingLaws.{says_many, says_event, says_frontiers, setting_in_lem}
use Rattle.demands.specs.calls.KeptCutsLaws.{represented_number}
use Rattle.demands.specs.calls.TakeLaws.{stepped_right}
use Rattle.demands.specs.calls.AfterCall.{no_event, lengthened, bad_lengths, ledger_then, take_6, is_ready, is_valid}
use Rattle.demands.specs.statements.Caps.{WouldPass, CapsAlike}
use Rattle.demands.specs.lists.SoundRun.{Sound}
use Rattle.demands.specs.lists.TakeAnswers.{lengths_known}

-- The trial that the ledger goes by is the same, on all bytes.
pub same-trial_of : (w n cap cap' : ℕ) (s window : List ℕ) → NoneAbove w n s window → n ≤ cap → n ≤ cap'
    → trial_of w cap s window ≡ trial_of w cap' s window
unfolding trial_of
same-trial_of = same-trial_capped

-- ---- Where no pending event would pass, none does by the bytes
module _ (w k : ℕ) (table : List Line) (start : Cut) (R : Rule w k table start) (L : Ledger) (bytes lent : List ℕ)
    (X : Watching w k table start L bytes lent) (cap : ℕ) (scratch : List ℕ) (n : ℕ) (none : WouldPass k n L → ⊥) where
  module _ (i : ℕ) (l : i < length L.pending) where
    abbrev e : Event
    e = get_or L.pending i no_event

    abbrev setting : Setting
    setting = setting_of (world_of k L.closed table start) L.history e

    -- the frontiers with it
    abbrev gs : List Frontier
    gs = stepped setting X.kept

    few_frontiers : Ready e (taken L.history) → Valid L.history e → length gs ≤ n
    few_frontiers r v = go (dec_lt n (length gs))
      where
        go : Dec (n < length gs) → length gs ≤ n
        go (yes more) =
            let right = stepped_right w k table start R L bytes lent X i no_event l r v in
            let many = represented_number k L.closed (e ∷ L.history) table start gs right in
            absurd (none (e, place_member L.pending i no_event l, r, v, (length gs, many, more)))
        go (no few) = omega arith

    few_kept : T (ready_in w bytes e) → T (valid_among X.kept e) → kept_after (setting_in w bytes e) X.kept ≤ n
    few_kept r v =
        rw (setting_in_lem w k table start R L bytes lent X e, ← stepped_many setting X.kept)
        (few_frontiers (is_ready w k table start R L bytes lent X cap scratch i l r)
        (is_valid w k table start R L bytes lent X cap scratch i l r v))

  none_above : NoneAbove w n bytes lent
  none_above i b =
      let l : i < length L.pending = omega (arith, says_many w k table start R L bytes lent X) in
      rw (read, says_event w k table start R L bytes lent X i no_event l) (few_kept i l)
    where
      read : frontiers w lent (kept_count bytes) ≡ X.kept
      read =
          ap (λ (s : List ℕ). frontiers w s (kept_count bytes)) X.window_is
          ∙ says_frontiers w k table start R L bytes lent X (length lent)

-- ---- After a list of calls
module _ (w k : ℕ) (f : Formula) (start : Cut) (Z : Watch) (S : Sound w k f start Z) (n cap cap' more : ℕ)
    (scratch : List ℕ) (large : n ≤ cap) (large' : n ≤ cap')
    (none : RightLengths w Z more scratch → WouldPass k n Z.ledger → ⊥) where
  abbrev lent : List ℕ
  lent = lent_window Z more

  -- the watch with a window lent longer
  abbrev longer : Watching w k (lines_at 0 f) start Z.ledger Z.bytes lent
  longer = lengthened w k (lines_at 0 f) start S.rule Z.ledger Z.bytes Z.window S.right more

  abbrev wrong : Bool
  wrong = bad_lengths w k (lines_at 0 f) start S.rule Z.ledger Z.bytes lent longer cap scratch

  none_where_right : wrong ≡ false → NoneAbove w n Z.bytes lent
  none_where_right h =
      none_above w k (lines_at 0 f) start S.rule Z.ledger Z.bytes lent longer cap scratch n
      (none (lengths_known w k f start Z S cap more scratch h))

  same-take : next_take w Z cap more scratch ≡ next_take w Z cap' more scratch
  unfolding bad_lengths
  same-take =
      caps_make_no_difference w n cap cap' Z.bytes lent scratch (λ right. none_where_right right.0) large large'

  -- the ledger after a take under a cap
  abbrev ledger_under : ℕ → Ledger
  ledger_under c = ledger_then w k (lines_at 0 f) start S.rule Z.ledger Z.bytes lent longer c scratch

  same_ledger : ledger_under cap ≡ ledger_under cap'
  unfolding bad_lengths
  same_ledger = go wrong refl
    where
      six : (c : ℕ) → wrong ≡ true → ledger_under c ≡ Z.ledger
      six c h = (take_6 w k (lines_at 0 f) start S.rule Z.ledger Z.bytes lent longer c scratch h).1

      go : (b : Bool) → wrong ≡ b → ledger_under cap ≡ ledger_under cap'
      go true h = six cap h ∙ sym (six cap' h)
      go false h =
          ap₂ (λ (d : Decision) (t : Taken). taken_ledger w Z.bytes (stopped_at d) Z.ledger t.answer)
          (same-trial_of w n cap cap' Z.bytes lent (none_where_right h) large large') same-take

  -- the watch that a take with this ledger leaves
  abbrev left : Taken → Ledger → Watch
  left t M = record {
    bytes = t.bytes;
    window = t.window;
    ledger = M;
    accepted = Z.accepted;
    answers = t.answer ∷ Z.answers;
  }

  same_after : after w (takes cap more scratch) Z ≡ after w (takes cap' more scratch) Z
  unfolding after
  same_after = ap₂ left same-take same_ledger

pub caps_alike_of : (w k : ℕ) (f : Formula) (start : Cut) (Z : Watch) → Sound w k f start Z
    → CapsAlike w k f start Z
caps_alike_of w k f start Z S n cap cap' more scratch large large' none = (
  same-take w k f start Z S n cap cap' more scratch large large' none,
  same_after w k f start Z S n cap cap' more scratch large large' none,
)
