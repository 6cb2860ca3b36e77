-- The trial one pending event at a time, as a loop goes through them in turn.
use Prim.Native.Nat.{ℕ, ◌+◌, ◌≤◌, ◌<◌}
use native.Mathlib.Numerals.{add-one}
use mathlib.Core.Path.{◌≡◌, refl, ◌∙◌}
use mathlib.Core.Bool.{Bool, true, false}
use mathlib.Core.List.{List, [], ◌∷◌}
use lib.ListN.{length, drop, get_or, drop_of_length-le}
use lib.Seq.{drop-cons}
use Rattle.frontiers.specs.declared.Frontier.{Frontier}
use Rattle.clocks.specs.declared.Event.{Event}
use Rattle.clocks.specs.stored.CountsLaws.{length-list_of}
use Rattle.window.specs.Step.{fits}
use Rattle.trial.specs.Trial.{setting_in, in_turn, Decision, tried, undecided, false_clock, chosen}
use Rattle.trial.specs.TurnLaws.{length-turn}
use Rattle.records.specs.Record.{ready_in, pending_count, pending_at, pending_events}

-- The trial from the event after so many turns on.
unfoldable pub tried_from : ℕ → List ℕ → (Event → Bool) → ℕ → List Frontier → ℕ → Bool → Decision
tried_from w s valid allowed fs turn seen = tried w s valid allowed fs seen (drop turn (in_turn (pending_events w s)))

-- ---- Each pending event has its turn
turns : (w : ℕ) (s : List ℕ) → length (in_turn (pending_events w s)) ≡ pending_count s
unfolding pending_events
turns w s = length-turn 0 (pending_events w s) ∙ length-list_of (pending_count s) (pending_at w s)

turns-end : (w : ℕ) (s : List ℕ) (turn : ℕ) → pending_count s ≤ turn → drop turn (in_turn (pending_events w s)) ≡ []
turns-end w s turn l = drop_of_length-le (in_turn (pending_events w s)) {i = turn} (rw (turns w s) l)

turns_next : (w : ℕ) (s : List ℕ) (turn i : ℕ) → turn < pending_count s → i ≡ get_or (in_turn (pending_events w s)) turn 0
    → drop turn (in_turn (pending_events w s)) ≡ i ∷ drop (turn + 1) (in_turn (pending_events w s))
turns_next w s turn i l q =
    rw (add-one, q, drop-cons (in_turn (pending_events w s)) turn 0 (rw (turns w s) l)) refl

-- ---- The one whose turn it is
module _ (w : ℕ) (s : List ℕ) (valid : Event → Bool) (allowed : ℕ) (fs : List Frontier) (turn : ℕ) (seen : Bool) where
  pub tried-end : pending_count s ≤ turn → tried_from w s valid allowed fs turn seen ≡ undecided seen
  unfolding tried_from tried
  tried-end l = rw (turns-end w s turn l)

  module _ (i : ℕ) (l : turn < pending_count s) (q : i ≡ get_or (in_turn (pending_events w s)) turn 0) where
    pub tried_pass : ready_in w s (pending_at w s i) ≡ false
        → tried_from w s valid allowed fs turn seen ≡ tried_from w s valid allowed fs (turn + 1) seen
    unfolding tried_from tried
    tried_pass r = rw (turns_next w s turn i l q, r)

    pub tried-false : ready_in w s (pending_at w s i) ≡ true → valid (pending_at w s i) ≡ false
        → tried_from w s valid allowed fs turn seen ≡ false_clock i
    unfolding tried_from tried
    tried-false r v = rw (turns_next w s turn i l q, r, v)

    pub tried-fits : ready_in w s (pending_at w s i) ≡ true → valid (pending_at w s i) ≡ true
        → fits (setting_in w s (pending_at w s i)) allowed fs ≡ true
        → tried_from w s valid allowed fs turn seen ≡ chosen i
    unfolding tried_from tried
    tried-fits r v f = rw (turns_next w s turn i l q, r, v, f)

    pub tried_full : ready_in w s (pending_at w s i) ≡ true → valid (pending_at w s i) ≡ true
        → fits (setting_in w s (pending_at w s i)) allowed fs ≡ false
        → tried_from w s valid allowed fs turn seen ≡ tried_from w s valid allowed fs (turn + 1) true
    unfolding tried_from tried
    tried_full r v f = rw (turns_next w s turn i l q, r, v, f)
