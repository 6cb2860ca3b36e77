-- Take's trial of the pending events (01, The calls: take): it goes through the ready ones from the lowest process up
-- and stops at the first that has a false clock or whose window fits.
use Rattle.std.specs.Prelude.{ℕ, zero, suc, ◌+◌, Bool, true, false, cond, List, [], ◌∷◌, ◌++◌, eqb}
use Rattle.clocks.specs.declared.Event.{Event}
use Rattle.clocks.specs.Event.{apply, lowered}
use Rattle.clocks.specs.Key.{lowest}
use Rattle.clocks.specs.Counts.{at, list_of}
use Rattle.clocks.specs.Bounded.{any_of}
use Rattle.frontiers.specs.declared.Frontier.{Frontier}
use Rattle.lookup.specs.Order.{same}
use Rattle.window.specs.Step.{Setting, fits}
use Rattle.records.specs.Record.{process_count, closed_mask, taken_counts, table_lines, pending_at, pending_events, ready_in}

-- The clock is valid by these frontiers: 1 less at the processes that take part it is one of them, on all eight counts
-- (02 [2]: lowering it gives a kept frontier).
unfoldable pub valid_among : (fs : List Frontier) (e : Event) → Bool
valid_among fs e = any_of (λ f. same f.counts (list_of 8 (lowered e))) fs

-- The setting of a step for an event, as the record's bytes have it.
unfoldable pub setting_in : (w : ℕ) (s : List ℕ) (e : Event) → Setting
setting_in w s e = record {
  stored = 8;
  processes = process_count s;
  closed = closed_mask s;
  table = table_lines w s;
  event = e;
  reached = apply e (at (taken_counts w s));
}

-- The numbers of those of these events, counted from i, whose lowest process is p.
unfoldable pub places_of : (p i : ℕ) (es : List Event) → List ℕ
places_of p i [] = []
places_of p i (e ∷ es) = cond (eqb (lowest e) p) (i ∷ places_of p (i + 1) es) (places_of p (i + 1) es)

-- The same for n processes, from p up.
unfoldable pub places_from : (n p i : ℕ) (es : List Event) → List ℕ
places_from zero p i es = []
places_from (suc n) p i es = places_of p i es ++ places_from n (p + 1) i es

-- The numbers of events from the lowest process up; those with the same lowest process as they stand. An event of no
-- process, as no call lays it down, has 8 for its lowest (clocks Key: lowest) and comes last.
abbrev pub in_turn : (es : List Event) → List ℕ
in_turn es = places_from 9 0 0 es

-- What take decides: on nothing (was some event ready?), that pending event i has a false clock, or to take event i.
pub data Decision : Type 0 where
  undecided : (seen : Bool) → Decision
  false_clock : (i : ℕ) → Decision
  chosen : (i : ℕ) → Decision

-- The pending events with these numbers are tried one after the other, with a test of their clocks, where `seen` says
-- that one before was ready and `allowed` frontiers fit.
unfoldable pub tried : (w : ℕ) (s : List ℕ) (valid : Event → Bool) (allowed : ℕ) (fs : List Frontier) (seen : Bool)
    (places : List ℕ) → Decision
tried w s valid allowed fs seen [] = undecided seen
tried w s valid allowed fs seen (i ∷ is) =
    let e = pending_at w s i in
    cond (ready_in w s e)
    (cond (valid e)
    (cond (fits (setting_in w s e) allowed fs) (chosen i) (tried w s valid allowed fs true is))
    (false_clock i))
    (tried w s valid allowed fs seen is)

-- All of them, in turn.
abbrev pub trial_by : (w : ℕ) (s : List ℕ) (valid : Event → Bool) (allowed : ℕ) (fs : List Frontier) → Decision
trial_by w s valid allowed fs = tried w s valid allowed fs false (in_turn (pending_events w s))

-- Take's trial, where these frontiers are kept and at most so many may be.
abbrev pub trial : (w : ℕ) (s : List ℕ) (allowed : ℕ) (fs : List Frontier) → Decision
trial w s allowed fs = trial_by w s (valid_among fs) allowed fs
