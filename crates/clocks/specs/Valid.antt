-- Valid clocks: what the clock of an event that is taken may count (02 [2]; 01, Clocks and cuts: true), and all that
-- the theory knows of such a rule.
use Rattle.std.specs.Prelude.{ℕ, ◌≤◌, ◌≡◌, false, List, [], ◌∷◌}
use Rattle.clocks.specs.declared.Event.{Event}
use Rattle.clocks.specs.Event.{involved, count, Ready, lowered}
use Rattle.clocks.specs.History.{taken, Consistent, Agree, Occupied}

-- The clock is valid: 1 less at the processes that take part, it is a consistent cut of the events taken. So an event
-- may know of events of other processes, from messages that they left, and with an event knows all that this one knew.
-- (02 says "a kept frontier": of a ready event, in a watch written by calls, it is one exactly if the cut is
-- consistent; demands statements/Messages.)
abbrev pub Known : (ts : List Event) (e : Event) → Type 0
Known ts e = Consistent ts (lowered e)

-- An event of a watch of k processes: some process takes part, and none from k up is named or counted.
pub record WellFormed (k : ℕ) (e : Event) : Type 0 where
  pub occupied : Occupied e
  pub below : (p : ℕ) → k ≤ p → involved e p ≡ false
  pub silent : (p : ℕ) → k ≤ p → count e p ≡ 0

-- The event may be taken: well formed, ready, and its clock valid by the rule.
pub record Takeable (k : ℕ) (valid : List Event → Event → Type 0) (ts : List Event) (e : Event) : Type 0 where
  pub formed : WellFormed k e
  pub ready : Ready e (taken ts)
  pub true_clock : valid ts e

-- A history of a watch: each event could be taken after those before it.
abbrev pub History : (k : ℕ) (valid : List Event → Event → Type 0) (es : List Event) → Type 0
History k valid [] = Unit {0}
History k valid (e ∷ ts) = Takeable k valid ts e × History k valid ts

-- All that the theory knows of a rule for valid clocks: what a takeable event knows of is a consistent cut, and whether
-- a ready event's clock is valid depends only on the events inside that cut.
pub record ClockRule (k : ℕ) (valid : List Event → Event → Type 0) : Type 0 where
  pub sound : (ts : List Event) (e : Event) → History k valid ts → Takeable k valid ts e → Consistent ts (lowered e)
  pub local : (ts us : List Event) (e : Event) → History k valid ts → History k valid us → Ready e (taken ts) → Ready e (taken us)
      → Agree (lowered e) ts us → valid ts e → valid us e
