-- Causal histories: all that the theory of cuts knows of the events taken.
use Rattle.std.specs.Prelude.{List, [], ◌∷◌}
use Rattle.clocks.specs.declared.Event.{Event}
use Rattle.clocks.specs.Event.{Ready, lowered}
use Rattle.clocks.specs.History.{Consistent, Occupied, taken}

-- The event may be taken after the history: it is ready, and what it knows of is a consistent cut.
pub record Follows (ts : List Event) (e : Event) : Type 0 where
  pub occupied : Occupied e
  pub ready : Ready e (taken ts)
  pub knows : Consistent ts (lowered e)

-- Each event of the history followed those before it. All that is true of cuts rests on this alone.
abbrev pub Causal : List Event → Type 0
Causal [] = Unit {0}
Causal (e ∷ ts) = Follows ts e × Causal ts
