-- Where a formula is judged: the consistent cuts of a history, and which of them precede which.
use Rattle.std.specs.Prelude.{List}
use Rattle.clocks.specs.declared.Event.{Event}
use Rattle.clocks.specs.Event.{Cut}
use Rattle.clocks.specs.History.{Consistent, Precedes}
use Rattle.clocks.specs.Valid.{History, ClockRule}
use Rattle.pactl.specs.Truth.{Model}

-- The model's events are a history under some rule for valid clocks.
pub record Ruled (M : Model) (valid : List Event → Event → Type 0) : Type 0 where
  pub rule : ClockRule M.processes valid
  pub by_rule : History M.processes valid M.history

-- A consistent cut of the model.
abbrev pub CutOf : (M : Model) (S : Cut) → Type 0
CutOf M S = Consistent M.history S

-- One cut of the model precedes another.
abbrev pub Leads : (M : Model) (S' S : Cut) → Type 0
Leads M S' S = Precedes M.history S' S
