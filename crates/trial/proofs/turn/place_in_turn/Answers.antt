-- Where they are in order, it is the turn's own number.
use native.Mathlib.Omega.{arith}
use mathlib.Core.Path.{sym, ◌∙◌}
use Rattle.trial.proofs.TurnSteps.{turn-there}
use Rattle.trial.proofs.turn.place_in_turn.Goals as goal

pub returns-then-ordered : goal.returns-then-ordered
returns-then-ordered c =
    let a = c.args in (
      sym (turn-there a.w a.«record».now a.turn (sym c.requires.ordered_value ∙ c.if-ordered.true)
          (omega arith)),
      omega arith,
    )
