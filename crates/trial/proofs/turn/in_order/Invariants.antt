-- Up to event i none is lower than the one before it: the laws `up_next`, `up_down` and `up_end`.
use mathlib.Core.Path.{◌≡◌}
use lib.ListN.{drop}
use Rattle.records.specs.Record.{pending_events}
use Rattle.trial.specs.TurnLaws.{ascending}
use Rattle.trial.proofs.turn.in_order.Given as goal

abbrev pub invariant-loop-i : goal.invariant-loop-i
invariant-loop-i l = ascending 0 (pending_events l.w l.«record») ≡ ascending l.last (drop l.i (pending_events l.w l.«record»))
