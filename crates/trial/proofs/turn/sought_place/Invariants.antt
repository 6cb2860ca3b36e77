-- The turns from that of event i of process p on: the laws `sought-here`, `-next`, `-pass`, `-over` and `-end`.
use mathlib.Core.Path.{◌≡◌}
use lib.ListN.{get_or}
use Rattle.records.specs.Record.{pending_events}
use Rattle.trial.specs.Trial.{in_turn}
use Rattle.trial.proofs.TurnSteps.{remaining}
use Rattle.trial.proofs.turn.sought_place.Given as goal

abbrev pub invariant-loop-p : goal.invariant-loop-p
invariant-loop-p l = get_or (in_turn (pending_events l.w l.«record»)) l.turn 0 ≡ get_or (remaining l.w l.«record» l.p 0) l.left 0

abbrev pub invariant-loop-i : goal.invariant-loop-i
invariant-loop-i l = get_or (in_turn (pending_events l.w l.«record»)) l.turn 0 ≡ get_or (remaining l.w l.«record» l.p l.i) l.left 0
