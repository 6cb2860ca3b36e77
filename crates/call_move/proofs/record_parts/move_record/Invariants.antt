-- What stands before the pending events, then one event more each turn: the law `events_written`.
use Rattle.std.proofs.Common.{◌≡◌}
use Rattle.std.proofs.lemmas.List.Edits.{sets}
use Rattle.call_move.specs.Move.{moved}
use Rattle.call_move.specs.MoveCode.{parts_to}
use Rattle.call_move.proofs.record_parts.move_record.Given as goal

abbrev pub invariant-loop-next : goal.invariant-loop-next
invariant-loop-next l = l.target ≡ sets l.initial.target 0 (moved l.v l.w (parts_to l.next) l.«record»)
