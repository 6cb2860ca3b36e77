-- The counts before the pending events, then those of one event more each turn: the laws `front_looked` and
-- `event_looked`.
use Rattle.std.proofs.Common.{◌≡◌}
use Rattle.call_move.specs.Move.{some_too_large}
use Rattle.call_move.specs.MoveCode.{parts_to}
use Rattle.call_move.proofs.record_parts.record_too_large.Given as goal

abbrev pub invariant-loop-i : goal.invariant-loop-i
invariant-loop-i l = l.some ≡ some_too_large l.v l.w (parts_to l.i) l.«record»
