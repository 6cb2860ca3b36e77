-- The test of eight times i counts, eight more each turn: the law `looked_turn`.
use Rattle.std.proofs.Common.{◌≡◌, ◌*◌, drop}
use Rattle.call_move.specs.MoveCode.{any_too_large}
use Rattle.call_move.proofs.counts.any_too_large.Given as goal

abbrev pub invariant-loop-i : goal.invariant-loop-i
invariant-loop-i l = l.some ≡ any_too_large l.v l.w (8 * l.i) (drop l.place l.s)
