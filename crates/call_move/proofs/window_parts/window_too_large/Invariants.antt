-- The counts of one frontier more each turn: the law `frontier_looked`.
use Rattle.std.proofs.Common.{◌≡◌}
use Rattle.call_move.specs.Parts.{window_parts}
use Rattle.call_move.specs.Move.{some_too_large}
use Rattle.call_move.proofs.window_parts.window_too_large.Given as goal

abbrev pub invariant-loop-i : goal.invariant-loop-i
invariant-loop-i l = l.some ≡ some_too_large l.v l.w (window_parts l.i) l.window
