-- One frontier more each turn: the law `frontiers-written`.
use Rattle.std.proofs.Common.{◌≡◌}
use Rattle.std.proofs.lemmas.List.Edits.{sets}
use Rattle.call_move.specs.Parts.{window_parts}
use Rattle.call_move.specs.Move.{moved}
use Rattle.call_move.proofs.window_parts.move_window.Given as goal

abbrev pub invariant-loop-i : goal.invariant-loop-i
invariant-loop-i l = l.target ≡ sets l.initial.target 0 (moved l.v l.w (window_parts l.i) l.window)
