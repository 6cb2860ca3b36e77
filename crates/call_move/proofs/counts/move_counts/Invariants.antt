-- Eight times i counts are written, eight more with each turn: the law `written_more`.
use Rattle.std.proofs.Common.{◌≡◌, ◌*◌, drop}
use Rattle.std.proofs.lemmas.List.Edits.{sets}
use Rattle.frontiers.specs.Bytes.{count_bytes}
use Rattle.call_move.specs.Move.{counts_from}
use Rattle.call_move.proofs.counts.move_counts.Given as goal

abbrev pub invariant-loop-i : goal.invariant-loop-i
invariant-loop-i l =
    l.target ≡ sets l.initial.target l.to (count_bytes l.w (counts_from l.v (8 * l.i) (drop l.from l.s)))
