-- Eight times i bytes are copied, eight more with each turn: the law `copied_more`.
use Rattle.std.proofs.Common.{◌≡◌, ◌*◌, take, drop}
use Rattle.std.proofs.lemmas.List.Edits.{sets}
use Rattle.call_move.proofs.bytes.copy_eights.Given as goal

abbrev pub invariant-loop-i : goal.invariant-loop-i
invariant-loop-i l = l.target ≡ sets l.initial.target l.to (take (8 * l.i) (drop l.from l.s))
