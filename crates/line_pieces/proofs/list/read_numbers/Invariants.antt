-- The loop keeps to `Going`: the numbers before `at` are read, and the rest of the list is what is left.
use Rattle.std.proofs.Common.{◌-◌, length}
use Rattle.line_pieces.specs.NumberListCode.{ascending}
use Rattle.line_pieces.proofs.list.ListSteps.{Going}
use Rattle.line_pieces.proofs.list.read_numbers.Given as goal

abbrev pub invariant-loop-found : goal.invariant-loop-found
invariant-loop-found l = Going l.line (ascending l.order) l.most l.start l.values l.count l.least l.at

abbrev pub decreases-loop-found : goal.decreases-loop-found
decreases-loop-found l = length l.line - l.at
