-- The values before j are placed. Each turn is `placed_next`.
use Rattle.std.proofs.Common.{◌≡◌}
use Rattle.clocks.specs.Counts.{at}
use Rattle.lines.specs.Words.{placed}
use Rattle.lines.proofs.words.place.Given as goal

abbrev pub invariant-loop-j : goal.invariant-loop-j
invariant-loop-j l = l.out ≡ placed l.j (at l.places) (at l.values)
