-- The test of the processes passed, one more each turn.
use Rattle.std.proofs.Common.{◌≡◌}
use Rattle.clocks.specs.Bounded.{any_below}
use Rattle.window.proofs.PreparedSteps.{complete_in}
use Rattle.window.proofs.prepared.some_complete.Given as goal

abbrev pub invariant-loop-p : goal.invariant-loop-p
invariant-loop-p l = l.some ≡ any_below l.p (complete_in l.opens l.reached l.counts)
