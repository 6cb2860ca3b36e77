-- The counts passed are equal, so that the comparison is that of what follows.
use Rattle.std.proofs.Common.{◌≡◌, drop}
use Rattle.lookup.specs.Order.{before}
use Rattle.lookup.proofs.order.counts_before.Given as goal

abbrev pub invariant-loop-p : goal.invariant-loop-p
invariant-loop-p l = before l.a l.b ≡ before (drop l.p l.a) (drop l.p l.b)
