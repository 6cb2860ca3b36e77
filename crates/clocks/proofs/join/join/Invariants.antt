-- The join so far is that of the processes passed: a member's clock is joined to it, another's is passed over.
use Rattle.std.proofs.Common.{◌≡◌}
use Rattle.codec.specs.Bit.{bit}
use Rattle.clocks.specs.Counts.{list_of, clock_rows}
use Rattle.clocks.specs.Joined.{join_to}
use Rattle.clocks.proofs.join.join.Given as goal

abbrev pub invariant-loop-p : goal.invariant-loop-p
invariant-loop-p l = l.out ≡ list_of 8 (join_to l.p (bit l.mask) (clock_rows l.fn.last))
