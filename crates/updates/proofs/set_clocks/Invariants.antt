-- The clocks of the processes passed are stored; the next is stored or passed over: the laws `clocks_next` and
-- `clocks_skip`.
use Rattle.std.proofs.Common.{◌≡◌}
use Rattle.records.specs.Record.{clocks_set}
use Rattle.updates.proofs.set_clocks.Given as goal

abbrev pub invariant-loop-p : goal.invariant-loop-p
invariant-loop-p l = l.«record» ≡ clocks_set l.w l.p l.initial.«record» l.e
