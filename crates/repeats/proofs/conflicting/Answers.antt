-- The test that is asked for is that of the definition.
use Rattle.refusals.specs.Refusals.{conflicting}
use Rattle.repeats.specs.RepeatsCode.{alike}
use Rattle.repeats.proofs.conflicting.Goals as goal

pub returns : goal.returns
unfolding conflicting alike
returns c = rw (c.pending_alike.ensures, c.bytes.ensures.value)
