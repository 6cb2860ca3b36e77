-- The test that is asked for is that of the definition.
use Rattle.repeats.specs.Repeats.{repeated}
use Rattle.repeats.specs.RepeatsCode.{alike}
use Rattle.repeats.proofs.repeated.Goals as goal

pub returns : goal.returns
unfolding repeated alike
returns c = rw (c.pending_alike.ensures, c.bytes.ensures.value)
