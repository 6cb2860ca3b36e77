-- The test is that of the two that is asked for.
use Rattle.std.proofs.Common.{rules}
use Rattle.clocks.specs.SameEvent.{same_event}
use Rattle.refusals.specs.Refusals.{conflicts}
use Rattle.repeats.specs.RepeatsCode.{alike}
use Rattle.repeats.proofs.pending_alike.Goals as goal

pub returns-then-whole : goal.returns-then-whole
unfolding alike
returns-then-whole c =
    rw (c.if-whole.true, c.any_pending.ensures (same_event c.args.e) (λ f b h. search rules), c.of-width.ensures)

pub returns : goal.returns
unfolding alike
returns c = rw (c.if-whole.false, c.any_pending-2.ensures (conflicts c.args.e) (λ f b h. search rules), c.of-width.ensures)
