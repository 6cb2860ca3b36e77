use Rattle.std.proofs.Common.{rules}
use Rattle.clocks.specs.Counts.{at}
use Rattle.clocks.specs.Event.{minus}
use Rattle.clocks.specs.stored.CallLaws.{made_called}
use Rattle.clocks.proofs.step.minus.Goals as goal

pub returns : goal.returns
unfolding minus
returns c =
    made_called (minus c.args.mask (at c.args.counts)) _ 8 0 c.from_fn.result c.from_fn.ensures.items (λ p y q l k. search rules)
