use Rattle.std.proofs.Common.{rules}
use Rattle.clocks.specs.Bounds.{upper}
use Rattle.clocks.specs.Counts.{at}
use Rattle.clocks.specs.stored.CallLaws.{made_called}
use Rattle.clocks.proofs.join.larger.Goals as goal

pub returns : goal.returns
returns c = made_called (upper (at c.args.a) (at c.args.b)) _ 8 0 c.from_fn.result c.from_fn.ensures.items (λ j y q l k. search rules)
