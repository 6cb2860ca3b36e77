-- What is made for process p is what the definition has there.
use Rattle.std.proofs.Common.{true, rules}
use Rattle.clocks.specs.Event.{one, involved, count}
use Rattle.clocks.specs.stored.CallLaws.{made_called}
use Rattle.window.specs.Prepared.{bound}
use Rattle.window.proofs.prepared.spans.Goals as goal

pub returns : goal.returns
unfolding involved count
returns c =
    let e = c.args.e in
    made_called (λ p. bound true (one (involved e p)) (count e p)) _ 8 0 c.from_fn.result c.from_fn.ensures.items (λ p y q l k. search rules)
