-- A ready event's own count is one more than the cut's.
use Rattle.std.proofs.Common.{cond, ◌∙◌, rules}
use Rattle.clocks.specs.Counts.{at}
use Rattle.clocks.specs.Event.{involved, count}
use Rattle.clocks.specs.stored.CallLaws.{made_called}
use Rattle.clocks.specs.stored.CountsLaws.{list_of-same}
use Rattle.clocks.specs.stored.StepCountLaws.{apply-ready}
use Rattle.clocks.proofs.step.apply.Goals as goal

pub returns : goal.returns
unfolding involved count
returns c =
    let e = c.args.e in
    let S = at c.args.counts in
    made_called (λ p. cond (involved e p) (count e p) (S p)) _ 8 0 c.from_fn.result c.from_fn.ensures.items (λ p y q l k. search rules)
    ∙ list_of-same 8 _ _ (apply-ready 8 e S c.requires)
