-- The derived equality is the definition's: the law `derived_same`. Other first counts decide: `differ_first`.
use Rattle.std.proofs.Common.{rules, ◌∙◌}
use Rattle.repeats.proofs.RepeatSteps.{derived_same, differ_first}
use Rattle.repeats.proofs.same_event.Goals as goal

pub returns-then-a-b : goal.returns-then-a-b
returns-then-a-b c = c.eq.ensures ∙ derived_same c.args.a c.args.b (search rules) (search rules) (search rules) (search rules)

pub returns-else-a-b : goal.returns-else-a-b
returns-else-a-b c = differ_first c.args.a c.args.b c.if-a-b.false
