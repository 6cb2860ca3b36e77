-- The closure's answer is the test at p.
use Rattle.std.proofs.Common.{rules, refl}
use Rattle.clocks.specs.Refusal.{bad_labels, bad_label}
use Rattle.clocks.specs.stored.CallLaws.{any_called}
use Rattle.clocks.proofs.refusal.bad_labels.Goals as goal

pub returns : goal.returns
unfolding bad_labels
returns c = any_called 8 (bad_label c.args.mask c.args.labels) _ _ _ refl c.any.ensures.ran (λ p b q k. search rules)
