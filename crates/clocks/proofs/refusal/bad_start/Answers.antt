-- The closure's answer is the test at p.
use Rattle.std.proofs.Common.{rules, refl}
use Rattle.clocks.specs.Refusal.{bad_start, bad_start_label}
use Rattle.clocks.specs.stored.CallLaws.{any_called}
use Rattle.clocks.proofs.refusal.bad_start.Goals as goal

pub returns : goal.returns
unfolding bad_start
returns c = any_called 8 (bad_start_label c.args.k c.args.labels) _ _ _ refl c.any.ensures.ran (λ p b q k. search rules)
