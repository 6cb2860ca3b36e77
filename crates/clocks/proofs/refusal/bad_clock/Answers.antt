-- The closure's answer is the test at p.
use Rattle.std.proofs.Common.{rules, refl}
use Rattle.clocks.specs.Refusal.{bad_clock, bad_count}
use Rattle.clocks.specs.stored.CallLaws.{any_called}
use Rattle.clocks.proofs.refusal.bad_clock.Goals as goal

pub returns : goal.returns
unfolding bad_clock
returns c =
    let a = c.args in
    any_called 8 (bad_count a.k a.mask a.clock) _ _ _ refl c.any.ensures.ran (λ p b q k. search rules)
