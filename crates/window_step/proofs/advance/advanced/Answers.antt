-- Each part is renewed at the event's processes: the law `advanced_parts`.
use Rattle.window_step.proofs.advance.AdvanceSteps.{advanced_parts}
use Rattle.window_step.proofs.advance.advanced.Goals as goal

pub returns : goal.returns
returns c =
    λ s h v. let a = c.args in
    let full = c.requires.full_value in
    advanced_parts s a.e a.f c.apply.result c.renewed.result c.renewed-2.result h v
    c.apply.ensures (c.renewed.ensures a.e.mask full) (c.renewed-2.ensures a.e.mask full)
