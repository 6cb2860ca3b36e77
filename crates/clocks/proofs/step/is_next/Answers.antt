-- Subtracting c and comparing with 1 says the same as adding 1 to c, and nothing can wrap.
use Rattle.clocks.specs.stored.StepCountLaws.{eqb_next}
use Rattle.clocks.proofs.step.is_next.Goals as goal

pub returns-then-n-c : goal.returns-then-n-c
returns-then-n-c c = eqb_next _ _ c.if-n-c.true
