-- The definition, with what `has` answers.
use Rattle.pactl.specs.Judge.{as_judged}
use Rattle.pactl.proofs.judging.judge_as.Goals as goal

pub returns : goal.returns
unfolding as_judged
returns c = rw (c.has.ensures, c.has-2.ensures, c.has-3.ensures)
