-- The definition, with what `has` answers.
use Rattle.pactl.specs.Judge.{and_judged}
use Rattle.pactl.proofs.judging.judge_and.Goals as goal

pub returns : goal.returns
unfolding and_judged
returns c = rw (c.has.ensures, c.has-2.ensures)
