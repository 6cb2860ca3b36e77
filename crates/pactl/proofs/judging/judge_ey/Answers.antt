-- The definition, with what `has` answers.
use Rattle.pactl.specs.Judge.{ey_judged}
use Rattle.pactl.proofs.judging.judge_ey.Goals as goal

pub returns : goal.returns
unfolding ey_judged
returns c = cc
