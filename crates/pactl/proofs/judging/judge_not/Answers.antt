-- The definition, with what `has` answers.
use Rattle.pactl.specs.Judge.{not_judged}
use Rattle.pactl.proofs.judging.judge_not.Goals as goal

pub returns : goal.returns
unfolding not_judged
returns c = cc
