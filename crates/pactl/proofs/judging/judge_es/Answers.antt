-- The definition, with what `has` answers.
use Rattle.pactl.specs.Judge.{es_judged}
use Rattle.pactl.proofs.judging.judge_es.Goals as goal

pub returns : goal.returns
unfolding es_judged
returns c = rw (c.has.ensures, c.has-2.ensures, c.has-3.ensures)
