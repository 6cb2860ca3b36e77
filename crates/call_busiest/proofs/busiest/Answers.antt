-- The answer's word.
use Rattle.std.proofs.Common.{ap, ◌∙◌}
use Rattle.answers.specs.Result.{result_word}
use Rattle.call_busiest.proofs.busiest.Goals as goal

pub returns-in-Ok-clause-reply : goal.returns-in-Ok-clause-reply
unfolding result_word
returns-in-Ok-clause-reply c = rw c.of.ensures at (ap result_word c.in-Ok.ensures.answer)

pub returns-in-Err-clause-reply : goal.returns-in-Err-clause-reply
unfolding result_word
returns-in-Err-clause-reply c = c.from.ensures ∙ (rw c.of.ensures at (ap result_word c.in-Err.ensures.answer))
