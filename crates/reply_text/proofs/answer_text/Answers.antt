-- What is told of a possible answer's parts is all of them (`possible_told`).
use Rattle.std.proofs.Common.{◌∙◌}
use Rattle.replies.specs.ReplyLaws.{possible_told}
use Rattle.reply_text.proofs.answer_text.Goals as goal

pub returns-clause-text_promised : goal.returns-clause-text_promised
returns-clause-text_promised c =
    λ b p e. c.lay_text.ensures.text_promised b p (c.result.ensures ∙ possible_told b _ _ _ p e)
