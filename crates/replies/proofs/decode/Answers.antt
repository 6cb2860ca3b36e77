-- The law that inverts `reply_word`, by the test on the number (`decoded`).
use Rattle.std.proofs.Common.{eq-eqb, ne_eqb}
use Rattle.replies.proofs.ReplySteps.{decoded}
use Rattle.replies.specs.ReplyLaws.{word_parts, parts_told}
use Rattle.replies.proofs.decode.Goals as goal

pub returns-then-number-ne0 : goal.returns-then-number-ne0
unfolding word_parts parts_told
returns-then-number-ne0 c = λ a f e. rw (ne_eqb _ 0 c.if-number-ne0.true) at (decoded a c.args.word f e)

pub returns : goal.returns
unfolding word_parts parts_told
returns c = λ a f e. rw (eq-eqb _ 0 c.if-number-ne0.false) at (decoded a c.args.word f e)
