-- The test on the number is that of the definition.
use Rattle.std.proofs.Common.{eq-eqb, ne_eqb}
use Rattle.replies.specs.ReplyLaws.{parts_told}
use Rattle.replies.proofs.reply.Reply.result.Goals as goal

pub returns-then-self-ne0 : goal.returns-then-self-ne0
unfolding parts_told
returns-then-self-ne0 c = rw (ne_eqb _ 0 c.if-self-ne0.true)

pub returns : goal.returns
unfolding parts_told
returns c = rw (eq-eqb _ 0 c.if-self-ne0.false)
