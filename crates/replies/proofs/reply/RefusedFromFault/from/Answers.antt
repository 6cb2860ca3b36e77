-- The number is the refusal's.
use Rattle.replies.proofs.reply.RefusedFromFault.from.Goals as goal

pub returns : goal.returns
returns c = rw c.from.ensures
