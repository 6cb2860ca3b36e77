-- The parts are those of the definition.
use Rattle.std.proofs.Common.{refl}
use Rattle.replies.proofs.reply.ReplyFromResultAcceptedRefused.from.Goals as goal

pub returns-in-Ok : goal.returns-in-Ok
returns-in-Ok c = rw c.in-Ok.is refl

pub returns-in-Err : goal.returns-in-Err
returns-in-Err c = rw c.in-Err.is refl
