-- The answers one by one (`again_by`).
use Rattle.replies.proofs.ReplySteps.{again_by, again_by_number}
use Rattle.replies.proofs.take_follows.Goals as goal

pub returns-in-Ok : goal.returns-in-Ok
returns-in-Ok c = λ counts a p e. again_by a _ counts p (rw c.in-Ok.is at e)

pub returns-in-Err : goal.returns-in-Err
returns-in-Err c = λ counts a p e. rw c.from.ensures (again_by_number a c.in-Err.refused counts p (rw c.in-Err.is at e))
