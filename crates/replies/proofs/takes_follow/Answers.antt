-- The answers one by one (`accepted_by_lem`).
use Rattle.std.proofs.Common.{sym, ◌∙◌}
use Rattle.replies.proofs.ReplySteps.{accepted_by_lem, and-false}
use Rattle.replies.proofs.takes_follow.Goals as goal

pub returns-in-Ok : goal.returns-in-Ok
returns-in-Ok c = λ counts a p e. accepted_by_lem a _ c.args.offered counts p (rw c.in-Ok.is at e)

pub returns-in-Err : goal.returns-in-Err
returns-in-Err c = λ counts a p e. sym (and-false c.args.offered) ∙ accepted_by_lem a _ c.args.offered counts p (rw c.in-Err.is at e)
