-- A refusal before the watch is open, here of the watch line; the other ways are found.
use Rattle.std.proofs.Common.{rules}
use Rattle.replies.specs.Following.{next_stage}
use Rattle.replies.proofs.Stage.after.Goals as goal

pub returns-in_default-true : goal.returns-in_default-true
unfolding next_stage
returns-in_default-true c = rw (c.in_default-true.is-0, c.in_default-true.is-1) (search rules)
