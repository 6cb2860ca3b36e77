-- The tests are those of the definition. The rest is left to the search, so that another result than the one wanted is
-- refused for what it is.
use borrow.Author.Tests.{le-leb, lt-leb}
use Rattle.std.proofs.Common.{rules}
use Rattle.replies.specs.Following.{next_stage}
use Rattle.replies.proofs.next_stage.Goals as goal

pub returns-then-stage-ge3 : goal.returns-then-stage-ge3
unfolding next_stage
returns-then-stage-ge3 c = rw (le-leb 3 c.args.stage c.if-stage-ge3.true) (search rules)

pub returns-then-refused : goal.returns-then-refused
unfolding next_stage
returns-then-refused c = rw (lt-leb 3 c.args.stage c.if-stage-ge3.false, c.if-refused.true) (search rules)

pub returns : goal.returns
unfolding next_stage
returns c = rw (lt-leb 3 c.args.stage c.if-stage-ge3.false, c.if-refused.false) (search rules)
