-- 36 or nothing ready.
use Rattle.answers.specs.Answer.{reply_word}
use Rattle.std.proofs.Common.{rules}
use Rattle.call_take.proofs.undecided_word.Goals as goal

pub returns-then-seen : goal.returns-then-seen
unfolding reply_word
returns-then-seen c = rw c.if-seen.true (search rules)

pub returns-else-seen : goal.returns-else-seen
unfolding reply_word
returns-else-seen c = rw c.if-seen.false
