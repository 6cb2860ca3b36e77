-- The two tests, one after the other; the second is of a number below 8.
use Rattle.std.proofs.Common.{arith, rules, tests, le-leb}
use Rattle.std.proofs.lemmas.Bool.{lt-leb}
use Rattle.pool.specs.Pool.{no_share, share_at}
use Rattle.pool.proofs.no_share.Goals as goal

pub returns-then-number : goal.returns-then-number
unfolding no_share
returns-then-number c = rw (le-leb 8 c.args.number (omega arith)) (search (rules, tests))

pub returns-else-number : goal.returns-else-number
unfolding no_share share_at
returns-else-number c = rw (lt-leb 8 c.args.number (omega arith), c.number_at.ensures.0)
