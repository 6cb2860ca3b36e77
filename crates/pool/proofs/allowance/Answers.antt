-- What is held is taken off 1,024 at once, or in two steps: the same, as differences stop at 0.
use Rattle.std.proofs.Common.{arith}
use Rattle.pool.specs.Pool.{share_at, unpromised, allowance}
use Rattle.pool.proofs.allowance.Goals as goal

pub returns : goal.returns
unfolding allowance unpromised share_at
returns c =
    let share = c.number_at.ensures in
    (omega (arith, c.held.ensures, share.0, c.saturating_sub.ensures), omega (arith, share.1, c.saturating_sub.ensures))
