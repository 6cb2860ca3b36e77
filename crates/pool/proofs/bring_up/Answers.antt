-- The kept number's place is within the pool.
use Rattle.pool.specs.Pool.{brought_up}
use Rattle.pool.proofs.bring_up.Goals as goal

pub returns : goal.returns
unfolding brought_up
returns c = c.write_u16.ensures
