-- What the pool allows is what the request says.
use Rattle.std.proofs.Common.{arith}
use Rattle.pool.specs.Pool.{allowance}
use Rattle.call_shared.specs.SharedFit.{AllowedIsExact}

pub allowed_exactly : AllowedIsExact
unfolding allowance
allowed_exactly w window pool i n = (λ l. (omega arith, omega arith), λ l. omega (arith, l.0, l.1))
