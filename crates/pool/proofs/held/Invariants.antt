-- What the watches so far hold is added up.
use Prim.Native.Nat.{◌+◌, ◌≤◌, ◌*◌}
use mathlib.Core.Path.{◌≡◌}
use Rattle.pool.specs.Pool.{sum_below, share_at}
use Rattle.pool.specs.PoolCode.{used_by}
use Rattle.pool.proofs.held.Given as goal

abbrev pub invariant-loop-j : goal.invariant-loop-j
invariant-loop-j l = (l.sum ≡ sum_below l.j (λ k. share_at l.pool k + used_by l.pool l.i k)) × (l.sum ≤ 65536 * l.j)
