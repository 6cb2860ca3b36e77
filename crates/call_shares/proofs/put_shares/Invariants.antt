-- The first i shares stand in the cleared pool, one more with each turn: the law `share_step`.
use Prim.Native.Nat.{◌≤◌}
use mathlib.Core.Path.{◌≡◌}
use lib.ListN.{length}
use Rattle.call_shares.proofs.PutSteps.{written}
use Rattle.call_shares.proofs.put_shares.Given as goal

abbrev pub invariant-loop-i : goal.invariant-loop-i
invariant-loop-i l = (l.i ≤ length l.shares) × (length l.pool ≡ 32) × (l.pool ≡ written l.shares l.i)
