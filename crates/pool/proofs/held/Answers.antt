use Prim.Native.Nat.{◌+◌}
use native.Mathlib.Omega.{arith}
use mathlib.Core.Path.{◌≡◌, refl, ◌∙◌}
use Rattle.pool.specs.Pool.{sum_below, share_at, used_by_others}
use Rattle.pool.specs.PoolCode.{used_by}
use Rattle.pool.specs.PoolLaws.{sum_next, sum_plus}
use Rattle.std.proofs.Common.{rules}
use Rattle.pool.proofs.held.Goals as goal

pub loop-j-init : goal.loop-j-init
unfolding sum_below
loop-j-init c = (refl, search rules)

pub loop-j-preserved : goal.loop-j-preserved
loop-j-preserved c =
    let l = c.loop-j in
    let a = c.args in
    let h = c.held_by-sum in (
      sum_next (λ k. share_at a.pool.now k + used_by a.pool.now a.i k) l.j l.sum h.result l.invariant.0
          h.ensures.0,
      search rules,
    )

pub returns : goal.returns
unfolding used_by_others
returns c =
    let l = c.loop-j in
    let a = c.args in
    let all : l.j ≡ 8 = omega arith in
    (rw all at l.invariant.0) ∙ sum_plus 8 (share_at a.pool.now) (used_by a.pool.now a.i)
