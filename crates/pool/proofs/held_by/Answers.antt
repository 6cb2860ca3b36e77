-- What it keeps above its share, added to the share, is the larger of the two.
use Rattle.std.proofs.Common.{ℕ, List, ◌≡◌, ◌≢◌, ◌+◌, ◌*◌, ◌∙◌, max, arith, eq-eqb, ne_eqb}
use Rattle.codec.specs.Little.{number}
use Rattle.pool.specs.Pool.{share_at, kept_at, above_share}
use Rattle.pool.specs.PoolCode.{used_by}
use Rattle.pool.proofs.held_by.Goals as goal

own : (pool : List ℕ) (i j : ℕ) → j ≡ i → number pool (2 * j) 2 ≡ share_at pool j + used_by pool i j
unfolding share_at
own pool i j e = rw (eq-eqb j i e) (omega arith)

another : (pool : List ℕ) (i j : ℕ) → j ≢ i → max (number pool (2 * j) 2) (number pool (2 * (8 + j)) 2) ≡ share_at pool j + used_by pool i j
unfolding share_at kept_at above_share
another pool i j other =
    let place : 2 * (8 + j) ≡ 16 + 2 * j = omega arith in
    rw (ne_eqb j i other, place) (omega arith)

pub returns-then-j-i : goal.returns-then-j-i
returns-then-j-i c =
    let a = c.args in
    let share = c.number_at-share.ensures in
    (share.0 ∙ own a.pool.now a.i a.j c.if-j-i.true, share.1)

pub returns : goal.returns
returns c =
    let a = c.args in
    let share = c.number_at-share.ensures in
    let kept = c.number_at.ensures in
    (rw (share.0, kept.0) at c.max.ensures ∙ another a.pool.now a.i a.j c.if-j-i.false, omega (arith, c.max.ensures))
