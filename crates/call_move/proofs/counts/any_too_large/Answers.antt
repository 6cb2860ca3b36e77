use Rattle.std.proofs.Common.{◌≡◌, ◌*◌, drop, refl, rules, arith}
use Rattle.frontiers.specs.BytesLaws.{count-within}
use Rattle.call_move.proofs.CountSteps.{looked_none, looked_turn}
use Rattle.call_move.proofs.counts.any_too_large.Goals as goal

pub loop-i-init : goal.loop-i-init
loop-i-init c =
    let a = c.args in
    looked_none a.v a.w (drop a.place a.s.now)

pub read_counts-requires : goal.read_counts-requires
read_counts-requires c =
    let a = c.args in
    rw c.bytes.ensures.value (omega (arith, count-within c.loop-i.i a.n (8 * a.v) (search rules)))

pub loop-i-preserved : goal.loop-i-preserved
loop-i-preserved c =
    let a = c.args in
    let l = c.loop-i in
    looked_turn a.v a.w l.i a.s.now a.place _ _ _ _ refl (rw c.bytes.ensures.value at c.read_counts.ensures)
    c.one_too_large-some.ensures l.invariant

pub returns : goal.returns
returns c = let all : c.loop-i.i ≡ c.args.n = omega arith in cc
