use Rattle.std.proofs.Common.{◌≡◌, sym, arith}
use Rattle.std.proofs.Math.Bool.{or_comm}
use Rattle.clocks.specs.stored.BoundedTurns.{any_none, any_more}
use Rattle.call_move.proofs.counts.one_too_large.Invariants.{test}
use Rattle.call_move.proofs.counts.one_too_large.Goals as goal

pub loop-count-init : goal.loop-count-init
loop-count-init c = sym (any_none _)

pub loop-count-preserved : goal.loop-count-preserved
loop-count-preserved c =
    let a = c.args in
    let l = c.loop-count in
    let more = any_more l.count-index (test a.w a.counts) in
    cc (or_comm l.some c.too_large-some.result)

pub returns : goal.returns
returns c = let every : c.loop-count.count-index ≡ 8 = omega arith in cc
