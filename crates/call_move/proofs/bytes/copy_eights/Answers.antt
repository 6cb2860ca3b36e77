use Rattle.std.proofs.Common.{◌≡◌, drop, rules, arith}
use Rattle.call_move.proofs.PartSteps.{copied_none, copied_more}
use Rattle.call_move.proofs.bytes.copy_eights.Goals as goal

pub loop-i-init : goal.loop-i-init
loop-i-init c =
    let a = c.args in
    copied_none a.target.now a.to (drop a.from a.s.now)

pub loop-i-preserved : goal.loop-i-preserved
loop-i-preserved c =
    let a = c.args in
    let more = copied_more a.target.now a.to a.s.now a.from c.loop-i.i (search rules) in
    cc

pub returns : goal.returns
returns c = let all : c.loop-i.i ≡ c.args.n = omega arith in cc
