use Rattle.std.proofs.Common.{◌≡◌, arith}
use Rattle.frontiers.specs.Bytes.{frontier_length}
use Rattle.frontiers.specs.BytesLaws.{count-within}
use Rattle.call_move.proofs.WindowSteps.{none_looked, frontier_looked}
use Rattle.call_move.proofs.window_parts.window_too_large.Goals as goal

pub loop-i-init : goal.loop-i-init
loop-i-init c = let a = c.args in none_looked a.v a.w a.window.now

pub any_too_large-some-requires : goal.any_too_large-some-requires
unfolding frontier_length
any_too_large-some-requires c =
    let a = c.args in
    let within = count-within c.loop-i.i a.n (frontier_length a.v) (omega arith) in
    omega (arith, within)

pub loop-i-preserved : goal.loop-i-preserved
loop-i-preserved c =
    let a = c.args in
    let place = c.frontier_place in
    cc (frontier_looked a.v a.w c.loop-i.i a.window.now place.result place.ensures.0)

pub returns : goal.returns
returns c = let all : c.loop-i.i ≡ c.args.n = omega arith in cc
