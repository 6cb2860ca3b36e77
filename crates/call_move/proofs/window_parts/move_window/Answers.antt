use Rattle.std.proofs.Common.{◌≡◌, arith}
use Rattle.frontiers.specs.Bytes.{frontier_length}
use Rattle.frontiers.specs.BytesLaws.{count-within}
use Rattle.call_move.proofs.WindowSteps.{frontier_fits, none_written, frontiers-written}
use Rattle.call_move.proofs.window_parts.move_window.Goals as goal

pub loop-i-init : goal.loop-i-init
loop-i-init c =
    let a = c.args in
    none_written a.v a.w a.window.now a.target.now

pub move_frontier-requires-clause-v_in_bounds : goal.move_frontier-requires-clause-v_in_bounds
move_frontier-requires-clause-v_in_bounds c =
    let from = count-within c.loop-i.i c.args.n (frontier_length c.args.v) (omega arith) in
    omega (arith, from)

pub move_frontier-requires-clause-w_in_bounds : goal.move_frontier-requires-clause-w_in_bounds
move_frontier-requires-clause-w_in_bounds c =
    let to = count-within c.loop-i.i c.args.n (frontier_length c.args.w) (omega arith) in
    omega (arith, to)

pub move_frontier-requires-clause-window_value : goal.move_frontier-requires-clause-window_value
move_frontier-requires-clause-window_value c =
    let a = c.args in
    let place = c.frontier_place in
    frontier_fits a.v a.w a.n c.loop-i.i a.window.now place.result place.ensures.0 (omega arith)
    c.requires.window_value

pub loop-i-preserved : goal.loop-i-preserved
loop-i-preserved c =
    let a = c.args in
    let l = c.loop-i in
    let from = c.frontier_place in
    let to = c.frontier_place-in-loop-i in
    let within = count-within l.i a.n (frontier_length a.v) (omega arith) in
    let more =
    frontiers-written a.v a.w l.i a.window.now from.result a.target.now to.result from.ensures.0 to.ensures.0
    (omega (arith, within)) in
    cc

pub returns : goal.returns
returns c = let all : c.loop-i.i ≡ c.args.n = omega arith in cc
