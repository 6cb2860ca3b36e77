use Rattle.std.proofs.Common.{◌≡◌, ◌*◌, drop, rules, arith}
use Rattle.frontiers.specs.BytesLaws.{count-within}
use Rattle.call_move.proofs.CountSteps.{written_none, written_more, eight_fit}
use Rattle.call_move.proofs.counts.move_counts.Goals as goal

pub loop-i-init : goal.loop-i-init
loop-i-init c =
    let a = c.args in
    written_none a.v a.w (drop a.from a.s.now) a.target.now a.to

pub move_eight-requires-clause-v_in_bounds : goal.move_eight-requires-clause-v_in_bounds
move_eight-requires-clause-v_in_bounds c =
    let a = c.args in
    rw c.bytes.ensures.value (omega (arith, count-within c.loop-i.i a.n (8 * a.v) (search rules)))

pub move_eight-requires-clause-w_in_bounds : goal.move_eight-requires-clause-w_in_bounds
move_eight-requires-clause-w_in_bounds c =
    let a = c.args in
    rw c.bytes-in-loop-i.ensures.value (omega (arith, count-within c.loop-i.i a.n (8 * a.w) (search rules)))

pub move_eight-requires-clause-s_value : goal.move_eight-requires-clause-s_value
move_eight-requires-clause-s_value c =
    let a = c.args in
    rw c.bytes.ensures.value (eight_fit a.v a.w a.n a.s.now a.from c.requires.s_value c.loop-i.i (search rules))

pub loop-i-preserved : goal.loop-i-preserved
loop-i-preserved c =
    let a = c.args in
    let more = written_more a.v a.w c.loop-i.i a.s.now a.from a.target.now a.to in
    cc

pub returns : goal.returns
returns c = let all : c.loop-i.i ≡ c.args.n = omega arith in cc
