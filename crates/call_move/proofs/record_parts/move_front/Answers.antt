-- Four parts, each written behind those before it: the law `front_written`.
use native.Mathlib.Omega.{arith}
use Rattle.call_move.proofs.RecordSteps.{front_counts_fit, front_written}
use Rattle.call_move.proofs.record_parts.move_front.Goals as goal

pub move_counts-requires-clause-s_value : goal.move_counts-requires-clause-s_value
move_counts-requires-clause-s_value c =
    let fit = front_counts_fit c.args.v c.args.w c.args.«record».now c.requires.record_value in
    fit.0

pub move_counts-requires-2-clause-s_value : goal.move_counts-requires-2-clause-s_value
move_counts-requires-2-clause-s_value c =
    let fit = front_counts_fit c.args.v c.args.w c.args.«record».now c.requires.record_value in
    rw c.bytes.ensures.value fit.1

pub returns : goal.returns
returns c =
    let a = c.args in
    let from = c.table_place in
    let to = c.table_place-2 in
    let clocks = rw (c.bytes.ensures.value, c.bytes-2.ensures.value) at c.move_counts-2.ensures in
    front_written a.v a.w a.«record».now a.target.now _ _ _ _ from.result to.result
    from.ensures.0 to.ensures.0 (omega (arith, c.requires.record_len)) c.copy_eights.ensures
    c.move_counts.ensures clocks c.copy_eights-2.ensures
