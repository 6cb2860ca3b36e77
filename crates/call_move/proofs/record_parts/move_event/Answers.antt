-- Three parts, each written behind those before it: the law `event-written`.
use Rattle.call_move.proofs.RecordSteps.{event-counts_fit, event-written}
use Rattle.call_move.proofs.record_parts.move_event.Goals as goal

pub move_counts-requires-clause-s_value : goal.move_counts-requires-clause-s_value
move_counts-requires-clause-s_value c =
    let a = c.args in
    let fit = event-counts_fit a.v a.w a.«record».now a.from c.requires.record_value in
    fit

pub returns : goal.returns
returns c =
    let a = c.args in
    let labels = rw (c.bytes.ensures.value, c.bytes-2.ensures.value) at c.copy_eights-2.ensures in
    event-written a.v a.w a.«record».now a.from a.target.now _ _ _ a.to c.requires.v_in_bounds
    c.copy_eights.ensures c.move_counts.ensures labels
