-- The counts, and the rest written behind them: the law `frontier_written`.
use mathlib.Core.Path.{sym, ◌∙◌}
use lib.ListN.{drop}
use Rattle.frontiers.specs.Bytes.{frontier_length}
use Rattle.call_move.proofs.WindowSteps.{frontier_counts, frontier_written}
use Rattle.std.proofs.Common.{rules}
use Rattle.call_move.proofs.window_parts.move_frontier.Goals as goal

pub move_counts-requires-clause-v_in_bounds : goal.move_counts-requires-clause-v_in_bounds
unfolding frontier_length
move_counts-requires-clause-v_in_bounds c = search rules

pub move_counts-requires-clause-w_in_bounds : goal.move_counts-requires-clause-w_in_bounds
unfolding frontier_length
move_counts-requires-clause-w_in_bounds c = search rules

pub move_counts-requires-clause-s_value : goal.move_counts-requires-clause-s_value
unfolding frontier_length
move_counts-requires-clause-s_value c =
    let a = c.args in
    let fit = sym (frontier_counts a.v a.w (drop a.from a.window.now)) ∙ c.requires.window_value in
    fit

pub copy_eights-requires : goal.copy_eights-requires
unfolding frontier_length
copy_eights-requires c = search rules

pub returns : goal.returns
returns c =
    let a = c.args in
    let rest = rw (c.bytes.ensures.value, c.bytes-2.ensures.value) at c.copy_eights.ensures in
    frontier_written a.v a.w a.window.now a.from a.target.now _ _ a.to
    c.move_counts.ensures rest
