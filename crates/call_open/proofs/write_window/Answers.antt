-- The window cleared, then the frontier stored at its start: the law `stored_window`.
use lib.ListN.{length}
use Rattle.call_open.proofs.OpenSteps.{zeros_fit, stored_window}
use Rattle.std.proofs.Common.{rules}
use Rattle.call_open.proofs.write_window.Goals as goal

pub write_frontier-requires-clause-by_index : goal.write_frontier-requires-clause-by_index
write_frontier-requires-clause-by_index c = zeros_fit 8 c.args.w

pub returns : goal.returns
returns c =
    let a = c.args in
    rw (c.write_frontier.ensures, c.clear_all.ensures)
    (stored_window a.w (length a.window.now) a.labels a.values (search rules) (search rules))
