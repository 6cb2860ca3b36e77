-- Before process p the columns below p stand there: the law `next_column`. The blanks and the ending go behind them.
use Rattle.std.proofs.Common.{◌≡◌}
use Rattle.std.proofs.lemmas.List.Edits.{sets}
use Rattle.call_page.specs.Page.{columns}
use Rattle.call_page.proofs.row.put_row.Given as goal

abbrev pub invariant-loop-p : goal.invariant-loop-p
invariant-loop-p l = l.page ≡ sets l.initial.page l.at (columns l.k l.fn.counts l.p)
