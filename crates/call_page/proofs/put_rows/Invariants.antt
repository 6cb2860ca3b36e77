-- Before frontier i the rows below i stand there: the law `next_row`.
use Rattle.call_page.proofs.PageSteps.{Rows}
use Rattle.call_page.proofs.put_rows.Given as goal

abbrev pub invariant-loop-i : goal.invariant-loop-i
invariant-loop-i l = Rows l.initial.page l.laid l.k l.line l.i l.page
