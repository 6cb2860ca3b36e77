-- The lines that were laid down are as many as the word counts.
use native.Mathlib.Omega.{arith}
use Rattle.rules.proofs.LayingSteps.{done_close}
use Rattle.rules.specs.Line.{line_count, lines_at}
use Rattle.rules.specs.Formula.{constant}
use Rattle.rules.specs.lines.LineLaws.{length-constant}
use Rattle.rules.proofs.forms.read_constant.Goals as goal

pub returns : goal.returns
unfolding line_count lines_at
returns c =
    let a = c.args in
    let laid = c.lay_constant-end.ensures in
    done_close a.from.laid a.from.closed a.table.now _ a.rule.now.text.now a.from.place _ (constant a.word) _
    c.close.ensures (omega (arith, laid.count, length-constant a.word a.from.laid)) laid.table
