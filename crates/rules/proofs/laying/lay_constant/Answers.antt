-- The lines of true, and for false one more behind them.
use native.Mathlib.Omega.{arith}
use Rattle.rules.specs.Line.{constant_lines}
use Rattle.rules.proofs.LayingSteps.{laid_then, laid_within}
use Rattle.rules.proofs.laying.lay_constant.Goals as goal

pub returns-in-True : goal.returns-in-True
unfolding constant_lines
returns-in-True c = rw c.in-True.is (laid_within c.lay_true-end.ensures (omega arith))

pub returns-in-False : goal.returns-in-False
unfolding constant_lines
returns-in-False c =
    rw c.in-False.is
    (laid_then c.lay_true-end.ensures c.lay_line.ensures)
