-- Word by word: one line, or three.
use native.Mathlib.Omega.{arith}
use Rattle.rules.specs.Line.{lines_after}
use Rattle.rules.proofs.LayingSteps.{laid_within}
use Rattle.rules.proofs.laying.lay_after.Goals as goal

pub returns-in-Not : goal.returns-in-Not
unfolding lines_after
returns-in-Not c = rw c.in-Not.is (laid_within c.lay_line.ensures (omega arith))

pub returns-in-Ey : goal.returns-in-Ey
unfolding lines_after
returns-in-Ey c = rw c.in-Ey.is (laid_within c.lay_line-in-Ey.ensures (omega arith))

pub returns-in-Ep : goal.returns-in-Ep
unfolding lines_after
returns-in-Ep c = rw c.in-Ep.is (laid_within c.lay_line-in-Ep.ensures (omega arith))

pub returns-in-Ap : goal.returns-in-Ap
unfolding lines_after
returns-in-Ap c = rw c.in-Ap.is (laid_within c.lay_line-in-Ap.ensures (omega arith))

pub returns-in-Ay : goal.returns-in-Ay
unfolding lines_after
returns-in-Ay c = rw c.in-Ay.is c.lay_negated.ensures

pub returns-in-Eh : goal.returns-in-Eh
unfolding lines_after
returns-in-Eh c = rw c.in-Eh.is c.lay_negated-in-Eh.ensures

pub returns-in-Ah : goal.returns-in-Ah
unfolding lines_after
returns-in-Ah c = rw c.in-Ah.is c.lay_negated-in-Ah.ensures
