-- Word by word: one line, or three.
use native.Mathlib.Omega.{arith}
use Rattle.rules.specs.Line.{lines_after_both}
use Rattle.rules.proofs.LayingSteps.{laid_within}
use Rattle.rules.proofs.laying.lay_after_both.Goals as goal

pub returns-in-And : goal.returns-in-And
unfolding lines_after_both
returns-in-And c = rw c.in-And.is (laid_within c.lay_line.ensures (omega arith))

pub returns-in-Es : goal.returns-in-Es
unfolding lines_after_both
returns-in-Es c = rw c.in-Es.is (laid_within c.lay_line-in-Es.ensures (omega arith))

pub returns-in-As : goal.returns-in-As
unfolding lines_after_both
returns-in-As c = rw c.in-As.is (laid_within c.lay_line-in-As.ensures (omega arith))

pub returns-in-Or : goal.returns-in-Or
unfolding lines_after_both
returns-in-Or c = rw c.in-Or.is c.lay_negated.ensures
