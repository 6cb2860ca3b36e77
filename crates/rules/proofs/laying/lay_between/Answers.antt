-- Word by word: no line, or one.
use Rattle.rules.specs.Line.{lines_between}
use Rattle.rules.proofs.LayingSteps.{laid_none}
use Rattle.rules.proofs.laying.lay_between.Goals as goal

pub returns-in-And : goal.returns-in-And
unfolding lines_between
returns-in-And c = rw c.in-And.is laid_none

pub returns-in-Es : goal.returns-in-Es
unfolding lines_between
returns-in-Es c = rw c.in-Es.is laid_none

pub returns-in-As : goal.returns-in-As
unfolding lines_between
returns-in-As c = rw c.in-As.is laid_none

pub returns-in-Or : goal.returns-in-Or
unfolding lines_between
returns-in-Or c = rw c.in-Or.is c.lay_line.ensures
