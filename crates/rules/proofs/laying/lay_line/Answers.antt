-- The number of the kind is the kind's byte.
use Rattle.rules.proofs.laying.lay_line.Goals as goal

pub returns : goal.returns
returns c = rw (← c.from.ensures) c.put_line.ensures
