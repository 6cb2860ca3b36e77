-- Four reads, and the OR of what they give.
use Rattle.call_find.proofs.four_values.Goals as goal

pub returns : goal.returns
returns c = cc
