-- Eight zeros are what is kept of no numbers.
use Rattle.std.proofs.Common.{refl}
use Rattle.clocks.specs.Counts.{list_of}
use Rattle.line_pieces.proofs.list.no_numbers.Goals as goal

pub returns : goal.returns
unfolding list_of
returns c = refl
