-- The fault stays as it is.
use Rattle.std.proofs.Common.{refl}
use Rattle.line_pieces.proofs.FaultFromBadList.from.Goals as goal

pub returns : goal.returns
returns c = refl
