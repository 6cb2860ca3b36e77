-- The count of trailing zeros is at most the width.
use Rattle.std.proofs.Common.{refl}
use lib.Count.{trailing_le}
use Rattle.codec.proofs.lowest_bit.Goals as goal

pub returns : goal.returns
returns c = (refl, trailing_le 8 c.args.mask)
