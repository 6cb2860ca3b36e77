-- The test is the definition of `bit`.
use Rattle.std.proofs.Common.{refl}
use Rattle.codec.specs.Bit.{bit}
use Rattle.codec.proofs.has_bit.Goals as goal

pub returns : goal.returns
unfolding bit
returns c = refl
