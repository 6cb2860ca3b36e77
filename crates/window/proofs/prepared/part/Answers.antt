-- The digit is 1 or 0 as its test says: the law `digit_one`.
use Rattle.std.proofs.Common.{◌/◌, ◌%◌, ◌^◌, ◌<◌, arith}
use Rattle.codec.specs.Bit.{bit}
use Rattle.window.proofs.PreparedSteps.{digit_one}
use Rattle.window.proofs.prepared.part.Goals as goal

pub returns : goal.returns
unfolding bit
returns c =
    let digit : (c.args.mask / 2 ^ c.args.p) % 2 < 2 = omega arith in
    digit_one _ digit
