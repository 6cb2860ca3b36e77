-- Shifts are a division and a multiplication by powers of 2.
use Rattle.std.proofs.Common.{arith, one-mul}
use lib.Pow.{shl_exact}
use Rattle.call_words.specs.Words.{part}
use Rattle.call_words.proofs.part.Goals as goal

pub returns : goal.returns
unfolding part
returns c = rw (shl_exact {a = 1} 1 c.args.bits 64 (omega arith) (omega arith), one-mul)
