-- A word has no bit from 64 up.
use Rattle.std.proofs.Common.{sym, le-ltb}
use Rattle.codec.specs.BitLaws.{bit_above}
use Rattle.pactl.proofs.judging.has.Goals as goal

pub returns-else-p-lt64 : goal.returns-else-p-lt64
returns-else-p-lt64 c = rw (le-ltb c.args.p 64 c.if-p-lt64.false) (sym (bit_above c.args.word 64 c.args.p c.ranges.word.fits c.if-p-lt64.false))
