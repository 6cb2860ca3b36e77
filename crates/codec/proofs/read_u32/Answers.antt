-- The library reads the definition's number: the law `number-worths`.
use Rattle.std.proofs.Common.{◌∙◌}
use Rattle.codec.specs.LibraryLaws.{number-worths}
use Rattle.codec.proofs.read_u32.Goals as goal

pub returns : goal.returns
returns c = rw c.bytes_at.ensures at c.from_le_bytes.ensures ∙ number-worths c.args.s.now c.args.at 3
