-- The library's bytes are the parts.
use Rattle.std.proofs.Common.{div-one}
use Rattle.clocks.specs.Counts.{list_of}
use Rattle.call_words.specs.Words.{part, unpack_labels}
use Rattle.call_words.proofs.unpack_labels.Goals as goal

pub returns : goal.returns
unfolding unpack_labels list_of part
returns c = rw div-one c.to_le_bytes.ensures
