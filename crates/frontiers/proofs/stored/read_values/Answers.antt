-- The values stand behind counts, labels and masks.
use Rattle.frontiers.specs.Bytes.{frontier_length, frontier_from}
use Rattle.std.proofs.Common.{rules}
use Rattle.frontiers.proofs.stored.read_values.Goals as goal

pub read_u64-requires : goal.read_u64-requires
unfolding frontier_length
read_u64-requires c = search rules

pub returns : goal.returns
unfolding frontier_from
returns c = search rules
