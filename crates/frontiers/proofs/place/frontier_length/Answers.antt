-- The length is computed as it is defined.
use Rattle.frontiers.specs.Bytes.{frontier_length}
use Rattle.std.proofs.Common.{rules}
use Rattle.frontiers.proofs.place.frontier_length.Goals as goal

pub returns : goal.returns
unfolding frontier_length
returns c = search rules
