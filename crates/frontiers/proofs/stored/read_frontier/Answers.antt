-- Each part is read from its place.
use Rattle.frontiers.specs.Bytes.{frontier_length, frontier_from}
use Rattle.std.proofs.Common.{rules}
use Rattle.frontiers.proofs.stored.read_frontier.Goals as goal

pub read_counts-requires : goal.read_counts-requires
unfolding frontier_length
read_counts-requires c = search rules

pub read_eight-requires : goal.read_eight-requires
unfolding frontier_length
read_eight-requires c = search rules

pub read_eight-requires-2 : goal.read_eight-requires-2
unfolding frontier_length
read_eight-requires-2 c = search rules

pub returns : goal.returns
unfolding frontier_from
returns c = cc
