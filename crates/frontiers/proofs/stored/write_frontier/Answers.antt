-- The four parts are stored one behind the other: the law `stored_four`.
use Rattle.frontiers.specs.StoreLaws.{stored_four}
use Rattle.frontiers.specs.Bytes.{frontier_length}
use Rattle.std.proofs.Common.{rules}
use Rattle.frontiers.proofs.stored.write_frontier.Goals as goal

pub write_counts-requires : goal.write_counts-requires
unfolding frontier_length
write_counts-requires c = search rules

pub write_eight-requires : goal.write_eight-requires
unfolding frontier_length
write_eight-requires c = search rules

pub write_eight-requires-2 : goal.write_eight-requires-2
unfolding frontier_length
write_eight-requires-2 c = search rules

pub write_u64-requires : goal.write_u64-requires
unfolding frontier_length
write_u64-requires c = search rules

pub returns : goal.returns
returns c =
    let a = c.args in
    cc (stored_four a.w a.s.now a.f (search rules) (search rules) (search rules))
