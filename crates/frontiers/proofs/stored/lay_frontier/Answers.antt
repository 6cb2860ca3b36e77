-- Storing at the start of the tail is storing at its place: the law `lent_tail`.
use Rattle.frontiers.specs.Bytes.{frontier_bytes}
use Rattle.frontiers.specs.StoreLaws.{lent_tail}
use Rattle.frontiers.proofs.stored.lay_frontier.Goals as goal

pub returns : goal.returns
returns c =
    let a = c.args in
    cc (lent_tail a.scratch.now c.frontier_place-place.result (frontier_bytes a.w a.f))
