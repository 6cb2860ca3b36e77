-- The frontier is read from its place.
use mathlib.Core.Path.{ap, ◌∙◌}
use Rattle.frontiers.specs.Bytes.{frontier_at, frontier_from}
use Rattle.frontiers.proofs.stored.frontier_at.Goals as goal

pub returns : goal.returns
unfolding frontier_at
returns c =
    let a = c.args in
    c.read_frontier.ensures ∙ ap (frontier_from a.w a.s.now) c.frontier_place-place.ensures.0
