-- The counts are read from the frontier's place.
use mathlib.Core.Path.{ap, ◌∙◌}
use Prim.Native.Nat.{ℕ}
use Rattle.frontiers.specs.Bytes.{frontier_length, frontier_at, frontier_from}
use Rattle.std.proofs.Common.{rules}
use Rattle.frontiers.proofs.stored.counts_at.Goals as goal

pub read_counts-requires : goal.read_counts-requires
unfolding frontier_length
read_counts-requires c = search rules

pub returns : goal.returns
unfolding frontier_at frontier_from
returns c =
    let a = c.args in
    c.read_counts.ensures ∙ ap (λ (place : ℕ). (frontier_from a.w a.s.now place).counts) c.frontier_place-place.ensures.0
