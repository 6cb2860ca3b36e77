-- The values are read from the frontier's place.
use mathlib.Core.Path.{ap, ◌∙◌}
use Prim.Native.Nat.{ℕ}
use Rattle.frontiers.specs.Bytes.{frontier_at, frontier_from}
use Rattle.frontiers.proofs.stored.values_at.Goals as goal

pub returns : goal.returns
unfolding frontier_at
returns c =
    let a = c.args in
    c.read_values.ensures ∙ ap (λ (place : ℕ). (frontier_from a.w a.s.now place).values) c.frontier_place-place.ensures.0
