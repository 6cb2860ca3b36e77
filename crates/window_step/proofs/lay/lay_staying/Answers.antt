-- One more frontier stands behind those laid down: the law `frontiers_stored`.
use mathlib.Core.Path.{ap, ◌∙◌}
use Prim.Native.Nat.{◌≤◌, ◌+◌, ◌*◌}
use mathlib.Core.List.{[], ◌∷◌, ◌++◌}
use lib.ListN.{length}
use Rattle.codec.specs.Little.{Bytes}
use Rattle.frontiers.specs.Bytes.{frontier_at, frontiers, frontier_length}
use Rattle.frontiers.specs.WindowLaws.{frontiers_stored}
use Rattle.frontiers.specs.Shaped.{Shaped}
use Rattle.window_step.proofs.lay.ShapeSteps.{shaped_at}
use Rattle.frontiers.specs.declared.Frontier.{Frontier}
use Rattle.std.proofs.Common.{rules}
use Rattle.window_step.proofs.lay.lay_staying.Goals as goal
use Rattle.window_step.proofs.lay.lay_staying.Goals.{After-frontier_at-f}

-- The frontier that was read is of proper shape.
proper : (c : After-frontier_at-f) → Bytes c.args.window.now → Shaped c.args.w c.frontier_at-f.result
proper c bytes =
    let a = c.args in
    rw c.frontier_at-f.ensures (shaped_at a.w a.window.now a.i bytes (search rules))

pub lay_frontier-requires-clause-by_index : goal.lay_frontier-requires-clause-by_index
lay_frontier-requires-clause-by_index c =
    rw c.bytes.ensures.value (proper (goal.at.lay_frontier-requires-clause-by_index c).After-frontier_at-f (λ i. (c.type_inv.window i).fits)).counts_fit

pub returns : goal.returns
returns c =
    let a = c.args in
    let f = frontier_at a.w a.window.now a.i in
    let room : a.m * frontier_length a.w + frontier_length a.w ≤ length a.scratch.now = search rules in
    rw (c.lay_frontier.ensures, c.bytes.ensures.value) (
    frontiers_stored a.w a.scratch.now a.m c.frontier_at-f.result (proper (goal.at.returns c).After-frontier_at-f (λ i. (c.type_inv.window i).fits)) room
    ∙ ap (λ (g : Frontier). frontiers a.w a.scratch.now a.m ++ (g ∷ [])) c.frontier_at-f.ensures)
