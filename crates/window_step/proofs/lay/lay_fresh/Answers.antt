-- The new frontier is that of the definition, and stands behind those laid down.
use mathlib.Core.Path.{◌≡◌, refl, sym, ap, ◌∙◌, subst}
use Prim.Native.Nat.{◌<◌, ◌^◌}
use mathlib.Core.List.{[], ◌∷◌, ◌++◌}
use Rattle.codec.specs.Little.{Bytes}
use Rattle.frontiers.specs.Bytes.{frontier_at, frontiers}
use Rattle.frontiers.specs.WindowLaws.{frontiers_stored}
use Rattle.frontiers.specs.Shaped.{Shaped}
use Rattle.window_step.proofs.lay.ShapeSteps.{shaped_at, shaped_advanced}
use Rattle.frontiers.specs.declared.Frontier.{Frontier}
use Rattle.window.specs.Step.{Setting, advanced}
use Rattle.window_step.specs.Fixed.{setting_of}
use Rattle.window_step.proofs.GatherSteps.{fresh_is}
use Rattle.std.proofs.Common.{rules}
use Rattle.window_step.proofs.lay.lay_fresh.Goals as goal
use Rattle.window_step.proofs.lay.lay_fresh.Goals.{After-advanced-g, After-judge-values}

-- The new frontier, not judged yet, is that of the definition.
leads : (c : After-advanced-g) → let a = c.args in
    (s : Setting) → s.stored ≡ 8 → s.event ≡ a.fixed.now.event → c.advanced-g.result ≡ advanced s (frontier_at a.fixed.now.w a.window.now a.j)
leads c s h v = c.advanced-g.ensures s h v ∙ ap (advanced s) c.frontier_at-f.ensures

-- What is laid down is of proper shape.
proper : (c : After-judge-values) → Bytes c.args.window.now → let g = c.advanced-g.result in
    Shaped c.args.fixed.now.w (record { counts = g.counts; labels = g.labels; masks = g.masks; values = c.judge-values.result })
proper c bytes =
    let a = c.args in
    let p = c.requires in
    let w = a.fixed.now.w in
    let s = setting_of a.fixed.now a.table.now in
    let f = frontier_at w a.window.now a.j in
    let small : c.judge-values.result < 256 ^ 8 = search rules in
    subst (λ (g : Frontier). Shaped w (record { counts = g.counts; labels = g.labels; masks = g.masks; values = c.judge-values.result })) (sym (leads (goal.at.After-judge-values c).After-advanced-g s refl refl))
    (shaped_advanced w s a.fixed.now.event f c.judge-values.result refl refl a.fixed.now.fitting (shaped_at w a.window.now a.j bytes p.place_for.1) p.t small)

pub lay_frontier-requires-clause-by_index : goal.lay_frontier-requires-clause-by_index
lay_frontier-requires-clause-by_index c =
    rw c.bytes.ensures.value (proper (goal.at.lay_frontier-requires-clause-by_index c).After-judge-values (λ i. (c.type_inv.window i).fits)).counts_fit

pub returns-clause-m_after : goal.returns-clause-m_after
returns-clause-m_after c =
    let a = c.args in
    let w = a.fixed.now.w in
    let s = setting_of a.fixed.now a.table.now in
    let laid = frontiers w a.scratch.now a.m in
    let f = frontier_at w a.window.now a.j in
    let g = c.advanced-g.result in
    let r = c.gather-found.result in
    let new = leads (goal.at.returns-clause-m_after c).After-advanced-g s refl refl in
    let gathers = rw c.of-laid.ensures at (c.gather-found.ensures s refl refl) in
    rw (c.lay_frontier.ensures, c.bytes.ensures.value) (
    frontiers_stored w a.scratch.now a.m _ (proper (goal.at.returns-clause-m_after c).After-judge-values (λ i. (c.type_inv.window i).fits)) c.requires.place_for_2.1
    ∙ ap (λ (x : Frontier). laid ++ (x ∷ [])) (fresh_is s laid a.hints f g r new gathers c.judge-values.result c.judge-values.ensures))
