use native.Mathlib.Omega.{arith}
use mathlib.Core.Path.{◌≡◌, refl, sym, ap, ◌∙◌}
use mathlib.Core.Bool.{true, false}
use Rattle.window_step.specs.Laying.{fresh_at}
use Prim.Native.Nat.{◌<◌}
use Rattle.frontiers.specs.Bytes.{frontiers}
use Rattle.frontiers.specs.WindowLaws.{place-within}
use Rattle.window_step.specs.Fixed.{setting_of}
use Rattle.window.specs.Step.{Setting, stays, enabled_at}
use Rattle.window.specs.Marks.{Marked, Tells, tells_stays, tells_enabled}
use Rattle.window_step.proofs.merge.MergeSteps.{laying_start, staying_left, leading_left, laid_staying, laid_fresh, laid_all}
use Rattle.clocks.specs.cuts.EventLaws.{true-T}
use Rattle.clocks.specs.Counts.{list_of}
use Rattle.std.proofs.Common.{rules}
use Rattle.window_step.proofs.merge.lay_all.Goals as goal
use Rattle.window_step.proofs.merge.lay_all.Goals.{Start, In-loop-m, then-fresh_first, else-fresh_first}

-- The step's setting, and its marks.
abbrev setting : Start → Setting
setting c = setting_of c.args.fixed.now c.args.table.now

marked : (c : Start) → let a = c.args in Marked (setting c) a.fixed.now.w a.window.now a.fixed.now.n a.marks.now
marked c = c.requires.marked

staying_told : (c : Start) → let a = c.args in Tells 0 (stays (setting c)) a.fixed.now.w a.window.now a.fixed.now.n a.marks.now
staying_told c = tells_stays (setting c) _ _ _ c.args.marks.now (marked c)

leading_told : (c : Start) → let a = c.args in Tells 1 (enabled_at (setting c)) a.fixed.now.w a.window.now a.fixed.now.n a.marks.now
leading_told c = tells_enabled (setting c) _ _ _ c.args.marks.now (marked c)

pub loop-m-init : goal.loop-m-init
unfolding frontiers list_of
loop-m-init c =
    let s = setting (goal.at.loop-m-init c).Start in
    let w = c.args.fixed.now.w in
    let window = c.args.window.now in
    let first = c.next_marked-i in
    let leads = c.next_marked-j in (
      first.ensures.upper_bound,
      leads.ensures.upper_bound,
      laying_start s refl w window c.args.fixed.now.n c.args.fixed.now.kept c.requires.kept_value
          first.result first.ensures.upper_bound (first.ensures.from_value (stays s) w window (staying_told (goal.at.loop-m-init c).Start)) (first.ensures.result_value (stays s) w window (staying_told (goal.at.loop-m-init c).Start))
          leads.result leads.ensures.upper_bound (leads.ensures.from_value (enabled_at s) w window (leading_told (goal.at.loop-m-init c).Start)) (leads.ensures.result_value (enabled_at s) w window (leading_told (goal.at.loop-m-init c).Start)),
    )

pub fresh_first-requires-clause-j_value : goal.fresh_first-requires-clause-j_value
unfolding enabled_at
fresh_first-requires-clause-j_value c = c.loop-m.invariant.2.leading_here

-- Where a new one comes first, there is one that the event leads on from.
leading : (c : In-loop-m) → let l = c.loop-m in fresh_at c.args.fixed.now.event c.args.fixed.now.w c.args.window.now c.args.fixed.now.n l.i l.j ≡ true → l.j < c.args.fixed.now.n
leading c e = leading_left (setting (goal.at.In-loop-m c).Start) c.args.fixed.now.event refl refl _ _ _ _ _ _ _ _ _ c.loop-m.invariant.2 (search rules) e

pub lay_fresh-ended-requires-clause-place_for : goal.lay_fresh-ended-requires-clause-place_for
lay_fresh-ended-requires-clause-place_for c =
    let a = c.args.fixed.now in
    let here : c.loop-m.j < a.n = leading (goal.at.lay_fresh-ended-requires-clause-place_for c).In-loop-m (sym c.fresh_first.ensures ∙ c.if-fresh_first.true) in
    (omega arith, omega (arith, place-within c.loop-m.j a.n a.w here))

pub lay_fresh-ended-requires-clause-t : goal.lay_fresh-ended-requires-clause-t
unfolding enabled_at
lay_fresh-ended-requires-clause-t c =
    let a = c.args.fixed.now in
    let here : c.loop-m.j < a.n = leading (goal.at.lay_fresh-ended-requires-clause-t c).In-loop-m (sym c.fresh_first.ensures ∙ c.if-fresh_first.true) in
    true-T (c.loop-m.invariant.2.leading_here here)

-- Where none comes first, there is one that stays.
remains : (c : In-loop-m) → let l = c.loop-m in fresh_at c.args.fixed.now.event c.args.fixed.now.w c.args.window.now c.args.fixed.now.n l.i l.j ≡ false → l.i < c.args.fixed.now.n
remains c e = staying_left (setting (goal.at.In-loop-m c).Start) c.args.fixed.now.event refl refl _ _ _ _ _ _ _ _ _ c.loop-m.invariant.2 (search rules) e

pub lay_staying-requires-clause-place_for : goal.lay_staying-requires-clause-place_for
lay_staying-requires-clause-place_for c =
    let a = c.args.fixed.now in
    let here : c.loop-m.i < a.n = remains (goal.at.lay_staying-requires-clause-place_for c).In-loop-m (sym c.fresh_first.ensures ∙ c.if-fresh_first.false) in
    (omega arith, omega (arith, place-within c.loop-m.i a.n a.w here))

pub next_marked-i-requires-else-fresh_first-clause-n_in_bounds : goal.next_marked-i-requires-else-fresh_first-clause-n_in_bounds
next_marked-i-requires-else-fresh_first-clause-n_in_bounds c =
    let here = remains (goal.at.next_marked-i-requires-else-fresh_first-clause-n_in_bounds c).In-loop-m (sym c.fresh_first.ensures ∙ c.if-fresh_first.false) in
    (c.requires.n_in_bounds, omega arith)

pub loop-m-preserved : goal.loop-m-preserved
loop-m-preserved c =
    let s = setting (goal.at.loop-m-preserved c).Start in
    let w = c.args.fixed.now.w in
    let window = c.args.window.now in
    let e = c.args.fixed.now.event in
    elim c.if-fresh_first.branch [
      | then-fresh_first x ↦ let next = x.next_marked-j-then-fresh_first in
          rw (x.scratch-is, x.hints-is, x.i-is, x.j-is) (
            search rules,
            next.ensures.upper_bound,
            laid_fresh s e refl refl w window _ _ _ _ _ _ _ c.loop-m.invariant.2 (search rules) (sym c.fresh_first.ensures ∙ x.if-fresh_first.true)
                _ x.lay_fresh-ended.ensures.m_after _ x.lay_fresh-ended.ensures.value
                next.result next.ensures.upper_bound (next.ensures.from_value (enabled_at s) w window (leading_told (goal.at.loop-m-preserved c).Start)) (next.ensures.result_value (enabled_at s) w window (leading_told (goal.at.loop-m-preserved c).Start)),
          )
      | else-fresh_first x ↦ let next = x.next_marked-i-else-fresh_first in
          rw (x.scratch-is, x.hints-is, x.i-is, x.j-is) (
            next.ensures.upper_bound,
            search rules,
            laid_staying s e refl refl w window _ _ _ _ _ _ _ c.loop-m.invariant.2 (search rules) (sym c.fresh_first.ensures ∙ x.if-fresh_first.false)
                _ x.lay_staying.ensures
                next.result next.ensures.upper_bound (next.ensures.from_value (stays s) w window (staying_told (goal.at.loop-m-preserved c).Start)) (next.ensures.result_value (stays s) w window (staying_told (goal.at.loop-m-preserved c).Start)),
          )
    ]

pub returns : goal.returns
returns c =
    let l = c.loop-m in
    let a = c.args.fixed.now in
    let all : l.m ≡ a.kept = omega arith in
    ap (frontiers a.w l.scratch) (sym all) ∙ laid_all (setting (goal.at.returns c).Start) a.event refl refl _ _ _ _ _ _ _ _ _ l.invariant.2 (omega arith)
