use native.Mathlib.Omega.{arith}
use mathlib.Core.Path.{◌≡◌, refl, sym, ap, ◌∙◌}
use Prim.Native.Nat.{◌<◌}
use native.Mathlib.Nat.{le_refl}
use Rattle.window_step.specs.Laying.{rest_of}
use Rattle.window_step.proofs.merge.MergeSteps.{rest_pass}
use Rattle.window_step.proofs.merge.next_marked.Goals as goal

pub loop-next-init : goal.loop-next-init
loop-next-init c = λ t w window T. refl

pub returns-then-is_marked-clause-from_value : goal.returns-then-is_marked-clause-from_value
returns-then-is_marked-clause-from_value c =
    let l = c.loop-next in
    l.invariant

pub returns-then-is_marked-clause-result_value : goal.returns-then-is_marked-clause-result_value
returns-then-is_marked-clause-result_value c =
    let l = c.loop-next in
    λ t w window T k. T l.next k ∙ sym c.is_marked.ensures ∙ c.if-is_marked.true

pub loop-next-preserved : goal.loop-next-preserved
loop-next-preserved c =
    let a = c.args in
    let l = c.loop-next in
    let k : l.next < a.n = omega arith in
    λ t w window T. l.invariant t w window T ∙ rest_pass t w window a.n l.next k (T l.next k ∙ sym c.is_marked.ensures ∙ c.if-is_marked.false)

pub returns-clause-upper_bound : goal.returns-clause-upper_bound
returns-clause-upper_bound c = le_refl _

pub returns-clause-from_value : goal.returns-clause-from_value
returns-clause-from_value c =
    let a = c.args in
    let e : c.loop-next.next ≡ a.n = omega arith in
    λ t w window T. c.loop-next.invariant t w window T ∙ ap (rest_of t w window a.n) e

pub returns-clause-result_value : goal.returns-clause-result_value
returns-clause-result_value c = λ t w window T l. absurd (omega arith)
