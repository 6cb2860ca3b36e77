use Prim.Native.Nat.{ℕ}
use mathlib.Core.Path.{◌≡◌, sym, ap, ◌∙◌}
use mathlib.Core.List.{List}
use lib.Bits.{bit_or, bit_and}
use lib.ListN.{get_or, length}
use Rattle.window.specs.Step.{consider, values_at}
use Rattle.window_step.proofs.GatherSteps.{gathered_none, gathered_more, consider_passed, consider_missing, consider-found}
use Rattle.window_step.specs.Gathering.{sought_with}
use Rattle.std.proofs.Common.{arith}
use Rattle.window_step.proofs.gather.gather.Invariants.{sofar}
use Rattle.window_step.proofs.gather.gather.Goals as goal
use Rattle.window_step.proofs.gather.gather.Goals.{then-is_sought+in-Some, then-is_sought+in_default, else-is_sought}

same-gathered : {o a o' a' : ℕ} {b b' : List ℕ} → o ≡ o' → a ≡ a' → b ≡ b' → sofar o a b ≡ sofar o' a' b'
same-gathered p q r = rw (p, q, r)

-- ---- The goals

pub loop-p-init : goal.loop-p-init
loop-p-init c = let a = c.args in λ s h v. sym (gathered_none s a.laid.now a.hints a.g)

pub loop-p-preserved : goal.loop-p-preserved
loop-p-preserved c =
    let a = c.args in
    let l = c.loop-p in
    let laid = a.laid.now in
    let t = c.is_sought in
    λ s h v. let sought : sought_with a.mask (get_or a.g.masks l.p 0) l.p ≡ t.result = sym t.ensures in
    let old = sofar l.ors l.ands l.hints in
    let turn : sofar c.if-is_sought.ors c.if-is_sought.ands c.if-is_sought.hints ≡ consider s laid a.g l.p old =
    elim c.if-is_sought.branch [
      | then-is_sought+in-Some x ↦ let place = x.in-Some.place in
          let e : values_at laid place ≡ x.values_at-values.result = sym x.values_at-values.ensures.value in
          same-gathered (x.ors-is ∙ ap (bit_or l.ors) (sym e)) (x.ands-is ∙ ap (bit_and l.ands) (sym e)) x.hints-is
          ∙ sym (consider-found s a.mask h v laid a.g l.p old (sought ∙ x.if-is_sought.true) x.minus-key.result x.minus-key.ensures place x.in-Some.ensures.place x.in-Some.ensures.within)
      | then-is_sought+in_default x ↦ same-gathered x.ors-is x.ands-is x.hints-is
          ∙ sym (consider_missing s a.mask h v laid a.g l.p old (sought ∙ x.if-is_sought.true) x.minus-key.result x.minus-key.ensures (length laid) x.in_default.ensures.place (omega arith))
      | else-is_sought x ↦ same-gathered x.ors-is x.ands-is x.hints-is
          ∙ sym (consider_passed s a.mask h v laid a.g l.p old (sought ∙ x.if-is_sought.false))
    ] in
    turn ∙ ap (consider s laid a.g l.p) (l.invariant s h v) ∙ sym (gathered_more s laid a.hints a.g l.p)
