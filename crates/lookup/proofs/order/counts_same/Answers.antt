use native.Mathlib.Omega.{arith}
use Prim.Native.Nat.{ℕ}
use mathlib.Core.Path.{◌≡◌, sym, ap, ◌∙◌}
use mathlib.Core.Bool.{Bool, ◌&&◌}
use Rattle.clocks.specs.Bounded.{all_below}
use Rattle.clocks.specs.stored.BoundedTurns.{all_none, all_more}
use Rattle.lookup.specs.OrderLaws.{same-all}
use Rattle.std.proofs.Math.Bool.{and_comm}
use Rattle.std.proofs.Common.{rules}
use Rattle.lookup.proofs.order.counts_same.Invariants.{test}
use Rattle.lookup.proofs.order.counts_same.Goals as goal

pub loop-p-init : goal.loop-p-init
loop-p-init c = sym (all_none _)

pub loop-p-preserved : goal.loop-p-preserved
loop-p-preserved c =
    let a = c.args in
    let l = c.loop-p in
    let t = test a.a a.b in
    and_comm l.all (t l.p) ∙ ap (λ (x : Bool). t l.p && x) l.invariant ∙ all_more l.p t

pub returns : goal.returns
returns c =
    let a = c.args in
    let l = c.loop-p in
    let every : l.p ≡ 8 = omega arith in
    l.invariant ∙ ap (λ (n : ℕ). all_below n (test a.a a.b)) every
    ∙ sym (same-all a.a a.b 8 (search rules) (search rules))
