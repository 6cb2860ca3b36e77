use Rattle.std.proofs.Common.{◌≡◌, ℕ, Bool, true, false, ◌&&◌, sym, ap, ◌∙◌, arith, rules}
use Rattle.std.proofs.Math.Bool.{and_comm}
use Rattle.clocks.specs.declared.Event.{Event}
use Rattle.clocks.specs.Event.{involved, count}
use Rattle.clocks.specs.Bounded.{all_below}
use Rattle.clocks.specs.stored.BoundedTurns.{all_none, all_more}
use Rattle.clocks.specs.Tested.{ready}
use Rattle.window.specs.Prepared.{bound_counts, Counted}
use Rattle.window.specs.Lists.{made_at}
use Rattle.window.proofs.prepared.within.Invariants.{test}
use Rattle.window.proofs.prepared.within.Goals as goal

pub loop-p-init : goal.loop-p-init
loop-p-init c = λ e k m h. sym (all_none _)

pub loop-p-preserved : goal.loop-p-preserved
loop-p-preserved c =
    let a = c.args in
    let l = c.loop-p in
    let here : (e : Event) → Counted e → a.low ≡ bound_counts false e → a.span ≡ bound_counts true e
    → c.between-all.result ≡ test e a.counts l.p =
    λ e k m h. c.between-all.ensures (involved e l.p) (count e l.p) (k l.p (search rules))
    (made_at a.low _ 0 l.p m (search rules)) (made_at a.span _ 0 l.p h (search rules)) in
    λ e k m h. and_comm l.all c.between-all.result ∙ ap (λ (b : Bool). b && l.all) (here e k m h)
    ∙ ap (λ (b : Bool). test e a.counts l.p && b) (l.invariant e k m h) ∙ all_more l.p (test e a.counts)

pub returns : goal.returns
unfolding ready
returns c =
    let a = c.args in
    let l = c.loop-p in
    let every : l.p ≡ 8 = omega arith in
    λ e k m h. l.invariant e k m h ∙ ap (λ (n : ℕ). all_below n (test e a.counts)) every
