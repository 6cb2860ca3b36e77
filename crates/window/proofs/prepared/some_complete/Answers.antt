use Rattle.std.proofs.Common.{◌≡◌, ℕ, Bool, ◌||◌, sym, ap, ◌∙◌, arith}
use Rattle.std.proofs.Math.Bool.{or_comm}
use Rattle.clocks.specs.Bounded.{any_below}
use Rattle.clocks.specs.stored.BoundedTurns.{any_none, any_more}
use Rattle.window.proofs.PreparedSteps.{complete_in, complete_open}
use Rattle.window.proofs.prepared.some_complete.Goals as goal

pub loop-p-init : goal.loop-p-init
loop-p-init c = sym (any_none _)

pub loop-p-preserved : goal.loop-p-preserved
loop-p-preserved c =
    let a = c.args in
    let l = c.loop-p in
    let t = complete_in a.opens a.reached a.counts in
    ap (λ (b : Bool). b || t l.p) l.invariant ∙ or_comm _ (t l.p) ∙ any_more l.p t

pub returns : goal.returns
returns c =
    let a = c.args in
    let l = c.loop-p in
    let all : l.p ≡ 8 = omega arith in
    λ k closed h e. l.invariant ∙ ap (λ (n : ℕ). any_below n (complete_in a.opens a.reached a.counts)) all ∙ complete_open k closed a.opens a.reached a.counts h e
