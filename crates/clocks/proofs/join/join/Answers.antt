use Rattle.std.proofs.Common.{List, ℕ, ◌≡◌, refl, ap, ◌∙◌}
use Rattle.codec.specs.Bit.{bit}
use Rattle.clocks.specs.Counts.{list_of, clock_rows, at}
use Rattle.clocks.specs.Joined.{join_to}
use Rattle.clocks.proofs.join.JoinSteps.{join_next, join_skip}
use Rattle.clocks.specs.Bounds.{upper}
use Rattle.clocks.proofs.join.join.Goals as goal
use Rattle.clocks.proofs.join.join.Goals.{then-has_bit, else-has_bit}

pub loop-p-init : goal.loop-p-init
unfolding list_of join_to
loop-p-init c = refl

pub loop-p-preserved : goal.loop-p-preserved
loop-p-preserved c =
    let a = c.args in
    let l = c.loop-p in
    let join : List ℕ → List ℕ = λ o. list_of 8 (upper (clock_rows a.last l.p) (at o)) in
    let member : bit a.mask l.p ≡ c.has_bit.result = cc in
    elim c.if-has_bit.branch [
      | then-has_bit w ↦
          w.out-is ∙ w.larger-joined.ensures ∙ ap join l.invariant
          ∙ join_next 8 l.p (bit a.mask) (clock_rows a.last) (member ∙ w.if-has_bit.true)
      | else-has_bit w ↦
          w.out-is ∙ l.invariant ∙ join_skip 8 l.p (bit a.mask) (clock_rows a.last) (member ∙ w.if-has_bit.false)
    ]
