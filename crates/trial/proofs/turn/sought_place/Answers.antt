use Prim.Native.Nat.{ℕ, ◌+◌}
use native.Mathlib.Omega.{arith}
use mathlib.Core.Path.{sym, ap, ◌∙◌}
use lib.ListN.{get_or}
use Rattle.trial.proofs.TurnSteps.{remaining, sought-first, sought-here, sought_next, sought_pass, sought_over, sought-end}
use Rattle.trial.proofs.turn.sought_place.Goals as goal
use Rattle.trial.proofs.turn.sought_place.Goals.{then-lowest_at-p+else-left-eq0, else-lowest_at-p}

pub loop-p-init : goal.loop-p-init
loop-p-init c = let a = c.args in sought-first a.w a.«record».now a.turn

pub loop-p-preserved : goal.loop-p-preserved
loop-p-preserved c =
    let a = c.args in
    let l = c.loop-i in
    l.invariant ∙ sought_over a.w a.«record».now c.loop-p.p l.i l.left (omega arith)

pub returns-then-left-eq0 : goal.returns-then-left-eq0
returns-then-left-eq0 c =
    let a = c.args in
    let l = c.loop-i in (
      sym (l.invariant
          ∙ sought-here a.w a.«record».now c.loop-p.p l.i (omega arith) l.left (omega arith) (omega arith)),
      omega arith,
    )

pub loop-i-preserved : goal.loop-i-preserved
loop-i-preserved c =
    let a = c.args in
    let p = c.loop-p.p in
    let l = c.loop-i in
    l.invariant
    ∙ elim c.if-lowest_at-p.branch [
      | then-lowest_at-p+else-left-eq0 w ↦
          sought_next a.w a.«record».now p l.i (omega arith) l.left
          (sym c.lowest_at.ensures.0 ∙ w.if-lowest_at-p.true) w.if-left-eq0.false
          ∙ ap (λ (left : ℕ). get_or (remaining a.w a.«record».now p (l.i + 1)) left 0) (sym w.left-is)
      | else-lowest_at-p w ↦
          sought_pass a.w a.«record».now p l.i (omega arith) l.left
          (λ q. w.if-lowest_at-p.false (c.lowest_at.ensures.0 ∙ q))
          ∙ ap (λ (left : ℕ). get_or (remaining a.w a.«record».now p (l.i + 1)) left 0) (sym w.left-is)
    ]

pub returns : goal.returns
returns c =
    let a = c.args in
    let l = c.loop-p in
    (sym (l.invariant ∙ sought-end a.w a.«record».now l.p 0 l.left (omega arith)), omega arith)
