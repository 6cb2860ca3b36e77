use Prim.Native.Nat.{ℕ, ◌+◌}
use native.Mathlib.Omega.{arith}
use mathlib.Core.Path.{refl, sym, ap, ◌∙◌}
use lib.ListN.{drop}
use Rattle.records.specs.Record.{pending_events}
use Rattle.trial.specs.TurnLaws.{ascending}
use Rattle.trial.proofs.TurnSteps.{up_end, up_next, up_down}
use Rattle.trial.proofs.turn.in_order.Goals as goal

pub loop-i-init : goal.loop-i-init
loop-i-init c = refl

pub returns-then-p-last : goal.returns-then-p-last
returns-then-p-last c =
    let a = c.args in
    let l = c.loop-i in
    sym (l.invariant ∙ up_down a.w a.«record».now l.last l.i (omega arith) (omega arith))

pub loop-i-preserved : goal.loop-i-preserved
loop-i-preserved c =
    let a = c.args in
    let l = c.loop-i in
    l.invariant
    ∙ up_next a.w a.«record».now l.last l.i (omega arith) (omega arith)
    ∙ ap (λ (p : ℕ). ascending p (drop (l.i + 1) (pending_events a.w a.«record».now)))
    (sym c.lowest_at-p.ensures.0)

pub returns : goal.returns
returns c =
    let a = c.args in
    let l = c.loop-i in
    sym (l.invariant ∙ up_end a.w a.«record».now l.last l.i (omega arith))
