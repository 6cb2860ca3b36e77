-- The tests are those of the definition.
use native.Mathlib.Omega.{arith}
use Prim.Native.Nat.{◌≤◌}
use mathlib.Core.Path.{sym, ap, ◌∙◌}
use mathlib.Core.Logic.{inl, inr}
use borrow.Author.Tests.{eq-eqb, ne_eqb}
use Rattle.program.specs.Stages.{line_read}
use Rattle.replies.specs.Following.{stage_number}
use Rattle.program.proofs.stages.answer.Goals as goal

pub returns-in-Watch-clause-stands : goal.returns-in-Watch-clause-stands
unfolding line_read
returns-in-Watch-clause-stands c =
    let a = c.args in
    λ t h. let e = sym h.stage ∙ ap stage_number c.in-Watch.is in
    rw (eq-eqb t.stage 0 e) (c.watch_line.ensures.stands t a.rule.now a.«record».now a.window.now h)

pub returns-in-Rule-clause-stands : goal.returns-in-Rule-clause-stands
unfolding line_read
returns-in-Rule-clause-stands c =
    let a = c.args in
    λ t h. let e = sym h.stage ∙ ap stage_number c.in-Rule.is in
    rw (ne_eqb t.stage 0 (omega arith), eq-eqb t.stage 1 e) (c.rule_line.ensures.stands t a.«record».now a.window.now h)

pub returns-in-Start-clause-stands : goal.returns-in-Start-clause-stands
unfolding line_read
returns-in-Start-clause-stands c =
    λ t h. let e = sym h.stage ∙ ap stage_number c.in-Start.is in
    rw (ne_eqb t.stage 0 (omega arith), ne_eqb t.stage 1 (omega arith), eq-eqb t.stage 2 e) (c.start_line.ensures.stands t h)

pub returns-in-Event-clause-stands : goal.returns-in-Event-clause-stands
unfolding line_read
returns-in-Event-clause-stands c =
    let a = c.args in
    let past : 3 ≤ stage_number a.session.stage =
    elim c.in-Event.is [
      | inl e ↦ rw e (omega arith)
      | inr e ↦ elim e [ inl e ↦ rw e (omega arith) | inr e ↦ rw e.1 (omega arith) ]
    ] in
    λ t h. let e : 3 ≤ t.stage = rw h.stage at past in
    rw (ne_eqb t.stage 0 (omega arith), ne_eqb t.stage 1 (omega arith), ne_eqb t.stage 2 (omega arith))
    (c.did_line.ensures.stands t a.rule.now a.window.now h)
