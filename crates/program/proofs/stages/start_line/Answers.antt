-- What the call answers is within the parts of a reply word (`open_fits`).
use mathlib.Core.Path.{refl}
use Rattle.program.proofs.StageSteps.{start_refused, start_stands}
use Rattle.program.proofs.stages.start_line.Goals as goal

pub returns-in-Err-clause-stands : goal.returns-in-Err-clause-stands
returns-in-Err-clause-stands c =
    let a = c.args in
    λ t h. rw (start_refused t a.session a.rule.now a.«record».now a.window.now h a.line.now _ (rw c.in-Err.is at c.read_start.ensures) _ _ refl)
    (c.refuse.ensures.stands t a.rule.now a.«record».now a.window.now h)

pub returns-in-Ok-clause-stands : goal.returns-in-Ok-clause-stands
returns-in-Ok-clause-stands c =
    let opened = c.watch32_open in
    let a = c.args in
    let q = c.replied.ensures in
    λ t h. start_stands t a.session a.rule.now a.«record».now a.window.now h a.line.now _ (rw c.in-Ok.is at c.read_start.ensures) _ _ _ _ _ refl q opened.ensures.reply opened.ensures.bytes opened.ensures.window
