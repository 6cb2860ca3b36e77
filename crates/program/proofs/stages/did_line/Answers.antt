-- What the call answers is within the parts of a reply word (`offer_fits`).
use mathlib.Core.Path.{refl}
use Rattle.program.proofs.StageSteps.{did_refused, did_stands}
use Rattle.program.proofs.stages.did_line.Goals as goal

pub returns-in-Err-clause-stands : goal.returns-in-Err-clause-stands
returns-in-Err-clause-stands c =
    let a = c.args in
    λ t rule window h. rw (did_refused t a.session rule a.«record».now window h a.line.now _ (rw c.in-Err.is at c.read_did.ensures) _ _ refl)
    (c.refuse.ensures.stands t rule a.«record».now window h)

pub returns-in-Ok-clause-stands : goal.returns-in-Ok-clause-stands
returns-in-Ok-clause-stands c =
    let offer = c.watch32_offer in
    let a = c.args in
    let q = c.replied.ensures in
    λ t rule window h. did_stands t a.session rule a.«record».now window h a.line.now _
    (rw c.in-Ok.is at c.read_did.ensures) _ _ _ _ _ _ _ _ _ refl q offer.ensures.reply offer.ensures.bytes
