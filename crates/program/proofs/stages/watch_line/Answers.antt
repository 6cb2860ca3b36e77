-- Each way is one of the definition's; the room was at most 1,024, or the line would have been turned back
-- (`room_within`); k was tested.
use mathlib.Core.Path.{refl, sym, subst, ◌∙◌}
use Rattle.program.proofs.StageSteps.{watch_bad, watch-refused, watch_stands}
use Rattle.program.specs.Rooms.{RoomWithin, room_within}
use Rattle.refusals.specs.RefusalLaws.{processes_within}
use Rattle.program.proofs.stages.watch_line.Goals as goal

pub invariant_of-accept-clause-processes : goal.invariant_of-accept-clause-processes
invariant_of-accept-clause-processes c = (processes_within _ (sym c.bad_processes.ensures ∙ c.if-bad_processes.false)).1

pub invariant_of-accept-clause-frontiers : goal.invariant_of-accept-clause-frontiers
invariant_of-accept-clause-frontiers c = let read = rw c.in-Ok.is at c.read_watch.ensures in subst RoomWithin (sym read) (room_within _)

pub returns-in-Err-clause-stands : goal.returns-in-Err-clause-stands
returns-in-Err-clause-stands c =
    let a = c.args in
    λ t rule bytes window h. rw (watch-refused t a.session rule bytes window h a.line.now _ (rw c.in-Err.is at c.read_watch.ensures) _ _ refl)
    (c.refuse.ensures.stands t rule bytes window h)

pub returns-in-Ok-clause-stands : goal.returns-in-Ok-clause-stands
returns-in-Ok-clause-stands c =
    let a = c.args in
    λ t rule bytes window h. rw (watch_bad t a.session rule bytes window h a.line.now _ (rw c.in-Ok.is at c.read_watch.ensures) _ _ refl (sym c.bad_processes.ensures ∙ c.if-bad_processes.true))
    (c.refuse-in-Ok.ensures.stands t rule bytes window h)

pub returns-in-Ok-2-clause-stands : goal.returns-in-Ok-2-clause-stands
returns-in-Ok-2-clause-stands c =
    let a = c.args in
    let e = c.accept.ensures in
    let good = sym c.bad_processes.ensures ∙ c.if-bad_processes.false in
    λ t rule bytes window h. watch_stands t a.session rule bytes window h a.line.now _ (rw c.in-Ok.is at c.read_watch.ensures) c.accept.result e.stage e.text e.reply (rw (e.processes, e.frontiers)) (rw e.processes good)
