use native.Mathlib.Omega.{arith}
use Prim.Native.Nat.{ℕ, ◌≤◌}
use mathlib.Core.Path.{◌≡◌, ap, ◌∙◌}
use mathlib.Core.List.{List}
use lib.ListN.{length, drop}
use lib.Seq.{sets}
use Rattle.records.specs.RecordLaws.{event-within}
use Rattle.call_move.specs.Parts.{Part, event_parts, record_parts}
use Rattle.call_move.specs.PartLengths.{length_of}
use Rattle.call_move.specs.Move.{moved}
use Rattle.call_move.specs.MoveCode.{parts_to}
use Rattle.call_move.specs.PartLaws.{length-record_parts}
use Rattle.call_move.proofs.PartSteps.{all-written}
use Rattle.call_move.proofs.RecordSteps.{parts_all, front_fits, event-fits, front_begins, events_written}
use Rattle.call_move.proofs.record_parts.move_record.Goals as goal
use Rattle.call_move.proofs.record_parts.move_record.Goals.{At-loop-next}

-- The target with what stands before the pending events.
abbrev begun : At-loop-next → List ℕ
begun c = c.move_front.new.target

pub move_front-requires-clause-record_value : goal.move_front-requires-clause-record_value
move_front-requires-clause-record_value c =
    let fit = front_fits c.args.v c.args.w c.args.«record».now c.requires.record_value in
    fit

pub loop-next-init : goal.loop-next-init
loop-next-init c =
    let a = c.args in
    let holds = front_begins a.v a.w a.«record».now a.target.now _ c.move_front.ensures in
    holds

pub move_event-requires-clause-v_in_bounds : goal.move_event-requires-clause-v_in_bounds
move_event-requires-clause-v_in_bounds c =
    let v = c.args.v in
    let i = c.loop-next.next in
    let from = event-within v i (omega arith) in
    omega (arith, from)

pub move_event-requires-clause-w_in_bounds : goal.move_event-requires-clause-w_in_bounds
move_event-requires-clause-w_in_bounds c =
    let w = c.args.w in
    let i = c.loop-next.next in
    let to = event-within w i (omega arith) in
    omega (arith, to)

pub move_event-requires-clause-record_value : goal.move_event-requires-clause-record_value
move_event-requires-clause-record_value c =
    let v = c.args.v in
    let w = c.args.w in
    let i = c.loop-next.next in
    let place = c.pending_place in
    let s = c.args.«record».now in
    let fit = event-fits v w i s place.result place.ensures.0 (omega arith) c.requires.record_value in
    fit

pub loop-next-preserved : goal.loop-next-preserved
loop-next-preserved c =
    let a = c.args in
    let l = c.loop-next in
    let s = a.«record».now in
    let from = c.pending_place in
    let to = c.pending_place-in-loop-next in
    let within : from.result ≤ length s = omega (arith, event-within a.v l.next (omega arith)) in
    let event = moved a.v a.w event_parts (drop from.result s) in
    let more =
    events_written a.v a.w l.next s from.result (begun (goal.at.loop-next-preserved c).At-loop-next) to.result from.ensures.0
    to.ensures.0 within in
    c.move_event.ensures ∙ ap (λ (t : List ℕ). sets t to.result event) l.invariant ∙ more

pub returns : goal.returns
returns c =
    let a = c.args in
    let s = a.«record».now in
    let t = begun (goal.at.returns c).At-loop-next in
    let all : c.loop-next.next ≡ 32 = omega arith in
    let long : length_of a.v record_parts ≡ length s = omega (arith, length-record_parts a.v) in
    c.loop-next.invariant ∙ ap (λ (n : ℕ). sets t 0 (moved a.v a.w (parts_to n) s)) all
    ∙ ap (λ (ps : List Part). sets t 0 (moved a.v a.w ps s)) parts_all
    ∙ all-written a.v a.w record_parts s t (omega arith) (omega (arith, length-record_parts a.w))
