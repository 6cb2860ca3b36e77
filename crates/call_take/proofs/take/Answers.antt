-- Turned back, or the event taken within the room of the window: the laws `take-turned`, `take_goes` and `take_fit`.
use mathlib.Core.Path.{◌≡◌, sym, ◌∙◌}
use lib.ListN.{length}
use Rattle.call_take.proofs.TakeCallSteps.{Fit, take-turned, take_goes, take_fit}
use Rattle.numbers.specs.RefusalNumber.{number_of}
use Rattle.numbers.specs.RefusalLaws.{some_number}
use Rattle.refusals.specs.Refusals.{room_of}
use Rattle.call_take.specs.TakeCode.{take_fault}
use Rattle.call_take.proofs.take.Goals as goal
use Rattle.call_take.proofs.take.Goals.{In-Ok}

pub returns-in-Err : goal.returns-in-Err
returns-in-Err c =
    let a = c.args in
    let refusal = c.in-Err.refusal in
    let t =
    take-turned a.w a.«record».now a.window.now a.scratch.now (number_of refusal) (rw c.of-width.ensures at c.in-Err.ensures) (some_number refusal) in
    record { reply = c.into.ensures ∙ t.0; bytes = t.1; window = t.2; scratch = t.3 }

-- Nothing turns the call back.
none : (c : In-Ok) → let a = c.args in take_fault a.w a.«record».now (length a.window.now) (length a.scratch.now) ≡ 0
none c = sym (rw c.of-width.ensures at c.in-Ok.ensures)

fit : (c : In-Ok) → let a = c.args in Fit a.w a.«record».now (length a.window.now) (length a.scratch.now)
fit c = let a = c.args in take_fit a.w a.«record».now a.window.now a.scratch.now (none c)

pub take_within-requires-clause-record_len : goal.take_within-requires-clause-record_len
take_within-requires-clause-record_len c =
    let f = fit (goal.at.take_within-requires-clause-record_len c).In-Ok in
    f.long

pub take_within-requires-clause-record_bound : goal.take_within-requires-clause-record_bound
take_within-requires-clause-record_bound c =
    let f = fit (goal.at.take_within-requires-clause-record_bound c).In-Ok in
    (f.processes, f.some_line, f.few_lines)

pub take_within-requires-clause-record_bound_2 : goal.take_within-requires-clause-record_bound_2
take_within-requires-clause-record_bound_2 c =
    let f = fit (goal.at.take_within-requires-clause-record_bound_2 c).In-Ok in
    f.pending

pub take_within-requires-clause-room_for : goal.take_within-requires-clause-room_for
take_within-requires-clause-room_for c =
    let f = fit (goal.at.take_within-requires-clause-room_for c).In-Ok in
    (f.few_kept, f.kept_within)

pub take_within-requires-clause-room_for_2 : goal.take_within-requires-clause-room_for_2
take_within-requires-clause-room_for_2 c =
    let f = fit (goal.at.take_within-requires-clause-room_for_2 c).In-Ok in
    let room = c.room_of.ensures in
    (rw (room, c.of-width.ensures) f.few_room, rw (room, c.of-width.ensures) f.room_inside)

pub take_within-requires-clause-scratch_len : goal.take_within-requires-clause-scratch_len
take_within-requires-clause-scratch_len c =
    let f = fit (goal.at.take_within-requires-clause-scratch_len c).In-Ok in
    f.scratch

pub returns-in-Ok : goal.returns-in-Ok
returns-in-Ok c =
    let a = c.args in
    let goes = take_goes a.w a.«record».now a.window.now a.scratch.now (none (goal.at.returns-in-Ok c).In-Ok) in
    let e = c.take_within.ensures in
    let room : c.room_of.result ≡ room_of a.w (length a.window.now) = rw (c.room_of.ensures, c.of-width.ensures) in
    record {
      reply = rw (goes, ← room) e.reply;
      bytes = rw (goes, ← room) e.bytes;
      window = rw (goes, ← room) e.window;
      scratch = rw (goes, ← room) e.scratch;
    }
