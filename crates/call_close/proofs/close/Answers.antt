-- Turned back, or the process closed: the laws `close_turned`, `close_goes` and `close_fit`.
use native.Mathlib.Omega.{arith}
use mathlib.Core.Path.{◌≡◌, ◌∙◌}
use lib.ListN.{length}
use Rattle.numbers.specs.RefusalNumber.{number_of}
use Rattle.numbers.specs.RefusalLaws.{some_number}
use Rattle.call_close.specs.CloseCode.{close_fault}
use Rattle.call_close.proofs.CloseSteps.{Fit, close_turned, close_goes, close_fit}
use Rattle.call_close.proofs.close.Goals as goal
use Rattle.call_close.proofs.close.Goals.{In-Ok}

-- ---- What is known there

none : (c : In-Ok) → let a = c.args in
    close_fault a.w a.process a.«record».now (length a.window.now) ≡ 0
none c = rw (← c.in-Ok.ensures)

fit : (c : In-Ok) → let a = c.args in
    Fit a.w a.process a.«record».now (length a.window.now)
fit c =
    let a = c.args in
    close_fit a.w a.process a.«record».now a.window.now (none c)

-- ---- The goals

pub returns-in-Err : goal.returns-in-Err
returns-in-Err c =
    let a = c.args in
    let refusal = c.in-Err.refusal in
    let known : number_of refusal ≡ close_fault a.w a.process a.«record».now (length a.window.now) =
    rw (← c.in-Err.ensures) in
    let turned =
    close_turned a.w a.process a.«record».now a.window.now (number_of refusal) known (some_number refusal) in
    record { reply = c.into.ensures ∙ turned.0; bytes = turned.1; window = turned.2 }

pub overflow_cast-process : goal.overflow_cast-process
overflow_cast-process c =
    record { fits = omega (arith, (fit (goal.at.overflow_cast-process c).In-Ok).one_of_eight) }

pub close_process-requires-clause-p_bound : goal.close_process-requires-clause-p_bound
close_process-requires-clause-p_bound c =
    let f = fit (goal.at.close_process-requires-clause-p_bound c).In-Ok in
    f.one_of_eight

pub close_process-requires-clause-record_len : goal.close_process-requires-clause-record_len
close_process-requires-clause-record_len c =
    let f = fit (goal.at.close_process-requires-clause-record_len c).In-Ok in
    rw c.of-width.ensures f.long

pub close_process-requires-clause-record_bound : goal.close_process-requires-clause-record_bound
close_process-requires-clause-record_bound c =
    let f = fit (goal.at.close_process-requires-clause-record_bound c).In-Ok in
    f.processes

pub close_process-requires-clause-room_for : goal.close_process-requires-clause-room_for
close_process-requires-clause-room_for c =
    let f = fit (goal.at.close_process-requires-clause-room_for c).In-Ok in
    (f.few_kept, rw c.of-width.ensures f.kept_within)

pub returns-in-Ok : goal.returns-in-Ok
returns-in-Ok c =
    let a = c.args in
    let goes = close_goes a.w a.process a.«record».now a.window.now (none (goal.at.returns-in-Ok c).In-Ok) in
    let made = c.close_process.ensures in
    record {
      reply = rw (goes, ← c.of-width.ensures) made.reply;
      bytes = rw (goes, ← c.of-width.ensures) made.bytes;
      window = rw (goes, ← c.of-width.ensures) made.window;
    }
