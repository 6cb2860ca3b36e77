-- Turned back before the text, by the text, or opened with its table: the laws `open_turned`, `open_refused` and
-- `open_accepted`.
use Prim.Native.Nat.{◌≤◌}
use native.Mathlib.Omega.{arith}
use mathlib.Core.Path.{◌≡◌, refl, ap, ◌∙◌}
use lib.ListN.{length}
use Rattle.frontiers.specs.Bytes.{frontier_length}
use Rattle.records.specs.Record.{record_length}
use Rattle.numbers.specs.RefusalNumber.{number_of}
use Rattle.numbers.specs.RefusalLaws.{some_number}
use Rattle.call_open.specs.Open.{Opened}
use Rattle.answers.specs.Answer.{reply_word}
use Rattle.call_open.proofs.OpenCallSteps.{open_turned, open_passed, open_refused, open_accepted}
use Rattle.call_open.specs.OpenCode.{open_fault}
use Rattle.call_open.proofs.open.Goals as goal
use Rattle.call_open.proofs.open.Goals.{In_default}

pub returns-in-Err : goal.returns-in-Err
returns-in-Err c =
    let a = c.args in
    let some = some_number c.in-Err.refusal in
    let turned : number_of c.in-Err.refusal ≡ open_fault a.w a.k a.labels (length a.«record».now) (length a.window.now) =
    rw (← c.of-width.ensures, ← c.in-Err.ensures) in
    let t = open_turned a.w a.rule.now a.k a.labels a.«record».now a.window.now _ turned (λ e. omega arith) in
    record { reply = c.into.ensures ∙ t.0; bytes = t.1; window = t.2 }

-- Nothing turns the call back before its text.
none : (c : In_default) → open_fault c.args.w c.args.k c.args.labels (length c.args.«record».now) (length c.args.window.now) ≡ 0
none c = rw (← c.of-width.ensures, ← c.in_default.ensures)

within : (c : In_default) → (length c.args.«record».now ≡ record_length c.args.w) × (frontier_length c.args.w ≤ length c.args.window.now) × (c.args.k ≤ 8)
within c = open_passed c.args.w c.args.rule.now c.args.k c.args.labels c.args.«record».now c.args.window.now (none c)

pub overflow_cast-k : goal.overflow_cast-k
overflow_cast-k c = omega (arith, (within c).2)

pub turned_word-requires : goal.turned_word-requires
turned_word-requires c =
    let here = (goal.at.turned_word-requires c).In_default in
    (open_refused c.args.w c.args.rule.now c.args.k c.args.labels c.args.«record».now c.args.window.now (none here) _ refl _ _ c.in-Err-read_rule.ensures.value).0

pub returns-in-Err-read_rule : goal.returns-in-Err-read_rule
returns-in-Err-read_rule c =
    let here = (goal.at.returns-in-Err-read_rule c).In_default in
    let t = open_refused c.args.w c.args.rule.now c.args.k c.args.labels c.args.«record».now c.args.window.now (none here) _ refl _ _ c.in-Err-read_rule.ensures.value in
    record { reply = c.turned_word.ensures ∙ t.1; bytes = t.2; window = t.3 }

pub open_table-requires-clause-record_len : goal.open_table-requires-clause-record_len
open_table-requires-clause-record_len c =
    rw c.of-width.ensures (within (goal.at.open_table-requires-clause-record_len c).In_default).0

pub open_table-requires-clause-w_in_bounds : goal.open_table-requires-clause-w_in_bounds
open_table-requires-clause-w_in_bounds c =
    rw c.of-width.ensures (within (goal.at.open_table-requires-clause-w_in_bounds c).In_default).1

pub open_table-requires-clause-k_bound : goal.open_table-requires-clause-k_bound
open_table-requires-clause-k_bound c = (within (goal.at.open_table-requires-clause-k_bound c).In_default).2

pub open_table-requires-clause-le_lines : goal.open_table-requires-clause-le_lines
open_table-requires-clause-le_lines c =
    let here = (goal.at.open_table-requires-clause-le_lines c).In_default in
    let t = open_accepted c.args.w c.args.rule.now c.args.k c.args.labels c.args.«record».now c.args.window.now (none here) _ refl _ _ c.in-Ok.ensures.value c.in-Ok.ensures.table_after in
    (t.0, t.1)

pub open_table-requires-clause-lines_in_bounds : goal.open_table-requires-clause-lines_in_bounds
open_table-requires-clause-lines_in_bounds c =
    let here = (goal.at.open_table-requires-clause-lines_in_bounds c).In_default in
    let t = open_accepted c.args.w c.args.rule.now c.args.k c.args.labels c.args.«record».now c.args.window.now (none here) _ refl _ _ c.in-Ok.ensures.value c.in-Ok.ensures.table_after in
    omega (arith, t.1, t.2)

pub returns-in-Ok : goal.returns-in-Ok
returns-in-Ok c =
    let here = (goal.at.returns-in-Ok c).In_default in
    let t = open_accepted c.args.w c.args.rule.now c.args.k c.args.labels c.args.«record».now c.args.window.now (none here) _ refl _ _ c.in-Ok.ensures.value c.in-Ok.ensures.table_after in
    record {
      reply = c.open_table.ensures.reply ∙ rw c.of-width.ensures (ap (λ (o : Opened). reply_word o.answer) t.3);
      bytes = c.open_table.ensures.bytes ∙ rw c.of-width.ensures (ap (λ (o : Opened). o.bytes) t.3);
      window = c.open_table.ensures.window ∙ rw c.of-width.ensures (ap (λ (o : Opened). o.window) t.3);
    }
