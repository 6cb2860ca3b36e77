-- The record's numbers, then its table: the law `state_parts`.
use native.Mathlib.Omega.{arith}
use mathlib.Core.Path.{◌≡◌, ◌∙◌}
use lib.ListN.{length-take, length-drop}
use Rattle.refusals.specs.RefusalLaws.{state_parts, numbers_within}
use Rattle.records.specs.Record.{process_count, line_total, pending_count, kept_count}
use Rattle.refusals.specs.RefusalCode.{bad_numbers}
use Rattle.refusals.proofs.RefusalSteps.{lent_table}
use Rattle.refusals.proofs.bad_state.Goals as goal
use Rattle.refusals.proofs.bad_state.Goals.{After-bad_numbers}

-- The numbers that were read are the record's.
numbers : (c : After-bad_numbers) → bad_numbers (process_count c.args.«record».now) (pending_count c.args.«record».now) (line_total c.args.«record».now) (kept_count c.args.«record».now) c.args.room ≡ c.bad_numbers.result
numbers c = cc

pub returns-then-bad_numbers : goal.returns-then-bad_numbers
returns-then-bad_numbers c =
    let a = c.args in
    rw (state_parts a.w a.room a.«record».now, numbers (goal.at.returns-then-bad_numbers c).After-bad_numbers, c.if-bad_numbers.true)

pub good_table-requires : goal.good_table-requires
good_table-requires c =
    let s = c.args.«record».now in
    let few = numbers_within (process_count s) (pending_count s) (line_total s) (kept_count s) c.args.room (numbers (goal.at.good_table-requires c).After-bad_numbers ∙ c.if-bad_numbers.false) in
    (omega (arith, few.2), simp (length-take, length-drop) (omega (arith, few.2)))

pub returns-else-bad_numbers : goal.returns-else-bad_numbers
returns-else-bad_numbers c =
    let a = c.args in
    rw (state_parts a.w a.room a.«record».now, numbers (goal.at.returns-else-bad_numbers c).After-bad_numbers, c.if-bad_numbers.false)
    (cc (lent_table a.w a.«record».now))
