-- Each return is a number's turn, or the search through the frontiers.
use native.Mathlib.Omega.{arith}
use mathlib.Core.Path.{◌≡◌, sym, ◌∙◌}
use lib.ListN.{length}
use borrow.Author.Tests.{le-leb, lt-leb}
use Rattle.records.specs.Record.{line_total}
use Rattle.refusals.specs.RefusalCode.{watch_fault}
use Rattle.refusals.specs.FaultLaws.{Good, good_watch}
use Rattle.answers.specs.Answer.{reply_word}
use Rattle.call_find.proofs.FindSteps.{find_faulted, find_passed}
use Rattle.numbers.specs.RefusalNumber.{number_of}
use Rattle.numbers.specs.RefusalLaws.{some_number}
use Rattle.std.proofs.Common.{rules}
use Rattle.call_find.proofs.find.Goals as goal
use Rattle.call_find.proofs.find.Goals.{In_default}

-- ---- What is known where 6 and 34 have let the call pass

none : (c : In_default) → let a = c.args in
    watch_fault a.w a.«record».now (length a.window.now) ≡ 0
none c = sym c.in_default.ensures

good : (c : In_default) → let a = c.args in
    Good a.w a.«record».now (length a.window.now)
good c =
    let a = c.args in
    good_watch a.w a.«record».now (length a.window.now) (none c)

-- ---- The goals

pub returns-in-Err : goal.returns-in-Err
returns-in-Err c =
    let a = c.args in
    let refusal = c.in-Err.refusal in
    c.into.ensures
    ∙ find_faulted a.w a.line a.«record».now a.window.now (number_of refusal) c.in-Err.ensures (some_number refusal)

pub line_total-requires : goal.line_total-requires
line_total-requires c = omega (arith, (good (goal.at.line_total-requires c).In_default).record_long)

pub returns-then-from-line : goal.returns-then-from-line
unfolding reply_word
returns-then-from-line c =
    let a = c.args in
    let far = le-leb (line_total a.«record».now) a.line (omega arith) in
    rw (find_passed a.w a.line a.«record».now a.window.now (none (goal.at.returns-then-from-line c).In_default), far) (search rules)

pub kept_count-requires : goal.kept_count-requires
kept_count-requires c = omega (arith, (good (goal.at.kept_count-requires c).In_default).record_long)

pub find_first-requires : goal.find_first-requires
find_first-requires c =
    let fine = good (goal.at.find_first-requires c).In_default in
    omega (arith, fine.lines)

pub of-laid-requires-clause-count_bound : goal.of-laid-requires-clause-count_bound
of-laid-requires-clause-count_bound c =
    let fine = good (goal.at.of-laid-requires-clause-count_bound c).In_default in
    omega (arith, fine.kept)

pub of-laid-requires-clause-within : goal.of-laid-requires-clause-within
of-laid-requires-clause-within c =
    let fine = good (goal.at.of-laid-requires-clause-within c).In_default in
    let held = fine.kept_within in
    rw (c.kept_count.ensures, c.of-width.ensures) held

pub returns : goal.returns
returns c =
    let a = c.args in
    let there = lt-leb (line_total a.«record».now) a.line (omega arith) in
    rw (find_passed a.w a.line a.«record».now a.window.now (none (goal.at.returns c).In_default), there) (cc)
