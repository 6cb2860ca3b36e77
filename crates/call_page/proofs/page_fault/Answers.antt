-- The number that record and window turn back with, else 44 or none.
use Rattle.std.proofs.Common.{◌≡◌, sym, length, arith}
use Rattle.std.proofs.lemmas.Result.{err_from_is_err_and}
use Rattle.numbers.specs.RefusalLaws.{some_number}
use Rattle.refusals.specs.RefusalCode.{watch_fault}
use Rattle.refusals.specs.FaultLaws.{Good, good_watch}
use Rattle.call_page.proofs.PageSteps.{page_faulted, page_short, page_passed}
use Rattle.call_page.proofs.page_fault.Goals as goal
use Rattle.call_page.proofs.page_fault.Goals.{In_ok-watch_fault}

pub returns-in_err-watch_fault : goal.returns-in_err-watch_fault
returns-in_err-watch_fault c =
    let a = c.args in
    let p = err_from_is_err_and c.from_residual.result c.from_residual.ensures.1 in
    let some = some_number c.in_err-watch_fault.field-0.0 in
    rw (p.1, p.2)
    (page_faulted a.w a.«record».now a.window.now a.page_len _ (rw c.bytes.ensures.value at c.in_err-watch_fault.ensures)
    (λ z. omega arith))

-- Record and window turn nothing back.
passed : (c : In_ok-watch_fault) → let a = c.args in watch_fault a.w a.«record».now (length a.window.now) ≡ 0
passed c = rw c.bytes.ensures.value at (sym c.in_ok-watch_fault.ensures)

good : (c : In_ok-watch_fault) → let a = c.args in Good a.w a.«record».now (length a.window.now)
good c =
    let a = c.args in
    good_watch a.w a.«record».now (length a.window.now) (passed c)

pub kept_count-requires : goal.kept_count-requires
kept_count-requires c = omega (arith, (good c).record_long)

pub returns-then-page_len-kept_count : goal.returns-then-page_len-kept_count
returns-then-page_len-kept_count c =
    let a = c.args in
    let watch = passed (goal.at.returns-then-page_len-kept_count c).In_ok-watch_fault in
    page_short a.w a.«record».now a.window.now a.page_len watch (omega arith)

pub returns : goal.returns
returns c =
    let a = c.args in
    let watch = passed (goal.at.returns c).In_ok-watch_fault in
    page_passed a.w a.«record».now a.window.now a.page_len watch (omega arith)
