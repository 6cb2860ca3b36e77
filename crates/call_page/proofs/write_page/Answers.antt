-- A number turns the call back; else the rows are written: the laws `page_turned` and `page_written_lem`.
use Rattle.std.proofs.Common.{◌≡◌, ℕ, ◌≤◌, ◌<◌, ◌-◌, ◌*◌, List, length, arith, sym, ap, ◌∙◌}
use Rattle.std.proofs.lemmas.List.Edits.{sets}
use Rattle.codec.specs.Little.{Bytes}
use Rattle.numbers.specs.RefusalLaws.{some_number}
use Rattle.frontiers.specs.Bytes.{frontiers}
use Rattle.frontiers.specs.WindowLaws.{length-frontiers, counts_listed}
use Rattle.records.specs.Record.{process_count, line_total, kept_count}
use Rattle.refusals.specs.FaultLaws.{Good}
use Rattle.call_page.specs.Page.{rows}
use Rattle.call_page.specs.PageCode.{page_fault}
use Rattle.call_page.specs.RowLaws.{few_digits}
use Rattle.call_page.proofs.PageSteps.{page_turned, page_good, page_written_lem}
use Rattle.call_page.proofs.write_page.Goals as goal
use Rattle.call_page.proofs.write_page.Goals.{In_default}

-- Nothing turns the call back.
passed : (c : In_default) → let a = c.args in page_fault a.w a.«record».now a.window.now (length a.page.now) ≡ 0
passed c = rw c.of-width.ensures at (sym c.in_default.ensures)

-- So record and window are good, and the page is long enough.
good : (c : In_default) → let a = c.args in
    Good a.w a.«record».now (length a.window.now) × (93 * kept_count a.«record».now ≤ length a.page.now)
good c =
    let a = c.args in
    page_good a.w a.«record».now a.window.now a.page.now (passed c)

-- ---- The goals

pub returns-in-Err : goal.returns-in-Err
returns-in-Err c =
    let a = c.args in
    let some = some_number c.in-Err.refusal in
    let fault = rw c.of-width.ensures at c.in-Err.ensures in
    let back = page_turned a.w a.«record».now a.window.now a.page.now _ fault (λ z. omega arith) in
    record { reply = c.from.ensures ∙ back.0; page = back.1 }

pub kept_count-kept-requires : goal.kept_count-kept-requires
kept_count-kept-requires c = omega (arith, (good c).0.record_long)

pub process_count-k-requires : goal.process_count-k-requires
process_count-k-requires c = omega (arith, (good (goal.at.process_count-k-requires c).In_default).0.record_long)

pub line_total-line-requires : goal.line_total-line-requires
line_total-line-requires c = omega (arith, (good (goal.at.line_total-line-requires c).In_default).0.record_long)

pub overflow_sub-line : goal.overflow_sub-line
overflow_sub-line c = omega (arith, (good (goal.at.overflow_sub-line c).In_default).0.some_line)

pub of-laid-requires : goal.of-laid-requires
of-laid-requires c =
    let fine = (good (goal.at.of-laid-requires c).In_default).0 in
    let within = fine.kept_within in
    record {
      count_bound = omega (arith, fine.kept);
      within = rw (c.of-width.ensures, c.kept_count-kept.ensures) within;
    }

pub put_rows-requires : goal.put_rows-requires
put_rows-requires c =
    let both = good (goal.at.put_rows-requires c).In_default in
    let fine = both.0 in
    record {
      k_bound = omega (arith, fine.processes);
      line_bound = omega (arith, fine.lines, fine.some_line);
      ten_digits = rw c.of-laid.ensures (λ i l.
          let there : i < c.kept_count-kept.result = rw (length-frontiers c.of-width.result c.args.window.now c.kept_count-kept.result) at l in
          rw (counts_listed c.of-width.result c.args.window.now c.kept_count-kept.result i there)
          (few_digits c.of-width.result c.args.window.now (λ j. (c.type_inv.window j).fits) (omega arith) i));
      laid_in_bounds =
          rw (c.of-laid.ensures, length-frontiers c.of-width.result c.args.window.now c.kept_count-kept.result)
          (omega (arith, both.1));
    }

pub returns : goal.returns
returns c =
    let a = c.args in
    let s = a.«record».now in
    let bytes : Bytes a.window.now = λ i. (c.type_inv.window i).fits in
    let text : ℕ → ℕ → ℕ → List ℕ = λ k m n. sets a.page.now 0 (rows k (m - 1) (frontiers a.w a.window.now n)) in
    let laid : c.put_rows.new.page ≡ text (process_count s) (line_total s) (kept_count s) =
    (rw (c.of-laid.ensures, c.of-width.ensures) at c.put_rows.ensures)
    ∙ ap (λ (k : ℕ). text k c.line_total-line.result c.kept_count-kept.result) c.process_count-k.ensures.0
    ∙ ap (λ (m : ℕ). text (process_count s) m c.kept_count-kept.result) c.line_total-line.ensures.0
    ∙ ap (λ (n : ℕ). text (process_count s) (line_total s) n) c.kept_count-kept.ensures in
    let whole =
    page_written_lem a.w s a.window.now a.page.now (passed (goal.at.returns c).In_default) bytes (omega arith) _ laid in
    let reply = ap (λ (n : ℕ). 65536 * n) (c.from-2.ensures ∙ c.kept_count-kept.ensures) ∙ whole.0 in
    record { reply = reply; page = whole.1 }
