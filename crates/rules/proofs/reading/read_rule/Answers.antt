-- The form at the text's first byte decides. If it is the whole text, the first 192 bytes of the lines laid down are
-- its table.
use native.Mathlib.Omega.{arith}
use mathlib.Core.Path.{◌≡◌, sym, ◌∙◌}
use lib.ListN.{length, take}
use lib.Seq.{length-take-le}
use Rattle.std.proofs.Common.{rules}
use Rattle.std.proofs.lemmas.Result.{err_from_is_err_and}
use Rattle.rules.specs.Reader.{form_at}
use Rattle.rules.proofs.FormSteps.{RuleDone, rule_done, fault_done}
use Rattle.rules.specs.lines.RuleTableLaws.{rule_fault, rule_more, rule_form, rule_length, rule_refused, rule_accepted}
use Rattle.rules.proofs.reading.read_rule.Goals as goal
use Rattle.rules.proofs.reading.read_rule.Goals.{In_ok-form}

right_length : (c : In_ok-form) → length c.args.table.now ≡ 192
right_length c = c.if-table-ne192.false

form_read : (c : In_ok-form) → let a = c.args in
    RuleDone a.text.now a.k c.read_form.new.table c.in_ok-form.form.place c.in_ok-form.form.laid
form_read c = rule_done _ _ c.in_ok-form.ensures

pub returns-then-table-ne192 : goal.returns-then-table-ne192
returns-then-table-ne192 c =
    let a = c.args in
    let both = rule_length a.text.now a.k a.table.now c.if-table-ne192.true in
    record { value = both.0; table_after = both.1 }

pub returns-in_err-form : goal.returns-in_err-form
returns-in_err-form c =
    let a = c.args in
    let s = a.text.now in
    let p = err_from_is_err_and c.from_residual.result c.from_residual.ensures.1 in
    let fault = rule_fault s a.k _ _ (fault_done 0 0 _ _ (form_at 32 s a.k 0 0) _ _ c.in_err-form.ensures) in
    let both = rule_refused s a.k a.table.now _ _ c.if-table-ne192.false fault in
    record { value = rw (p.1, p.2) both.0; table_after = both.1 }

pub returns-then-form-text : goal.returns-then-form-text
returns-then-form-text c =
    let a = c.args in
    let here = (goal.at.returns-then-form-text c).In_ok-form in
    let x = form_read here in
    let more = rule_more a.text.now a.k _ x.form x.read c.if-form-text.true in
    let both = rule_refused a.text.now a.k a.table.now 1 _ (right_length here) more in
    record { value = both.0; table_after = both.1 }

front_length : (c : In_ok-form) → length (take 192 c.read_form.new.table) ≡ 192
front_length c = length-take-le 192 c.read_form.new.table (search rules)

pub slice_bounds-copy_from_slice-end : goal.slice_bounds-copy_from_slice-end
slice_bounds-copy_from_slice-end c = sym (front_length (goal.at.slice_bounds-copy_from_slice-end c).In_ok-form)

pub copy_from_slice-requires : goal.copy_from_slice-requires
copy_from_slice-requires c =
    let here = (goal.at.copy_from_slice-requires c).In_ok-form in
    right_length here ∙ sym (front_length here)

pub overflow_cast-result : goal.overflow_cast-result
overflow_cast-result c =
    let x = form_read (goal.at.overflow_cast-result c).In_ok-form in
    omega (arith, x.short, x.count)

pub returns : goal.returns
returns c =
    let a = c.args in
    let here = (goal.at.returns c).In_ok-form in
    let x = form_read here in
    let whole = rule_form a.text.now a.k _ x.form x.read c.if-form-text.false in
    let both = rule_accepted a.text.now a.k a.table.now _ _ _ x.form (right_length here) whole x.count (c.copy_from_slice.ensures.after ∙ x.table) in
    record { value = both.0; table_after = both.1 }
