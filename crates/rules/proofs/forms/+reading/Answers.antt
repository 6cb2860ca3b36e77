-- Each return follows the reader's definition: by the byte, the allowance and the word, then by what the forms inside
-- answered.
use Prim.Native.Nat.{ℕ}
use native.Mathlib.Omega.{arith}
use mathlib.Core.Path.{◌≡◌, sym, ap, ◌∙◌}
use Rattle.std.proofs.Common.{rules}
use Rattle.std.proofs.lemmas.Result.{err_from_is_err_and}
use Rattle.rules.specs.declared.words.Word.{Word}
use Rattle.rules.specs.Reader.{body_with, inner_with}
use Rattle.rules.specs.ReaderCode.{word_then}
use Rattle.rules.proofs.LayingSteps.{done_refused}
use Rattle.rules.proofs.FormSteps.{Opened, form_at_other, form_at_deep, InnerDone, inner_done}
use Rattle.rules.proofs.forms.ReaderSteps.{expect_met, expect_other}
use Rattle.rules.proofs.forms.FormDoneSteps.{WordRoom, word_room, word-done, Ended, ended_first, ended_second, unary_fault_done, unary-done, binary_fault_done, binary-second_fault_done, binary-done}
use Rattle.rules.proofs.forms.+reading.Goals as goal
use Rattle.rules.proofs.forms.+reading.Goals.{read_binary-In_ok-first, read_binary-In_ok-second, read_form-In_ok-word, read_unary-In_ok-inner}

-- Two forms inside: what the first and the second left, and where they end.
first : (t : ℕ) (c : read_binary-In_ok-first t) → let a = c.args in
    let v = c.in_ok-first.first in
    InnerDone a.allowance a.rule.now.text.now a.rule.now.k a.from.laid a.from.closed a.from.place a.table.now c.read_inner.new.table v.place v.laid v.closed
first t c = inner_done _ _ _ _ c.in_ok-first.ensures

second : (t : ℕ) (c : read_binary-In_ok-second t) → let a = c.args in
    let u = c.in_ok-first.first in
    let v = c.in_ok-second.second in
    InnerDone a.allowance a.rule.now.text.now a.rule.now.k c.lay_between.result u.closed u.place c.lay_between.new.table c.read_inner-2.new.table v.place v.laid v.closed
second t c = inner_done _ _ _ _ c.in_ok-second.ensures

both_ended : (t : ℕ) (c : read_binary-In_ok-second t) → let v = c.in_ok-second.second in
    Ended c.args.from.laid c.args.from.closed c.in_ok-first.first.laid v.place v.laid
both_ended t c =
    ended_second c.requires (inner_done _ _ _ _ c.in_ok-first.ensures) c.lay_between.ensures (second t c)

pub read_binary-returns-in_err-first : goal.read_binary-returns-in_err-first
read_binary-returns-in_err-first t c =
    let p = err_from_is_err_and c.from_residual.result c.from_residual.ensures.1 in
    rw (p.1, p.2) (binary_fault_done _ _ _ _ _ c.in_err-first.ensures)

pub read_binary-overflow_sub-last : goal.read_binary-overflow_sub-last
read_binary-overflow_sub-last t c =
    let x = first t (goal.at.read_binary-overflow_sub-last t c).In_ok-first in
    omega (arith, x.done.laid_now, x.some)

pub read_binary-lay_between-requires : goal.read_binary-lay_between-requires
read_binary-lay_between-requires t c =
    let x = first t (goal.at.read_binary-lay_between-requires t c).In_ok-first in
    search rules

pub read_binary-read_inner-requires-2 : goal.read_binary-read_inner-requires-2
read_binary-read_inner-requires-2 t c =
    let x = first t (goal.at.read_binary-read_inner-requires-2 t c).In_ok-first in
    let p = c.lay_between.ensures in
    search rules

pub read_binary-returns-in_err-second : goal.read_binary-returns-in_err-second
read_binary-returns-in_err-second t c =
    let x = first t (goal.at.read_binary-returns-in_err-second t c).In_ok-first in
    let p = err_from_is_err_and c.from_residual-in_err-second.result c.from_residual-in_err-second.ensures.1 in
    rw (p.1, p.2) (binary-second_fault_done _ x c.in_err-second.ensures)

pub read_binary-overflow_sub-second : goal.read_binary-overflow_sub-second
read_binary-overflow_sub-second t c =
    let h = both_ended t (goal.at.read_binary-overflow_sub-second t c).In_ok-second in
    omega arith

pub read_binary-lay_after_both-end-requires : goal.read_binary-lay_after_both-end-requires
read_binary-lay_after_both-end-requires t c =
    let x = first t (goal.at.read_binary-lay_after_both-end-requires t c).In_ok-first in
    let h = both_ended t (goal.at.read_binary-lay_after_both-end-requires t c).In_ok-second in
    (omega (arith, x.done.laid_now, x.some, h.rises), omega (arith, h.ends))

pub read_binary-close-requires : goal.read_binary-close-requires
read_binary-close-requires t c =
    let h = both_ended t (goal.at.read_binary-close-requires t c).In_ok-second in
    let p = c.lay_after_both-end.ensures in
    (h.near, omega (arith, h.later, h.rises, p.count), omega (arith, h.ends, p.few), h.short)

pub read_binary-returns : goal.read_binary-returns
read_binary-returns t c =
    let at = goal.at.read_binary-returns t c in
    binary-done _ (first t at.In_ok-first) c.lay_between.ensures (second t at.In_ok-second) c.lay_after_both-end.ensures
    c.close.ensures

-- A form: where its word was read, there is its bracket and nesting is left. So there is room for what stands after it.
opened : (t : ℕ) (c : read_form-In_ok-word t) (word : Word) → c.in_ok-word.word ≡ word
    → Opened c.args.allowance c.args.rule.now.text.now c.args.from.place (word_then word c.in_ok-word.place)
opened t c word e =
    record {
      bracket = c.in_ok-expect.ensures;
      left = c.if-allowance-eq0.false;
      meets = sym c.in_ok-word.ensures ∙ ap (λ (w : Word). word_then w c.in_ok-word.place) e;
    }

form_room : (t : ℕ) (c : read_form-In_ok-word t) (word : Word) → c.in_ok-word.word ≡ word
    → WordRoom c.args.allowance c.args.from.laid c.args.from.closed c.args.table.now (word_then word c.in_ok-word.place)
form_room t c word e = word_room (opened t c word e) c.requires

pub read_form-returns-in_err-expect : goal.read_form-returns-in_err-expect
read_form-returns-in_err-expect t c =
    let a = c.args in
    let p = err_from_is_err_and c.from_residual.result c.from_residual.ensures.1 in
    let miss = c.in_err-expect.ensures in
    rw (p.1, p.2, miss.1, form_at_other a.allowance a.rule.now.text.now a.rule.now.k a.from.closed a.from.place miss.0)
    (done_refused _ _ _ _ _ _)

pub read_form-returns-then-allowance-eq0 : goal.read_form-returns-then-allowance-eq0
read_form-returns-then-allowance-eq0 t c =
    rw (form_at_deep _ _ _ _ _ c.in_ok-expect.ensures c.if-allowance-eq0.true) (done_refused _ _ _ _ _ _)

pub read_form-returns-in_err-word : goal.read_form-returns-in_err-word
unfolding body_with
read_form-returns-in_err-word t c =
    let p = err_from_is_err_and c.from_residual-in_err-word.result c.from_residual-in_err-word.ensures.1 in
    let o : Opened c.args.allowance c.args.rule.now.text.now c.args.from.place _ =
    record {
      bracket = c.in_ok-expect.ensures;
      left = c.if-allowance-eq0.false;
      meets = sym c.in_err-word.ensures;
    }
    in
    rw (p.1, p.2) (word-done c.args.rule.now.k o (done_refused _ _ _ _ _ _))

pub read_form-read_atom-requires : goal.read_form-read_atom-requires
read_form-read_atom-requires t c = form_room t (goal.at.read_form-read_atom-requires t c).In_ok-word _ c.in-At.is

pub read_form-read_constant-requires : goal.read_form-read_constant-requires
read_form-read_constant-requires t c =
    form_room t (goal.at.read_form-read_constant-requires t c).In_ok-word _ c.in-Constant.is

pub read_form-read_unary-requires : goal.read_form-read_unary-requires
read_form-read_unary-requires t c =
    (search rules, form_room t (goal.at.read_form-read_unary-requires t c).In_ok-word _ c.in-Unary.is)

pub read_form-read_binary-requires : goal.read_form-read_binary-requires
read_form-read_binary-requires t c =
    (search rules, form_room t (goal.at.read_form-read_binary-requires t c).In_ok-word _ c.in-Binary.is)

pub read_form-returns-in-At : goal.read_form-returns-in-At
unfolding body_with
read_form-returns-in-At t c =
    word-done _ (opened t (goal.at.read_form-returns-in-At t c).In_ok-word _ c.in-At.is) c.read_atom.ensures

pub read_form-returns-in-Constant : goal.read_form-returns-in-Constant
unfolding body_with
read_form-returns-in-Constant t c =
    word-done _ (opened t (goal.at.read_form-returns-in-Constant t c).In_ok-word _ c.in-Constant.is) c.read_constant.ensures

pub read_form-returns-in-Unary : goal.read_form-returns-in-Unary
unfolding body_with
read_form-returns-in-Unary t c =
    word-done _ (opened t (goal.at.read_form-returns-in-Unary t c).In_ok-word _ c.in-Unary.is) c.read_unary.ensures

pub read_form-returns-in-Binary : goal.read_form-returns-in-Binary
unfolding body_with
read_form-returns-in-Binary t c =
    word-done _ (opened t (goal.at.read_form-returns-in-Binary t c).In_ok-word _ c.in-Binary.is) c.read_binary.ensures

pub read_inner-returns-in_err-expect : goal.read_inner-returns-in_err-expect
unfolding inner_with
read_inner-returns-in_err-expect t c =
    let a = c.args in
    let p = err_from_is_err_and c.from_residual.result c.from_residual.ensures.1 in
    let miss = c.in_err-expect.ensures in
    rw (p.1, p.2, miss.1, expect_other a.rule.now.text.now a.from.place 32 miss.0) (done_refused _ _ _ _ _ _)

pub read_inner-returns : goal.read_inner-returns
unfolding inner_with
read_inner-returns t c = rw (expect_met _ _ 32 c.in_ok-expect.ensures) c.read_form.ensures

-- One form inside: what it left, and where it ends.
only : (t : ℕ) (c : read_unary-In_ok-inner t) → let a = c.args in
    let v = c.in_ok-inner.inner in
    InnerDone a.allowance a.rule.now.text.now a.rule.now.k c.lay_before.result a.from.closed a.from.place c.lay_before.new.table c.read_inner.new.table v.place v.laid v.closed
only t c = inner_done _ _ _ _ c.in_ok-inner.ensures

only_ended : (t : ℕ) (c : read_unary-In_ok-inner t) → let v = c.in_ok-inner.inner in
    Ended c.args.from.laid c.args.from.closed c.args.from.laid v.place v.laid
only_ended t c = ended_first c.requires c.lay_before.ensures (only t c)

pub read_unary-returns-in_err-inner : goal.read_unary-returns-in_err-inner
read_unary-returns-in_err-inner t c =
    let p = err_from_is_err_and c.from_residual.result c.from_residual.ensures.1 in
    rw (p.1, p.2) (unary_fault_done _ _ _ _ _ c.in_err-inner.ensures)

pub read_unary-overflow_sub-inner : goal.read_unary-overflow_sub-inner
read_unary-overflow_sub-inner t c =
    let h = only_ended t (goal.at.read_unary-overflow_sub-inner t c).In_ok-inner in
    omega arith

pub read_unary-lay_after-end-requires : goal.read_unary-lay_after-end-requires
read_unary-lay_after-end-requires t c =
    let x = only t (goal.at.read_unary-lay_after-end-requires t c).In_ok-inner in
    search rules

pub read_unary-close-requires : goal.read_unary-close-requires
read_unary-close-requires t c =
    let h = only_ended t (goal.at.read_unary-close-requires t c).In_ok-inner in
    let p = c.lay_after-end.ensures in
    (h.near, omega (arith, h.rises, p.count), omega (arith, h.ends, p.few), h.short)

pub read_unary-returns : goal.read_unary-returns
read_unary-returns t c =
    unary-done _ c.lay_before.ensures (only t (goal.at.read_unary-returns t c).In_ok-inner) c.lay_after-end.ensures
    c.close.ensures
