-- Each return is the definition `atom_at` under the bytes and digits met; the last one closes a form of one line.
use Prim.Native.Nat.{◌+◌}
use native.Mathlib.Omega.{arith}
use Rattle.std.proofs.lemmas.Result.{err_from_is_err_and}
use Rattle.rules.specs.Line.{line_count, lines_at}
use Rattle.rules.specs.Formula.{atom}
use Rattle.rules.proofs.LayingSteps.{done_refused, done_close}
use Rattle.rules.proofs.forms.ReaderSteps.{expect_met, expect_other, digit_met, digit_other}
use Rattle.rules.specs.Reader.{atom_at}
use Rattle.std.proofs.Common.{rules}
use Rattle.rules.proofs.forms.read_atom.Goals as goal

pub returns-in_err-expect : goal.returns-in_err-expect
unfolding atom_at
returns-in_err-expect c =
    let a = c.args in
    let p = err_from_is_err_and c.from_residual.result c.from_residual.ensures.1 in
    let miss = c.in_err-expect.ensures in
    rw (p.1, p.2, miss.1, expect_other a.rule.now.text.now a.from.place 32 miss.0) (done_refused _ _ _ _ _ _)

pub returns-in_err-p : goal.returns-in_err-p
unfolding atom_at
returns-in_err-p c =
    let a = c.args in
    let s = a.rule.now.text.now in
    let p = err_from_is_err_and c.from_residual-in_err-p.result c.from_residual-in_err-p.ensures.1 in
    let miss = c.in_err-p.ensures in
    rw (
      p.1,
      p.2,
      miss.1,
      expect_met s a.from.place 32 c.in_ok-expect.ensures,
      digit_other s (a.from.place + 1) a.rule.now.k _ miss.0,
    )
    (done_refused _ _ _ _ _ _)

pub returns-in_err-expect-2 : goal.returns-in_err-expect-2
unfolding atom_at
returns-in_err-expect-2 c =
    let a = c.args in
    let s = a.rule.now.text.now in
    let p = err_from_is_err_and c.from_residual-in_err-expect-2.result c.from_residual-in_err-expect-2.ensures.1 in
    let miss = c.in_err-expect-2.ensures in
    rw (
      p.1,
      p.2,
      miss.1,
      expect_met s a.from.place 32 c.in_ok-expect.ensures,
      (digit_met s (a.from.place + 1) a.rule.now.k _ c.in_ok-p.ensures).step,
      expect_other s (a.from.place + 2) 32 miss.0,
    )
    (done_refused _ _ _ _ _ _)

pub returns-in_err-b : goal.returns-in_err-b
unfolding atom_at
returns-in_err-b c =
    let a = c.args in
    let s = a.rule.now.text.now in
    let p = err_from_is_err_and c.from_residual-in_err-b.result c.from_residual-in_err-b.ensures.1 in
    let miss = c.in_err-b.ensures in
    rw (
      p.1,
      p.2,
      miss.1,
      expect_met s a.from.place 32 c.in_ok-expect.ensures,
      (digit_met s (a.from.place + 1) a.rule.now.k _ c.in_ok-p.ensures).step,
      expect_met s (a.from.place + 2) 32 c.in_ok-expect-2.ensures,
      digit_other s (a.from.place + 3) 8 _ miss.0,
    )
    (done_refused _ _ _ _ _ _)

pub lay_line-end-requires : goal.lay_line-end-requires
lay_line-end-requires c =
    let d₁ = digit_met _ _ _ _ c.in_ok-p.ensures in
    let d₂ = digit_met _ _ _ _ c.in_ok-b.ensures in
    (search rules, omega (arith, d₁.ten), omega (arith, d₂.ten))

pub returns : goal.returns
unfolding atom_at line_count lines_at
returns c =
    let a = c.args in
    let s = a.rule.now.text.now in
    let d₁ = digit_met s (a.from.place + 1) a.rule.now.k _ c.in_ok-p.ensures in
    let d₂ = digit_met s (a.from.place + 3) 8 _ c.in_ok-b.ensures in
    rw (
      expect_met s a.from.place 32 c.in_ok-expect.ensures,
      d₁.step,
      expect_met s (a.from.place + 2) 32 c.in_ok-expect-2.ensures,
      d₂.step,
      d₁.same,
      d₂.same,
    )
    (done_close a.from.laid a.from.closed a.table.now _ s (a.from.place + 4) _ (atom _ _) _ c.close.ensures
    c.lay_line-end.ensures.count c.lay_line-end.ensures.table)
