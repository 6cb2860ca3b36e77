-- Each return is the definition under the tests of the bracket and of the count.
use borrow.Author.Tests.{eq-eqb, ne_eqb, le-leb, lt-leb}
use Rattle.std.proofs.lemmas.Result.{err_from_is_err_and}
use Rattle.rules.specs.Laying.{close_read}
use Rattle.rules.proofs.forms.close.Goals as goal

pub returns-in_err-expect : goal.returns-in_err-expect
unfolding close_read
returns-in_err-expect c =
    let p = err_from_is_err_and c.from_residual.result c.from_residual.ensures.1 in
    rw (p.1, p.2, c.in_err-expect.ensures.1, ne_eqb _ _ c.in_err-expect.ensures.0)

pub returns-then-closed-le64 : goal.returns-then-closed-le64
unfolding close_read
returns-then-closed-le64 c = rw (eq-eqb _ _ c.in_ok-expect.ensures, le-leb _ _ c.if-closed-le64.true)

pub returns-else-closed-le64 : goal.returns-else-closed-le64
unfolding close_read
returns-else-closed-le64 c = rw (eq-eqb _ _ c.in_ok-expect.ensures, lt-leb _ _ c.if-closed-le64.false)
