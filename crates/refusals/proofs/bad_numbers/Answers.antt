-- Where every test but the last passes, the last one decides.
use native.Mathlib.Omega.{arith}
use mathlib.Core.Path.{sym, ◌∙◌, ap}
use borrow.Author.Tests.{le-ltb, ne_eqb}
use Rattle.refusals.specs.Refusals.{bad_processes}
use Rattle.refusals.specs.RefusalCode.{bad_numbers}
use Rattle.refusals.proofs.bad_numbers.Goals as goal

pub returns-else-kept-gt-FRONTIERS : goal.returns-else-kept-gt-FRONTIERS
unfolding bad_numbers
returns-else-kept-gt-FRONTIERS c =
    let a = c.args in
    let passed = c.if-kept-gt-FRONTIERS.false in
    let processes = ap bad_processes (sym c.from.ensures) ∙ sym c.bad_processes.ensures ∙ passed.0 in
    rw (processes, le-ltb 32 a.pending (omega arith), ne_eqb a.lines 0 (λ e. omega arith), le-ltb 64 a.lines (omega arith), ne_eqb a.kept 0 (λ e. omega arith), le-ltb 1024 a.kept (omega arith))
