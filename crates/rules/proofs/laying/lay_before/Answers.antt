-- The lines of true, or none.
use mathlib.Core.Bool.{true, false}
use mathlib.Core.Path.{◌≡◌, sym, ◌∙◌}
use Rattle.rules.proofs.LayingSteps.{laid_none, lines_before-cond}
use Rattle.rules.specs.Laying.{has_true}
use Rattle.rules.proofs.laying.lay_before.Goals as goal

pub returns-then-has_true : goal.returns-then-has_true
returns-then-has_true c =
    let a = c.args in
    let t : has_true a.word ≡ true = sym c.has_true.ensures ∙ c.if-has_true.true in
    rw (lines_before-cond a.word a.n, t) c.lay_true.ensures

pub returns-else-has_true : goal.returns-else-has_true
returns-else-has_true c =
    let a = c.args in
    let t : has_true a.word ≡ false = sym c.has_true.ensures ∙ c.if-has_true.false in
    rw (lines_before-cond a.word a.n, t) laid_none
