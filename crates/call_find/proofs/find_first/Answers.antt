-- The first frontier at which the line holds decides, or none: the laws `find_here` and `find_none`.
use mathlib.Core.Path.{refl, sym, ◌∙◌}
use native.Mathlib.Nat.{le_refl}
use Rattle.call_find.proofs.FindSteps.{find_here, find_none}
use Rattle.call_find.proofs.find_first.Goals as goal

pub returns-in-Some : goal.returns-in-Some
returns-in-Some c =
    let a = c.args in
    let first = c.in-Some.ensures.first in
    sym (first.2 ∙ find_here a.line a.laid.now c.in-Some.i first.0 first.1)

pub returns-in-None : goal.returns-in-None
returns-in-None c =
    let a = c.args in
    sym (c.in-None.ensures.nowhere refl ∙ find_none a.line a.laid.now _ (le_refl _))
