-- The closure's answer is the test at p.
use mathlib.Core.Bool.{◌&&◌}
use lib.Dec.{eqb}
use Rattle.std.proofs.Common.{rules, refl}
use Rattle.clocks.specs.Event.{count, involved}
use Rattle.clocks.specs.stored.CallLaws.{any_called}
use Rattle.refusals.specs.Refusals.{conflicts}
use Rattle.refusals.proofs.conflicts.Goals as goal

pub returns : goal.returns
unfolding conflicts involved count
returns c =
    let a = c.args in
    any_called 8 (λ p. (involved a.e p && involved a.f p) && eqb (count a.e p) (count a.f p)) _ _ _ refl c.any.ensures.ran (λ p b q k. search rules)
