-- The closure's answer is the test at p.
use mathlib.Core.Bool.{◌&&◌}
use lib.Dec.{leb}
use Rattle.std.proofs.Common.{rules, refl}
use Rattle.clocks.specs.Event.{count, involved}
use Rattle.clocks.specs.stored.CallLaws.{any_called}
use Rattle.clocks.specs.Counts.{at}
use Rattle.refusals.specs.Refusals.{already_taken}
use Rattle.refusals.proofs.already_taken.Goals as goal

pub returns : goal.returns
unfolding already_taken involved count
returns c =
    let a = c.args in
    any_called 8 (λ p. involved a.e p && leb (count a.e p) (at a.taken p)) _ _ _ refl c.any.ensures.ran (λ p b q k. search rules)
