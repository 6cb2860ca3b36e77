-- The closure's answer is the test at p.
use Rattle.std.proofs.Common.{rules, refl}
use Rattle.clocks.specs.Counts.{at}
use Rattle.clocks.specs.Event.{involved, count}
use Rattle.clocks.specs.Tested.{ready_at, ready}
use Rattle.clocks.specs.stored.CallLaws.{all_called}
use Rattle.clocks.proofs.step.ready.Goals as goal

pub returns : goal.returns
unfolding ready involved count
returns c =
    let e = c.args.e in
    let counts = c.args.counts in
    all_called 8 (λ p. ready_at (involved e p) (count e p) (at counts p)) _ _ _ refl c.all.ensures.ran (λ p b q k. search rules)
