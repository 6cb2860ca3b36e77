-- The closure reads the number at each place.
use Rattle.std.proofs.Common.{◌+◌, ◌*◌, rules}
use Rattle.codec.specs.Little.{number}
use Rattle.clocks.specs.stored.CallLaws.{made_called}
use Rattle.frontiers.proofs.counts.read_counts.Goals as goal

pub returns : goal.returns
returns c =
    let a = c.args in
    made_called (λ p. number a.s.now (a.place + p * a.w) a.w) _ 8 0 c.from_fn.result c.from_fn.ensures.items (λ p y q l k. search rules)
