-- What is made for process p is what the definition has there.
use Rattle.std.proofs.Common.{not, ◌&&◌, ltb, false, rules}
use Rattle.codec.specs.Bit.{bit}
use Rattle.clocks.specs.stored.CallLaws.{made_called}
use Rattle.window.proofs.prepared.open_ones.Goals as goal

pub returns : goal.returns
returns c =
    let a = c.args in
    made_called (λ p. ltb p a.k && not (bit a.closed p)) _ 8 false c.from_fn.result c.from_fn.ensures.items (λ p y q l k. search rules)
