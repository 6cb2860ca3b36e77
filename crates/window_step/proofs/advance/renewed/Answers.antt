-- What is made for process p is what was chosen there.
use Rattle.std.proofs.Common.{cond, get_or, rules}
use Rattle.codec.specs.Bit.{bit}
use Rattle.clocks.specs.stored.CallLaws.{made_called}
use Rattle.window.specs.Lists.{made_at}
use Rattle.window_step.proofs.advance.renewed.Goals as goal

pub returns : goal.returns
returns c =
    λ mask e. let a = c.args in
    made_called (λ p. cond (bit mask p) (get_or a.news p 0) (get_or a.olds p 0)) _ 8 0 c.from_fn.result c.from_fn.ensures.items
    (λ p y q l k. let full = made_at a.full _ 0 p e l in search (rules, full))
