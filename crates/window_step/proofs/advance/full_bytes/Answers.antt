-- What is made for process p is what the definition has there.
use Rattle.codec.specs.Bit.{bit}
use Rattle.clocks.specs.stored.CallLaws.{made_called}
use Rattle.window_step.specs.FullBytes.{full_byte}
use Rattle.std.proofs.Common.{rules}
use Rattle.window_step.proofs.advance.full_bytes.Goals as goal

pub returns : goal.returns
returns c = made_called (λ p. full_byte (bit c.args.mask p)) _ 8 0 c.from_fn.result c.from_fn.ensures.items (λ p y q l k. search rules)
