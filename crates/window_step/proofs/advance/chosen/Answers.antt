-- A full byte leaves the first, an empty one the second: the law `chosen_byte`.
use mathlib.Core.Path.{ap, ◌∙◌}
use Prim.Native.Nat.{ℕ}
use lib.Bits.{bit_and, bit_or, bit_xor}
use Rattle.window_step.proofs.ChoosingSteps.{chosen_byte}
use Rattle.std.proofs.Common.{rules}
use Rattle.window_step.proofs.advance.chosen.Goals as goal

pub returns : goal.returns
returns c =
    λ first e. let a = c.args in
    ap (λ (full : ℕ). bit_or (bit_and a.a full) (bit_and a.b (bit_xor 255 full))) e ∙ chosen_byte first a.a a.b (search rules) (search rules)
