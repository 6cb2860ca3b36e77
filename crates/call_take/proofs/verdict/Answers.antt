-- The last frontier's values.
use Prim.Native.Nat.{ℕ, ◌+◌, ◌-◌, ◌*◌, ◌≤◌, ◌<◌}
use native.Mathlib.Omega.{arith}
use mathlib.Core.Path.{sym, ap, ◌∙◌}
use Rattle.codec.specs.Bit.{bit}
use Rattle.frontiers.specs.Bytes.{frontier_length}
use Rattle.frontiers.specs.BytesLaws.{count-within}
use Rattle.call_take.proofs.TakenSteps.{last_values}
use Rattle.std.proofs.Common.{rules}
use Rattle.call_take.proofs.verdict.Goals as goal

-- Whichever of them is read, so that a wrong one is refused for its verdict and not here.
within : (i kept size bytes : ℕ) → i < kept → kept * size ≤ bytes → i * size + size ≤ bytes
within i kept size bytes h long = omega (arith, count-within i kept size h)

pub values_at-requires-clause-i_bound : goal.values_at-requires-clause-i_bound
values_at-requires-clause-i_bound c = omega arith

pub values_at-requires-clause-w_in_bounds : goal.values_at-requires-clause-w_in_bounds
values_at-requires-clause-w_in_bounds c =
    let a = c.args in
    within _ a.kept (frontier_length a.w) _ (omega arith) (search rules)

pub returns : goal.returns
returns c =
    let a = c.args in
    c.has_bit.ensures ∙ ap (λ (v : ℕ). bit v (a.lines - 1)) (c.values_at.ensures ∙ sym (last_values a.w a.window.now a.kept (omega arith)))
