-- The bit that is added is above the word, so that the sum does not wrap.
use Prim.Native.Nat.{ℕ, ◌^◌, ◌≤◌, ◌<◌, ◌+◌, ◌*◌, ◌%◌}
use native.Mathlib.Omega.{arith}
use mathlib.Core.Path.{◌≡◌}
use mathlib.Core.Bool.{Bool, true, false}
use lib.Pow.{shl_exact, pow_mono}
use mir.Val.{bool_byte}
use Rattle.pactl.specs.Judge.{with_bit}
use Rattle.pactl.specs.JudgeLaws.{with_bit-lt}
use Rattle.std.proofs.Common.{rules}
use Rattle.pactl.proofs.judging.with_bit.Goals as goal

-- A truth as a number, shifted to bit i.
with_shifted : (v i : ℕ) (t : Bool) → i < 64 → v + (bool_byte t * 2 ^ i) % 2 ^ 64 ≡ with_bit v i t
with_shifted v i true l = rw (shl_exact {a = 1} 1 i 64 (omega arith) (omega arith)) (omega arith)
with_shifted v i false l = omega arith

pub overflow_add-result : goal.overflow_add-result
overflow_add-result c =
    let a = c.args in
    let p : 2 ^ (a.i + 1) ≤ 2 ^ 64 = pow_mono {j = 64} (omega arith) in
    record { fits = rw c.from.ensures (omega (arith, with_shifted a.v a.i a.t (search rules), with_bit-lt a.v a.i a.t (search rules))) }

pub returns : goal.returns
returns c = rw c.from.ensures (with_shifted c.args.v c.args.i c.args.t (search rules))
