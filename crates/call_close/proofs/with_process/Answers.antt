-- The shift is not cut off: a process is below 8.
use native.Mathlib.Omega.{arith}
use mathlib.Core.Path.{◌≡◌, ap, ◌∙◌}
use Prim.Native.Nat.{◌*◌, ◌^◌, ◌%◌}
use lib.Bits.{bit_or, or_lt}
use lib.Pow.{shl_exact, pow-lt}
use Rattle.std.proofs.Common.{rules}
use Rattle.call_close.proofs.with_process.Goals as goal

pub returns : goal.returns
returns c =
    let a = c.args in
    let one = 2 ^ a.p in
    let shifted : (1 * one) % 2 ^ 64 ≡ one = shl_exact {a = 1} 1 a.p 64 (omega arith) (omega arith) ∙ omega arith in
    let small = or_lt 8 a.closed one (search rules) (pow-lt {j = 8} (search rules)) in
    let whole : bit_or a.closed ((1 * one) % 2 ^ 64) ≡ bit_or a.closed one = ap (bit_or a.closed) shifted in
    (whole, rw whole small)
