-- Four lines behind one another.
use Prim.Native.Nat.{◌+◌}
use native.Mathlib.Omega.{arith}
use mathlib.Core.Path.{◌≡◌}
use Rattle.rules.specs.Line.{true_lines}
use Rattle.rules.proofs.LayingSteps.{laid_then}
use Rattle.rules.proofs.laying.lay_true.Goals as goal

pub returns : goal.returns
unfolding true_lines
returns c =
    let n = c.args.n in
    let second : c.lay_line-second.result ≡ n + 1 = omega (arith, c.lay_line-second.ensures.count) in
    let third : c.lay_line-third.result ≡ n + 2 = omega (arith, c.lay_line-third.ensures.count) in
    let three = laid_then (laid_then c.lay_line-second.ensures c.lay_line-third.ensures) c.lay_line-fourth.ensures in
    rw (← second, ← third) (laid_then three c.lay_line.ensures)
