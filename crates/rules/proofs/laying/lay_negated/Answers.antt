-- Three lines behind one another.
use Prim.Native.Nat.{◌+◌}
use native.Mathlib.Omega.{arith}
use mathlib.Core.Path.{◌≡◌}
use Rattle.rules.proofs.LayingSteps.{laid_then}
use Rattle.rules.proofs.laying.lay_negated.Goals as goal

pub returns : goal.returns
returns c =
    let last = c.args.last in
    let second : c.lay_line-second.result ≡ last + 2 = omega (arith, c.lay_line-second.ensures.count) in
    rw (← second) (laid_then (laid_then c.lay_line-second.ensures c.lay_line-third.ensures) c.lay_line.ensures)
