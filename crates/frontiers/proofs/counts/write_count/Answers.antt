-- The number stored in two bytes or in four, by the width.
use Prim.Native.Nat.{◌^◌, ◌<◌}
use native.Mathlib.Omega.{arith}
use mathlib.Core.Path.{◌≡◌}
use Rattle.frontiers.proofs.counts.write_count.Goals as goal

pub overflow_cast-c : goal.overflow_cast-c
overflow_cast-c c =
    let two : c.args.w ≡ 2 = omega arith in
    let fits : c.args.c < 256 ^ 2 = rw two at c.requires.c_bound in
    record { fits = fits }

pub returns-then-bytes-eq2 : goal.returns-then-bytes-eq2
returns-then-bytes-eq2 c = cc

pub returns-else-bytes-eq2 : goal.returns-else-bytes-eq2
returns-else-bytes-eq2 c = let four : c.args.w ≡ 4 = omega arith in cc
