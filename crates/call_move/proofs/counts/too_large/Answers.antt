-- Two bytes hold up to 65,535, and four hold every count.
use native.Mathlib.Omega.{arith}
use Rattle.call_move.proofs.CountSteps.{two_hold, four_hold}
use Rattle.call_move.proofs.counts.too_large.Goals as goal

pub returns-then-bytes-eq2 : goal.returns-then-bytes-eq2
returns-then-bytes-eq2 c = let a = c.args in two_hold a.w a.c (omega arith)

pub returns-else-bytes-eq2 : goal.returns-else-bytes-eq2
returns-else-bytes-eq2 c = let a = c.args in rw c.bytes.ensures.value (four_hold a.w a.c (omega arith) (omega arith))
