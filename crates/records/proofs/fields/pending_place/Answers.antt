-- By the two widths.
use native.Mathlib.Omega.{arith}
use mathlib.Core.Path.{◌≡◌}
use Rattle.records.proofs.fields.pending_place.Goals as goal

pub returns-then-bytes-eq2 : goal.returns-then-bytes-eq2
returns-then-bytes-eq2 c =
    let two : c.args.w ≡ 2 = omega arith in
    (rw two (omega arith), omega arith)

pub returns-else-bytes-eq2 : goal.returns-else-bytes-eq2
returns-else-bytes-eq2 c =
    let four : c.args.w ≡ 4 = omega arith in
    (rw four (omega arith), omega arith)
