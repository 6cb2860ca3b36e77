-- Behind the limit there is no fault before the limit's own.
use Rattle.line_pieces.proofs.reading.ReadingSteps.{behind_limit}
use Rattle.line_pieces.proofs.reading.limited.Goals as goal
use Rattle.line_pieces.proofs.reading.limited.Goals.{in_default-via-in-Err+else-fault-le-LINE_LIMIT, in_default-via-in_default}

pub returns-in_default : goal.returns-in_default
returns-in_default c d =
    behind_limit d.args.line.now d.args.read d.if-line-le-LINE_LIMIT.false
    (elim d.in_default.branch [
      | in_default-via-in-Err+else-fault-le-LINE_LIMIT w ↦ rw w.in-Err.is w.if-fault-le-LINE_LIMIT.false
      | in_default-via-in_default w ↦ rw w.in_default.is tt
    ])
