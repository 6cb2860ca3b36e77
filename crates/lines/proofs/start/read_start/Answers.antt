-- The pieces, and the limit on the line's bytes.
use Rattle.lines.proofs.start.StartSteps.{start_whole}
use Rattle.lines.proofs.start.read_start.Goals as goal

pub returns : goal.returns
returns c = rw c.limited.ensures (start_whole c.args.line.now c.args.k _ c.pieces.ensures)
