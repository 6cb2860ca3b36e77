-- The pieces, and the limit on the line's bytes.
use Rattle.lines.proofs.did.DidSteps.{did_whole}
use Rattle.lines.proofs.did.read_did.Goals as goal

pub returns : goal.returns
returns c = rw c.limited.ensures (did_whole c.args.line.now c.args.k _ c.pieces.ensures)
