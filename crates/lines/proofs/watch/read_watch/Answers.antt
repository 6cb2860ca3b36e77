-- The pieces, and the limit on the line's bytes.
use Rattle.lines.proofs.watch.WatchSteps.{watch_whole}
use Rattle.lines.proofs.watch.read_watch.Goals as goal

pub returns : goal.returns
returns c = rw c.limited.ensures (watch_whole c.args.line.now _ c.pieces.ensures)
