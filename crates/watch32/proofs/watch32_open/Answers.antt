-- The labels out of a word; the rest is the call's own promise.
use Rattle.watch32.proofs.watch32_open.Goals as goal

pub returns : goal.returns
returns c = rw (← c.unpack_labels-bytes.ensures) c.open.ensures
