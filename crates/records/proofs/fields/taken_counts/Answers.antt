-- The counts from place 8 on.
use Rattle.records.specs.Record.{taken_counts}
use Rattle.records.proofs.fields.taken_counts.Goals as goal

pub returns : goal.returns
unfolding taken_counts
returns c = cc
