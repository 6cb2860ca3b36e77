-- Each turn passes at least a line feed.
use Rattle.std.proofs.Common.{length, ◌-◌, ◌+◌}
use Rattle.watch_examples.proofs.script.run.Given as goal

abbrev pub decreases-loop-start : goal.decreases-loop-start
decreases-loop-start g l = length l.input + 1 - l.start
