-- The bytes kept stay within the line's buffer.
use Rattle.std.proofs.Common.{◌≤◌, length}
use Rattle.watch_cli.proofs.input.Input.next_line.Given as goal

abbrev pub invariant-loop : goal.invariant-loop
invariant-loop g l = l.kept ≤ length l.line
