-- No pending event passed is alike; the first that is decides.
use Rattle.std.proofs.Common.{ℕ, ◌<◌, false}
use Rattle.records.specs.Record.{pending_at}
use Rattle.repeats.proofs.any_pending.Given as goal

abbrev pub invariant-loop-i : goal.invariant-loop-i
invariant-loop-i g l = goal.F-IsAlwaysCallable g l.alike × ((k : ℕ) → k < l.i → goal.F-post g l.alike (pending_at l.w l.«record» k) false)
