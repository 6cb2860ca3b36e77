-- Each turn is one of the definition: the law `bisect_step_keys`.
use Rattle.std.proofs.Common.{length}
use Prim.Native.Nat.{◌≤◌, ◌-◌}
use mathlib.Core.Path.{◌≡◌}
use Rattle.lookup.specs.Seek.{bisect, keys_of}
use Rattle.lookup.proofs.seek.bisect.Given as goal

abbrev pub invariant-loop-lo : goal.invariant-loop-lo
invariant-loop-lo l =
    (l.hi ≤ length l.laid)
    × (bisect (keys_of l.laid) l.key (length l.laid) l.low l.high
    ≡ bisect (keys_of l.laid) l.key (length l.laid) l.lo l.hi)

abbrev pub decreases-loop-lo : goal.decreases-loop-lo
decreases-loop-lo l = l.hi - l.lo
