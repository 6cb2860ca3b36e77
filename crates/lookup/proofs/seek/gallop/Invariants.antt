-- Each turn is one of the definition: the laws `gallop_past_keys` and `gallop_step_keys`.
use Rattle.std.proofs.Common.{length}
use Prim.Native.Nat.{◌≤◌, ◌<◌, ◌-◌}
use mathlib.Core.Path.{◌≡◌}
use Rattle.lookup.specs.Seek.{gallop, keys_of}
use Rattle.lookup.proofs.seek.gallop.Given as goal

abbrev pub invariant-loop-key : goal.invariant-loop-key
invariant-loop-key l =
    (l.n ≡ length l.laid) × (l.n ≤ 1024) × (l.lo < l.n) × (0 < l.width) × (l.width ≤ 2048)
    × (gallop (keys_of l.laid) l.key (length l.laid) l.low 1
    ≡ gallop (keys_of l.laid) l.key (length l.laid) l.lo l.width)

abbrev pub decreases-loop-key : goal.decreases-loop-key
decreases-loop-key l = l.n - l.lo
