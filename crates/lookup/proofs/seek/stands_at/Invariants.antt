-- Before the index the counts are those of the key, so that the comparison is that of what follows.
use Rattle.std.proofs.Common.{◌≡◌, ◌<◌, [], length, get_or, drop}
use Rattle.lookup.specs.Seek.{standing, stands_to, keys_of}
use Rattle.lookup.proofs.seek.stands_at.Given as goal

abbrev pub invariant-loop-p : goal.invariant-loop-p
invariant-loop-p l =
    (0 < l.p → length (get_or (keys_of l.laid) l.i []) ≡ 8)
    × (stands_to (keys_of l.laid) l.key l.i ≡ standing (drop l.p (get_or (keys_of l.laid) l.i [])) (drop l.p l.key))
