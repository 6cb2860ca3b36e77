-- The counts before are laid, at most 21 bytes for each: 20 digits and a space, and no space before the first.
use mathlib.Core.Path.{◌≡◌}
use Prim.Native.Nat.{◌≤◌, ◌+◌, ◌*◌}
use mathlib.Core.List.{◌++◌}
use lib.ListN.{length, take}
use Rattle.reply_text.specs.Texts.{more_counts}
use Rattle.reply_text.proofs.put_counts.Given as goal

abbrev pub invariant-loop-count : goal.invariant-loop-count
invariant-loop-count l =
    (l.at ≤ 28 + 21 * l.count-index) × (length l.out ≡ length l.initial.out)
    × (take l.at l.out ≡ take l.initial.at l.initial.out ++ more_counts l.fn.counts l.count-index)
