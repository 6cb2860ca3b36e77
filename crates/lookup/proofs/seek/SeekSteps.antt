-- The comparison of a frontier's counts with a key as the code makes it, process by process; and the look-up's turns
-- among the frontiers of a window.
use Prim.Native.Nat.{ℕ, ◌+◌, ◌-◌, ◌*◌, ◌/◌, ◌≤◌, ◌<◌}
use native.Mathlib.Omega.{arith}
use mathlib.Core.Path.{◌≡◌, ◌∙◌}
use mathlib.Core.Bool.{cond}
use mathlib.Core.List.{List}
use lib.Dec.{ltb}
use lib.ListN.{length, drop}
use Rattle.std.specs.Ordering.{nat_cmp}
use Rattle.std.proofs.Common.{ne_eqb}
use Rattle.clocks.specs.Counts.{at}
use Rattle.frontiers.specs.declared.Frontier.{Frontier}
use Rattle.lookup.specs.OrderLaws.{before-drop-equal, before-drop_other, same-drop-equal, same-drop_other, same-drop-end}
use Rattle.lookup.specs.Seek.{standing, stands_to, bisect, gallop, seek, keys_of}
use Rattle.std.specs.declared.cmp.Ordering.{Ordering}
use Rattle.std.specs.declared.cmp.Ordering.TheVariants.{Less, Equal, Greater}
use Rattle.lookup.specs.SeekLaws.{bisect-end, bisect_step, gallop_past, gallop_step, seek_step, seek_whole}
use Rattle.lookup.specs.KeyLaws.{length_keys}

-- ---- At process p: equal counts leave it to the rest, others decide

decided : (x y : ℕ) → (x ≡ y → ⊥) → cond (ltb x y) Less Greater ≡ nat_cmp x y
decided x y n = rw (ne_eqb x y n)

module _ (counts key : List ℕ) (h : length counts ≡ 8) (e : length key ≡ 8) where
  pub standing_other : (p : ℕ) → p < 8 → (at counts p ≡ at key p → ⊥)
      → standing (drop p counts) (drop p key) ≡ nat_cmp (at counts p) (at key p)
  unfolding standing
  standing_other p l n =
      rw (same-drop_other counts key p (omega arith) (omega arith) n, before-drop_other counts key p (omega arith) (omega arith) n)
      (decided _ _ n)

  pub standing-equal : (p : ℕ) → p < 8 → at counts p ≡ at key p
      → standing (drop p counts) (drop p key) ≡ standing (drop (p + 1) counts) (drop (p + 1) key)
  unfolding standing
  standing-equal p l q =
      rw (same-drop-equal counts key p (omega arith) (omega arith) q, before-drop-equal counts key p (omega arith) (omega arith) q)

  -- After the last process nothing is left to compare.
  pub standing-end : standing (drop 8 counts) (drop 8 key) ≡ Equal
  unfolding standing
  standing-end = rw (same-drop-end counts key 8 (omega arith) (omega arith))

-- ---- Among the frontiers

module _ (laid : List Frontier) (key : List ℕ) where
  abbrev keys : List (List ℕ)
  keys = keys_of laid

  abbrev n : ℕ
  n = length laid

  pub bisect-end_keys : (lo hi : ℕ) → hi ≤ lo → bisect keys key n lo hi ≡ n
  bisect-end_keys lo hi l = bisect-end keys key n lo hi l ∙ length_keys laid

  pub bisect_step_keys : (lo hi : ℕ) → lo < hi → hi ≤ n → (b : Ordering) → stands_to keys key (lo + (hi - lo) / 2) ≡ b
      → bisect keys key n lo hi
      ≡ elim b [ Less ↦ bisect keys key n (lo + (hi - lo) / 2 + 1) hi | Equal ↦ lo + (hi - lo) / 2 | Greater ↦ bisect keys key n lo (lo + (hi - lo) / 2) ]
  bisect_step_keys lo hi l m b q = bisect_step keys key n lo hi l (omega arith) b q

  pub gallop_past_keys : (lo width : ℕ) → lo < n → n ≤ lo + width → gallop keys key n lo width ≡ bisect keys key n (lo + 1) n
  gallop_past_keys lo width l m = (rw (length_keys laid) at (gallop_past keys key n lo width)) l (omega arith) m

  gallop-within : (lo width : ℕ) → 0 < width → lo + width < n → (b : Ordering) → stands_to keys key (lo + width) ≡ b
      → gallop keys key n lo width
      ≡ elim b [ Less ↦ gallop keys key n (lo + width) (width * 2) | Equal ↦ lo + width | Greater ↦ bisect keys key (length keys) (lo + 1) (lo + width) ]
  gallop-within lo width z m b q =
      gallop_step keys key n lo width (omega (arith, length_keys laid)) z (omega (arith, length_keys laid)) b q

  pub gallop_step_keys : (lo width : ℕ) → 0 < width → lo + width < n → (b : Ordering) → stands_to keys key (lo + width) ≡ b
      → gallop keys key n lo width ≡ elim b [ Less ↦ gallop keys key n (lo + width) (width * 2) | Equal ↦ lo + width | Greater ↦ bisect keys key n (lo + 1) (lo + width) ]
  gallop_step_keys lo width z m Less q = gallop-within lo width z m Less q
  gallop_step_keys lo width z m Equal q = gallop-within lo width z m Equal q
  gallop_step_keys lo width z m Greater q = rw (length_keys laid) at (gallop-within lo width z m Greater q)

  seek-within : (hint : ℕ) → hint < n → (b : Ordering) → stands_to keys key hint ≡ b
      → seek keys key hint ≡ elim b [ Less ↦ gallop keys key (length keys) hint 1 | Equal ↦ hint | Greater ↦ bisect keys key (length keys) 0 hint ]
  seek-within hint l b q = seek_step keys key hint (omega (arith, length_keys laid)) b q

  pub seek_step_keys : (hint : ℕ) → hint < n → (b : Ordering) → stands_to keys key hint ≡ b
      → seek keys key hint ≡ elim b [ Less ↦ gallop keys key n hint 1 | Equal ↦ hint | Greater ↦ bisect keys key n 0 hint ]
  seek_step_keys hint l Less q = rw (length_keys laid) at (seek-within hint l Less q)
  seek_step_keys hint l Equal q = seek-within hint l Equal q
  seek_step_keys hint l Greater q = rw (length_keys laid) at (seek-within hint l Greater q)

  pub seek_whole_keys : (hint : ℕ) → n ≤ hint → seek keys key hint ≡ bisect keys key n 0 n
  seek_whole_keys hint l = (rw (length_keys laid) at (seek_whole keys key hint)) l
