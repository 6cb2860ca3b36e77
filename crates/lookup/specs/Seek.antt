-- The look-up of a cut among frontiers in ascending order, from a hint: it gallops up from the hint, or goes down from
-- it, and then halves what is left. It ends where the cut stands; where it stands nowhere, at the number of the
-- frontiers.
use Rattle.std.specs.Prelude.{ℕ, zero, suc, ◌+◌, ◌-◌, ◌*◌, ◌/◌, true, false, cond, List, [], map, ltb, length, get_or}
use Rattle.lookup.specs.Order.{before, same}
use Rattle.frontiers.specs.declared.Frontier.{Frontier}
use Rattle.std.specs.declared.cmp.Ordering.{Ordering}
use Rattle.std.specs.declared.cmp.Ordering.TheVariants.{Less, Equal, Greater}

-- How counts stand to a key: the same, or before it or after it in the order of frontiers.
unfoldable pub standing : (counts key : List ℕ) → Ordering
standing counts key = cond (same counts key) Equal (cond (before counts key) Less Greater)

-- How the key at a place stands to the one sought.
abbrev pub stands_to : (keys : List (List ℕ)) (key : List ℕ) (i : ℕ) → Ordering
stands_to keys key i = standing (get_or keys i []) key

-- The place from lo on and below hi at which the key stands, by halving; at most d times.
unfoldable pub bisect : (keys : List (List ℕ)) (key : List ℕ) (n lo hi : ℕ) → ℕ
bisect keys key zero lo hi = length keys
bisect keys key (suc d) lo hi =
    let middle = lo + (hi - lo) / 2 in
    elim (ltb lo hi) [
      | false ↦ length keys
      | true ↦ elim (stands_to keys key middle) [ Less ↦ bisect keys key d (middle + 1) hi | Equal ↦ middle | Greater ↦ bisect keys key d lo middle ]
    ]

-- The same after lo, by steps that double; at most d of them.
unfoldable pub gallop : (keys : List (List ℕ)) (key : List ℕ) (n lo width : ℕ) → ℕ
gallop keys key zero lo width = length keys
gallop keys key (suc d) lo width =
    let far = lo + width in
    elim (ltb far (length keys)) [
      | false ↦ bisect keys key (length keys) (lo + 1) (length keys)
      | true ↦ elim (stands_to keys key far) [
        | Less ↦ gallop keys key d far (width * 2)
        | Equal ↦ far
        | Greater ↦ bisect keys key (length keys) (lo + 1) far
      ]
    ]

-- The place at which a key stands; the number of keys if it stands nowhere.
unfoldable pub seek : (keys : List (List ℕ)) (key : List ℕ) (hint : ℕ) → ℕ
seek keys key hint =
    elim (ltb hint (length keys)) [
      | false ↦ bisect keys key (length keys) 0 (length keys)
      | true ↦ elim (stands_to keys key hint) [
        | Less ↦ gallop keys key (length keys) hint 1
        | Equal ↦ hint
        | Greater ↦ bisect keys key (length keys) 0 hint
      ]
    ]

-- The counts of frontiers, by which they are sought.
abbrev pub keys_of : (laid : List Frontier) → List (List ℕ)
keys_of laid = map (λ f. f.counts) laid
