-- Events shared among processes, and how many frontiers they keep (02 [8]). A sharing is how many events each process
-- has, process 0 first.
use Rattle.std.specs.Prelude.{ℕ, suc, ◌+◌, ◌-◌, ◌*◌, ◌/◌, ◌%◌, List, [], ◌∷◌, map, ltb}
use Rattle.clocks.specs.Event.{one}
use Rattle.clocks.specs.Counts.{list_of}

-- ---- Shared evenly

-- What process p has where each has so many, and the first ones, so many of them, one more.
unfoldable pub evenly : (each more p : ℕ) → ℕ
evenly each more p = each + one (ltb p more)

-- What process p has of n events that k processes share evenly: the first n mod k have one more.
abbrev pub share : (k n p : ℕ) → ℕ
share k n p = evenly (n / k) (n % k) p

abbrev pub shares : (k n : ℕ) → List ℕ
shares k n = list_of k (share k n)

-- ---- What a sharing keeps

-- How many events there are.
unfoldable pub total : (xs : List ℕ) → ℕ
total [] = 0
total (c ∷ cs) = c + total cs

unfoldable pub product : (xs : List ℕ) → ℕ
product [] = 1
product (c ∷ cs) = c * product cs

-- How many frontiers: the product of all n(p) + 1 less the product of all n(p). (The second is never the larger one:
-- SharingExact.)
unfoldable pub sharing_keeps : (cs : List ℕ) → ℕ
sharing_keeps cs = product (map suc cs) - product cs
