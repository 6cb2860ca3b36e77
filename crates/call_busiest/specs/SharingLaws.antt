-- Products and sums of a sharing, one process at a time: the frontiers kept are a product less another that is never
-- larger, they grow with each process, and an even sharing shares out every event.
use Rattle.std.specs.Prelude.{ℕ, zero, suc, ◌+◌, ◌-◌, ◌*◌, ◌/◌, ◌%◌, ◌≤◌, ◌<◌, min, ◌≡◌, refl, Bool, true, false, List, [], ◌∷◌, ◌++◌, map, ltb}
use Rattle.std.proofs.Common.{mul-add, add-mul, suc-mul, mul-suc, mul_assoc, mul-one, one-mul, zero-mul, zero-add, suc-add, mul-le-mul, mod-lt, arith, sym, ap, ltb-true, ltb-false}
use Rattle.std.proofs.Math.Nat.{div-add-mod}
use Rattle.std.proofs.lemmas.List.{map-append}
use Rattle.clocks.specs.Event.{one}
use Rattle.clocks.specs.Counts.{list_of}
use Rattle.frontiers.specs.ListLaws.{list_of_more}
use Rattle.call_busiest.specs.Sharing.{evenly, shares, total, product, sharing_keeps}

-- ---- Products

product_le : (cs : List ℕ) → product cs ≤ product (map suc cs)
unfolding product
product_le [] = omega arith
product_le (c ∷ cs) = mul-le-mul (omega arith) (product_le cs)

product-append : (cs ds : List ℕ) → product (cs ++ ds) ≡ product cs * product ds
unfolding product
product-append [] ds = sym (one-mul (product ds))
product-append (c ∷ cs) ds = rw (product-append cs ds) (sym (mul_assoc c (product cs) (product ds)))

product-one : (c : ℕ) → product (c ∷ []) ≡ c
unfolding product
product-one c = mul-one c

-- ---- Frontiers kept

-- The formula without its subtraction.
pub kept_sum : (cs : List ℕ) → sharing_keeps cs + product cs ≡ product (map suc cs)
unfolding sharing_keeps
kept_sum cs = omega (arith, product_le cs)

-- One process more, at the front: its count is not reached, and another process is complete; or it is, and the others
-- are at any cut.
pub kept_first : (c : ℕ) (cs : List ℕ) → sharing_keeps (c ∷ cs) ≡ suc c * sharing_keeps cs + product cs
unfolding product
kept_first c cs =
    let K = sharing_keeps cs in
    let P = product cs in
    omega (
      arith,
      kept_sum (c ∷ cs),
      ap (λ (x : ℕ). suc c * x) (kept_sum cs),
      mul-add (suc c) K P,
      suc-mul c P,
    )

-- and at the end.
kept_last : (cs : List ℕ) (c : ℕ) → sharing_keeps (cs ++ (c ∷ [])) ≡ sharing_keeps cs * suc c + product cs
kept_last cs c =
    let all : product (map suc (cs ++ (c ∷ []))) ≡ product (map suc cs) * suc c =
    rw (map-append suc cs (c ∷ []), product-append (map suc cs) (suc c ∷ []), product-one (suc c)) in
    omega (
      arith,
      kept_sum (cs ++ (c ∷ [])),
      all,
      product-last,
      ap (λ (x : ℕ). x * suc c) (kept_sum cs),
      add-mul-suc,
    )
  where
    product-last : product (cs ++ (c ∷ [])) ≡ product cs * c
    product-last = rw (product-append cs (c ∷ []), product-one c)

    add-mul-suc : (sharing_keeps cs + product cs) * suc c ≡ sharing_keeps cs * suc c + (product cs * c + product cs)
    add-mul-suc = rw (add-mul (sharing_keeps cs) (product cs) (suc c), mul-suc (product cs) c)

-- ---- Sums

total-last : (cs : List ℕ) (c : ℕ) → total (cs ++ (c ∷ [])) ≡ total cs + c
unfolding total
total-last [] c = omega arith
total-last (x ∷ cs) c = omega (arith, total-last cs c)

-- ---- The first processes of a sharing

module _ (f : ℕ → ℕ) where
  -- One process more.
  pub kept_next : (p : ℕ)
      → sharing_keeps (list_of (suc p) f) ≡ sharing_keeps (list_of p f) * suc (f p) + product (list_of p f)
  kept_next p = rw (list_of_more p f) (kept_last (list_of p f) (f p))

  pub product_next : (p : ℕ) → product (list_of (suc p) f) ≡ product (list_of p f) * f p
  product_next p =
      rw (list_of_more p f, product-append (list_of p f) (f p ∷ []), product-one (f p))

  pub total_next : (p : ℕ) → total (list_of (suc p) f) ≡ total (list_of p f) + f p
  total_next p = rw (list_of_more p f) (total-last (list_of p f) (f p))

  -- Fewer processes keep no more, and have no more events.
  pub kept_grows : (p more : ℕ) → sharing_keeps (list_of p f) ≤ sharing_keeps (list_of (more + p) f)
  kept_grows p zero = rw zero-add (omega arith)
  kept_grows p (suc more) =
      rw suc-add
      (omega (
        arith,
        kept_grows p more,
        kept_next (more + p),
        mul-suc (sharing_keeps (list_of (more + p) f)) (f (more + p)),
      ))

  total_grows : (p more : ℕ) → total (list_of p f) ≤ total (list_of (more + p) f)
  total_grows p zero = rw zero-add (omega arith)
  total_grows p (suc more) = rw suc-add (omega (arith, total_grows p more, total_next (more + p)))

  -- The events of one process are among all.
  pub share-within : (p k : ℕ) → p < k → total (list_of p f) + f p ≤ total (list_of k f)
  share-within p k l =
      let all : k - suc p + suc p ≡ k = omega arith in
      let more : total (list_of (suc p) f) ≤ total (list_of k f) = rw all at (total_grows (suc p) (k - suc p)) in
      omega (arith, total_next p)

-- ---- Shared evenly

one_most : (b : Bool) → one b ≤ 1
one_most true = omega arith
one_most false = omega arith

pub evenly_least : (each more p : ℕ) → each ≤ evenly each more p
unfolding evenly
evenly_least each more p = omega arith

pub evenly_most : (each more p : ℕ) → evenly each more p ≤ suc each
unfolding evenly
evenly_most each more p = omega (arith, one_most (ltb p more))

-- So many each, and one more for the first ones that there are.
total-evenly : (each more k : ℕ) → total (list_of k (evenly each more)) ≡ k * each + min k more
unfolding total list_of evenly
total-evenly each more zero = omega (arith, zero-mul each)
total-evenly each more (suc k) = go (ltb k more) refl (total-evenly each more k)
  where
    go : (b : Bool) → ltb k more ≡ b → total (list_of k (evenly each more)) ≡ k * each + min k more
        → total (list_of (suc k) (evenly each more)) ≡ suc k * each + min (suc k) more
    go true h r =
        let here : evenly each more k ≡ each + 1 = rw h in
        omega (arith, r, total_next (evenly each more) k, here, suc-mul k each, ltb-true k more h)
    go false h r =
        let here : evenly each more k ≡ each + 0 = rw h in
        omega (arith, r, total_next (evenly each more) k, here, suc-mul k each, ltb-false k more h)

-- Every event is shared out.
pub total-shares : (k n : ℕ) → 0 < k → total (shares k n) ≡ n
total-shares k n some =
    let part : n % k < k = mod-lt n some in
    omega (arith, total-evenly (n / k) (n % k) k, div-add-mod n k)
