-- An even sharing keeps the most: an event moved from a process that has two more than another makes the two alike or
-- nearer, and what is kept does not fall; sharings in which no two differ by two all keep the same.
use Prim.Native.Nat.{ℕ, zero, suc, ◌+◌, ◌-◌, ◌*◌, ◌^◌, ◌/◌, ◌%◌, ◌≤◌, ◌<◌}
use Rattle.std.proofs.Common.{add_assoc, mul-add, suc-mul, mul-suc, mul_comm, mul_assoc, mul_left_comm, mul-le-mul_right, mod-lt, sym, ap, ◌∙◌, inl, inr}
use Rattle.std.proofs.Math.Nat.{pow-zero, pow-succ', le_trans, div-add-mod}
use Rattle.std.proofs.Math.Decide.{dec_lt}
use native.Mathlib.Omega.{arith}
use Rattle.std.specs.Prelude.{◌≡◌, refl, ◌⊎◌, length}
use mathlib.Core.List.{List, [], ◌∷◌, map}
use Rattle.clocks.specs.Counts.{list_of}
use Rattle.clocks.specs.stored.CountsLaws.{length-list_of}
use Rattle.call_busiest.specs.Sharing.{evenly, shares, total, product, sharing_keeps}
use Rattle.call_busiest.specs.SharingLaws.{kept_sum, kept_first, evenly_least, evenly_most, total-shares}
use Rattle.sharing_laws.specs.SharingExact.{KeptIsProducts, EvenIsBest}
use Rattle.sharing_laws.specs.Picked.{Picked, picked_length, picked_total, far, far_all, All, AtLeast, AtMost, some_above, some_below, most_total, least_total, Two, two, two_swap}

-- ---- An event moved

-- From a process that has x + 1 to one that has y, which is less.
moved_kept : (x y : ℕ) (zs : List ℕ) → y ≤ x → sharing_keeps (suc x ∷ y ∷ zs) ≤ sharing_keeps (x ∷ suc y ∷ zs)
unfolding product
moved_kept x y zs l =
    let K = sharing_keeps zs in
    let P = product zs in
    omega (
      arith,
      kept_first (suc x) (y ∷ zs),
      ap (λ (a : ℕ). suc (suc x) * a) (kept_first y zs),
      suc-mul (suc x) (suc y * K + P),
      kept_first x (suc y ∷ zs),
      ap (λ (a : ℕ). suc x * a) (kept_first (suc y) zs),
      ap (λ (a : ℕ). suc x * (a + P)) (suc-mul (suc y) K),
      split (suc x) (suc y * K) K P,
      suc-mul y P,
      mul-le-mul_right {m = suc y} {n = suc x} K (omega arith),
    )
  where
    split : (n a b c : ℕ) → n * (a + b + c) ≡ n * (a + c) + n * b
    split n a b c =
        let e : a + b + c ≡ a + c + b = omega arith in
        rw e (mul-add n (a + c) b)

-- More events of the first process.
raised_kept : (c d : ℕ) (cs : List ℕ) → sharing_keeps (c ∷ cs) ≤ sharing_keeps ((c + d) ∷ cs)
raised_kept c d cs =
    omega (
      arith,
      kept_first c cs,
      kept_first (c + d) cs,
      mul-le-mul_right {m = suc c} {n = suc (c + d)} (sharing_keeps cs) (omega arith),
    )

-- One event less, or one more, and the number is nearer or as near.
far_down : (q x : ℕ) → suc q < x → far q (x - 1) + 1 ≡ far q x
far_down q x l = omega arith

down_most : (q x : ℕ) → q < x → far q (x - 1) ≤ far q x
down_most q x l = omega arith

far_up : (q y : ℕ) → y < q → far q (suc y) + 1 ≡ far q y
far_up q y l = omega arith

up_most : (q y : ℕ) → y ≤ q → far q (suc y) ≤ far q y
up_most q y l = omega arith

nearer_by : (a b c d e f g : ℕ) → f ≡ c + d + e → g ≡ a + b + e → a + b < c + d → g < f
nearer_by a b c d e f g h i l = omega arith

-- ---- No two that differ by two

-- So many have q + 1, and so many q.
record Level (q : ℕ) (xs : List ℕ) : Type 0 where
  high : ℕ
  low : ℕ
  all : length xs ≡ high + low
  sum : total xs ≡ q * length xs + high
  products : product xs ≡ suc q ^ high * q ^ low
  raised : product (map suc xs) ≡ suc (suc q) ^ high * suc q ^ low

level : (q : ℕ) (xs : List ℕ) → All (AtLeast q) xs → All (AtMost (suc q)) xs → Level q xs
unfolding total product
level q [] a b = record {
  high = 0;
  low = 0;
  all = refl;
  sum = omega (arith, mul_comm q 0);
  products = rw (pow-zero (suc q), pow-zero q);
  raised = rw (pow-zero (suc (suc q)), pow-zero (suc q));
}
level q (x ∷ xs) a b = go (dec_lt q x) (level q xs a.1 b.1)
  where
    go : Dec (q < x) → Level q xs → Level q (x ∷ xs)
    go (yes l) r =
        let e : x ≡ suc q = omega (arith, b.0) in
        record {
          high = suc r.high;
          low = r.low;
          all = omega (arith, r.all);
          sum = omega (arith, e, r.sum, mul-suc q (length xs));
          products =
              rw (e, r.products, pow-succ' (suc q) r.high) (sym (mul_assoc (suc q) (suc q ^ r.high) (q ^ r.low)));
          raised =
              rw (e, r.raised, pow-succ' (suc (suc q)) r.high)
              (sym (mul_assoc (suc (suc q)) (suc (suc q) ^ r.high) (suc q ^ r.low)));
        }
    go (no l) r =
        let e : x ≡ q = omega (arith, a.0) in
        record {
          high = r.high;
          low = suc r.low;
          all = omega (arith, r.all);
          sum = omega (arith, e, r.sum, mul-suc q (length xs));
          products =
              rw (e, r.products, pow-succ' q r.low) (mul_left_comm q (suc q ^ r.high) (q ^ r.low));
          raised =
              rw (e, r.raised, pow-succ' (suc q) r.low)
              (mul_left_comm (suc q) (suc (suc q) ^ r.high) (suc q ^ r.low));
        }

level_kept : (q : ℕ) (xs ys : List ℕ) → Level q xs → Level q ys → length xs ≡ length ys → total xs ≡ total ys
    → sharing_keeps xs ≡ sharing_keeps ys
level_kept q xs ys a b long same =
    let h : a.high ≡ b.high =
    omega (arith, a.sum, b.sum, ap (λ (n : ℕ). q * n) long) in
    let l : a.low ≡ b.low = omega (arith, a.all, b.all, h) in
    let P : product xs ≡ product ys = a.products ∙ rw (h, l) (sym b.products) in
    let R : product (map suc xs) ≡ product (map suc ys) = a.raised ∙ rw (h, l) (sym b.raised) in
    omega (arith, kept_sum xs, kept_sum ys, P, R)

-- ---- An even sharing is such a one

all_of : (P : ℕ → Type 0) (k : ℕ) (f : ℕ → ℕ) → ((p : ℕ) → P (f p)) → All P (list_of k f)
unfolding list_of
all_of P zero f h = tt
all_of P (suc k) f h = (h 0, all_of P k (λ p. f (suc p)) (λ p. h (suc p)))

shares_level : (k n : ℕ) → Level (n / k) (shares k n)
shares_level k n =
    let q = n / k in
    level q (shares k n) (all_of (AtLeast q) k (evenly q (n % k)) (evenly_least q (n % k)))
    (all_of (AtMost (suc q)) k (evenly q (n % k)) (evenly_most q (n % k)))

-- ---- Any sharing, by its distance from an even one

module _ (k n : ℕ) (some : 0 < k) where
  abbrev q : ℕ
  q = n / k

  -- Each process has q at least, if all have as many as that; not all have q + 1.
  enough : q * k ≤ n
  enough = omega (arith, div-add-mod n k, mul_comm q k)

  not-all : n < q * k + k
  not-all = let part : n % k < k = mod-lt n some in omega (arith, div-add-mod n k, mul_comm q k)

  module _ (cs : List ℕ) (long : length cs ≡ k) (same : total cs ≡ n)
      (nearer : (ds : List ℕ) → length ds ≡ k → total ds ≡ n → far_all q ds < far_all q cs
      → sharing_keeps ds ≤ sharing_keeps (shares k n))
    where
      -- Two that differ by two are found: one event moved.
      moved : (x y : ℕ) (zs : List ℕ) → Two x y cs zs → y + 2 ≤ x
          → ((suc q < x) × (y ≤ q)) ⊎ ((q < x) × (y < q)) → sharing_keeps cs ≤ sharing_keeps (shares k n)
      unfolding total
      moved x y zs t l h =
          let e : x ≡ suc (x - 1) = omega arith in
          let less : sharing_keeps (x ∷ y ∷ zs) ≤ sharing_keeps ((x - 1) ∷ suc y ∷ zs) =
          rw (ap (λ (a : ℕ). sharing_keeps (a ∷ y ∷ zs)) e) (moved_kept (x - 1) y zs (omega arith)) in
          let best = nearer ((x - 1) ∷ suc y ∷ zs) (omega (arith, t.long)) fits (near h) in
          omega (arith, t.kept)
        where
          fits : total ((x - 1) ∷ suc y ∷ zs) ≡ n
          fits = omega (arith, t.sum)

          by : far q (x - 1) + far q (suc y) < far q x + far q y → far_all q ((x - 1) ∷ suc y ∷ zs) < far_all q cs
          by l = nearer_by _ _ _ _ _ _ _ (t.distance q) sum l
            where
              sum : far_all q ((x - 1) ∷ suc y ∷ zs) ≡ far q (x - 1) + far q (suc y) + far_all q zs
              sum = sym (add_assoc (far q (x - 1)) (far q (suc y)) (far_all q zs))

          near : ((suc q < x) × (y ≤ q)) ⊎ ((q < x) × (y < q)) → far_all q ((x - 1) ∷ suc y ∷ zs) < far_all q cs
          near (inl a) = by (omega (arith, far_down q x a.0, up_most q y a.1))
          near (inr a) = by (omega (arith, down_most q x a.0, far_up q y a.1))

      turn : sharing_keeps cs ≤ sharing_keeps (shares k n)
      turn = go (some_above (suc q) cs)
        where
          -- x is above q + 1: not all the others are, too
          high : (x : ℕ) (ys : List ℕ) → Picked x cs ys → suc q < x
              → ((y : ℕ) × (zs : List ℕ) × Picked y ys zs × (y < suc q)) ⊎ All (AtLeast (suc q)) ys
              → sharing_keeps cs ≤ sharing_keeps (shares k n)
          high x ys p l (inl (y, zs, r, m)) =
              moved x y zs (two x y cs ys zs p r) (omega arith) (inl (l, omega arith))
          high x ys p l (inr all) =
              absurd (omega (
                arith,
                not-all,
                least_total (suc q) ys all,
                picked_total x cs ys p,
                picked_length x cs ys p,
                suc-mul q (length ys),
                ap (λ (a : ℕ). q * a) (sym long ∙ picked_length x cs ys p),
                mul-suc q (length ys),
              ))

          -- y is below q: not all the others are at most q
          low : (y : ℕ) (ys : List ℕ) → Picked y cs ys → y < q
              → ((x : ℕ) × (zs : List ℕ) × Picked x ys zs × (q < x)) ⊎ All (AtMost q) ys
              → sharing_keeps cs ≤ sharing_keeps (shares k n)
          low y ys p l (inl (x, zs, r, m)) =
              moved x y zs (two_swap y x cs zs (two y x cs ys zs p r)) (omega arith) (inr (m, l))
          low y ys p l (inr all) =
              absurd (omega (
                arith,
                enough,
                most_total q ys all,
                picked_total y cs ys p,
                ap (λ (a : ℕ). q * a) (sym long ∙ picked_length y cs ys p),
                mul-suc q (length ys),
              ))

          flat : All (AtMost (suc q)) cs
              → ((y : ℕ) × (ys : List ℕ) × Picked y cs ys × (y < q)) ⊎ All (AtLeast q) cs
              → sharing_keeps cs ≤ sharing_keeps (shares k n)
          flat most (inl (y, ys, p, l)) = low y ys p l (some_above q ys)
          flat most (inr least) =
              omega (
                arith,
                level_kept q cs (shares k n) (level q cs least most) (shares_level k n)
                    (long ∙ sym (length-list_of k (evenly q (n % k)))) (same ∙ sym (total-shares k n some)),
              )

          go : ((x : ℕ) × (ys : List ℕ) × Picked x cs ys × (suc q < x)) ⊎ All (AtMost (suc q)) cs
              → sharing_keeps cs ≤ sharing_keeps (shares k n)
          go (inl (x, ys, p, l)) = high x ys p l (some_below (suc q) ys)
          go (inr most) = flat most (some_below q cs)

  -- By induction on the distance.
  best_near : (fuel : ℕ) (cs : List ℕ) → length cs ≡ k → total cs ≡ n → far_all q cs ≤ fuel
      → sharing_keeps cs ≤ sharing_keeps (shares k n)
  best_near zero cs long same near = turn cs long same (λ ds a b l. absurd (omega arith))
  best_near (suc fuel) cs long same near = turn cs long same (λ ds a b l. best_near fuel ds a b (omega arith))

  best_of : (cs : List ℕ) → length cs ≡ k → total cs ≤ n → sharing_keeps cs ≤ sharing_keeps (shares k n)
  unfolding total
  best_of [] long few = absurd (omega arith)
  best_of (c ∷ cs) long few =
      let d = n - total (c ∷ cs) in
      let full : total ((c + d) ∷ cs) ≡ n = omega arith in
      le_trans (raised_kept c d cs) (best_near (far_all q ((c + d) ∷ cs)) ((c + d) ∷ cs) long full (omega arith))

-- ---- Theorems

pub kept_is_products : KeptIsProducts
kept_is_products = kept_sum

pub even_is_best : EvenIsBest
even_is_best k n some = record {
  of_processes = length-list_of k (evenly (n / k) (n % k));
  of_events = total-shares k n some;
  best = best_of k n some;
}
