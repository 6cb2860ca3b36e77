-- One process of a sharing picked out: what is kept, the sum and the distance from an even sharing, by it and the
-- others. The order of the processes makes no difference.
use Rattle.std.specs.Prelude.{ℕ, suc, ◌+◌, ◌-◌, ◌*◌, ◌≤◌, ◌<◌, ◌≡◌, refl, List, [], ◌∷◌, ◌⊎◌, length}
use Rattle.std.proofs.Common.{mul-add, suc-mul, mul_left_comm, mul-zero, mul-suc, arith, sym, ap, ◌∙◌, inl, inr}
use Rattle.std.proofs.Math.Decide.{dec_lt}
use Rattle.call_busiest.specs.Sharing.{total, product, sharing_keeps}
use Rattle.call_busiest.specs.SharingLaws.{kept_first}

-- The list is x and the others, x at some place.
pub data Picked (x : ℕ) : List ℕ → List ℕ → Type 0 where
  here : (xs : List ℕ) → Picked x (x ∷ xs) xs
  there : (y : ℕ) (xs zs : List ℕ) → Picked x xs zs → Picked x (y ∷ xs) (y ∷ zs)

-- ---- What does not depend on the place

pub picked_length : (x : ℕ) (xs zs : List ℕ) → Picked x xs zs → length xs ≡ suc (length zs)
picked_length x _ _ (here xs) = refl
picked_length x _ _ (there y xs zs p) = ap suc (picked_length x xs zs p)

pub picked_total : (x : ℕ) (xs zs : List ℕ) → Picked x xs zs → total xs ≡ x + total zs
unfolding total
picked_total x _ _ (here xs) = refl
picked_total x _ _ (there y xs zs p) = omega (arith, picked_total x xs zs p)

pub picked_product : (x : ℕ) (xs zs : List ℕ) → Picked x xs zs → product xs ≡ x * product zs
unfolding product
picked_product x _ _ (here xs) = refl
picked_product x _ _ (there y xs zs p) = rw (picked_product x xs zs p) (mul_left_comm y x (product zs))

pub picked_kept : (x : ℕ) (xs zs : List ℕ) → Picked x xs zs → sharing_keeps xs ≡ suc x * sharing_keeps zs + product zs
unfolding product
picked_kept x _ _ (here xs) = kept_first x xs
picked_kept x _ _ (there y xs zs p) =
    let K = sharing_keeps zs in
    let P = product zs in
    omega (
      arith,
      kept_first y xs,
      kept_first y zs,
      ap (λ (a : ℕ). suc y * a) (picked_kept x xs zs p),
      picked_product x xs zs p,
      ap (λ (a : ℕ). suc x * a) (kept_first y zs),
      mul-add (suc y) (suc x * K) P,
      mul-add (suc x) (suc y * K) P,
      mul_left_comm (suc y) (suc x) K,
      suc-mul y P,
      suc-mul x P,
    )

-- How far a number is from q and q + 1, the nearer of them.
abbrev pub far : ℕ → ℕ → ℕ
far q x = (q - x) + (x - suc q)

abbrev pub far_all : ℕ → List ℕ → ℕ
far_all q [] = 0
far_all q (x ∷ xs) = far q x + far_all q xs

pub picked_far : (q x : ℕ) (xs zs : List ℕ) → Picked x xs zs → far_all q xs ≡ far q x + far_all q zs
picked_far q x _ _ (here xs) = refl
picked_far q x _ _ (there y xs zs p) = omega (arith, picked_far q x xs zs p)

-- ---- One picked by its size

-- What is true of each element.
abbrev pub All : (ℕ → Type 0) → List ℕ → Type 0
All P [] = Unit {0}
All P (x ∷ xs) = P x × All P xs

-- One that is such as is looked for; or each is of the other kind.
pub some-or-all : (P Q : ℕ → Type 0) → ((x : ℕ) → P x ⊎ Q x) → (xs : List ℕ)
    → ((x : ℕ) × (zs : List ℕ) × Picked x xs zs × P x) ⊎ All Q xs
some-or-all P Q test [] = inr tt
some-or-all P Q test (x ∷ xs) = go (test x) (some-or-all P Q test xs)
  where
    go : P x ⊎ Q x → ((y : ℕ) × (zs : List ℕ) × Picked y xs zs × P y) ⊎ All Q xs
        → ((y : ℕ) × (zs : List ℕ) × Picked y (x ∷ xs) zs × P y) ⊎ All Q (x ∷ xs)
    go (inl h) r = inl (x, xs, here xs, h)
    go (inr h) (inl r) = inl (r.0, x ∷ r.1, there x xs r.1 r.2, r.3)
    go (inr h) (inr r) = inr (h, r)

abbrev pub AtLeast : ℕ → ℕ → Type 0
AtLeast b x = b ≤ x

abbrev pub AtMost : ℕ → ℕ → Type 0
AtMost b x = x ≤ b

-- Above b, or at most b.
above : (b x : ℕ) → (b < x) ⊎ (x ≤ b)
above b x = go (dec_lt b x)
  where
    go : Dec (b < x) → (b < x) ⊎ (x ≤ b)
    go (yes l) = inl l
    go (no l) = inr (omega arith)

pub some_above : (b : ℕ) (xs : List ℕ) → ((x : ℕ) × (zs : List ℕ) × Picked x xs zs × (b < x)) ⊎ All (AtMost b) xs
some_above b xs = some-or-all (λ x. b < x) (AtMost b) (above b) xs

pub some_below : (b : ℕ) (xs : List ℕ) → ((x : ℕ) × (zs : List ℕ) × Picked x xs zs × (x < b)) ⊎ All (AtLeast b) xs
some_below b xs = some-or-all (λ x. x < b) (AtLeast b) (λ x. above x b) xs

pub most_total : (b : ℕ) (xs : List ℕ) → All (AtMost b) xs → total xs ≤ b * length xs
unfolding total
most_total b [] h = omega arith
most_total b (x ∷ xs) h = omega (arith, h.0, most_total b xs h.1, mul-suc b (length xs))

pub least_total : (b : ℕ) (xs : List ℕ) → All (AtLeast b) xs → b * length xs ≤ total xs
unfolding total
least_total b [] h = omega (arith, mul-zero b)
least_total b (x ∷ xs) h = omega (arith, h.0, least_total b xs h.1, mul-suc b (length xs))

-- ---- Two of them picked out

-- The list is a, b and the others, as far as what is kept, the sum and the distance go.
pub record Two (a b : ℕ) (xs zs : List ℕ) : Type 0 where
  pub kept : sharing_keeps xs ≡ sharing_keeps (a ∷ b ∷ zs)
  pub long : length xs ≡ suc (suc (length zs))
  pub sum : total xs ≡ a + b + total zs
  pub distance : (q : ℕ) → far_all q xs ≡ far q a + far q b + far_all q zs

pub two : (a b : ℕ) (xs ys zs : List ℕ) → Picked a xs ys → Picked b ys zs → Two a b xs zs
unfolding product
two a b xs ys zs p r = record {
  kept =
      omega (
        arith,
        picked_kept a xs ys p,
        kept_first a (b ∷ zs),
        ap (λ (n : ℕ). suc a * n) (picked_kept b ys zs r ∙ sym (kept_first b zs)),
        picked_product b ys zs r,
      );
  long = picked_length a xs ys p ∙ ap suc (picked_length b ys zs r);
  sum = omega (arith, picked_total a xs ys p, picked_total b ys zs r);
  distance = λ q. omega (arith, picked_far q a xs ys p, picked_far q b ys zs r);
}

pub two_swap : (a b : ℕ) (xs zs : List ℕ) → Two a b xs zs → Two b a xs zs
two_swap a b xs zs t = record {
  kept = t.kept ∙ picked_kept b (a ∷ b ∷ zs) (a ∷ zs) (there a (b ∷ zs) zs (here zs)) ∙ sym (kept_first b (a ∷ zs));
  long = t.long;
  sum = omega (arith, t.sum);
  distance = λ q. omega (arith, t.distance q);
}
