-- The merge has the elements of both lists, and merges sorted lists without a common key into a sorted one.
use Rattle.std.specs.Prelude.{ℕ, ◌≡◌, Bool, cond, ◌⊎◌}
use Rattle.std.proofs.Math.Path.{refl}
use Rattle.std.proofs.Math.Bool.{true, false}
use mathlib.Core.List.Memᴰ
use mathlib.Core.List.{List, [], ◌∷◌, ◌++◌, map, Memᴰ}
use Rattle.std.proofs.Math.Logic.{inl, inr, ⊎_elim}
use Rattle.std.proofs.Math.Dec.{T}
use Rattle.clocks.specs.cuts.EventLaws.{true-T}
use Rattle.window.specs.Step.{filtered, merge_into, merge}
use Rattle.window_laws.specs.FrontierOf.{SortedBy}
use Rattle.lookup.specs.Order.{before}
use Rattle.lookup.specs.OrderLaws.{before_trans}
use Rattle.window.specs.Lists.{filtered_e, mapped_e}

module _ {A : Type 0} (key : A → List ℕ) where
  -- ---- members
  into_member : (x : A) (xs : List A) (rest : List A → List A) → ((ys : List A) (z : A) → Memᴰ z (rest ys) → Memᴰ z xs ⊎ Memᴰ z ys)
      → (ys : List A) (z : A) → Memᴰ z (merge_into key x rest ys) → Memᴰ z (x ∷ xs) ⊎ Memᴰ z ys
  unfolding merge_into
  into_member x xs rest r [] z m = ⊎_elim (λ q. inl (Memᴰ.head q)) (λ k. ⊎_elim (λ j. inl (Memᴰ.tail j)) (λ j. inr j) (r [] z k)) (Memᴰ.cases_cons m)
  into_member x xs rest r (y ∷ ys) z m = go (before (key y) (key x)) m (into_member x xs rest r ys z)
    where
      go : (b : Bool) → Memᴰ z (cond b (y ∷ merge_into key x rest ys) (x ∷ rest (y ∷ ys))) → (Memᴰ z (merge_into key x rest ys) → Memᴰ z (x ∷ xs) ⊎ Memᴰ z ys)
          → Memᴰ z (x ∷ xs) ⊎ Memᴰ z (y ∷ ys)
      go true m i = ⊎_elim (λ q. inr (Memᴰ.head q)) (λ k. ⊎_elim (λ j. inl j) (λ j. inr (Memᴰ.tail j)) (i k)) (Memᴰ.cases_cons m)
      go false m i = ⊎_elim (λ q. inl (Memᴰ.head q)) (λ k. ⊎_elim (λ j. inl (Memᴰ.tail j)) (λ j. inr j) (r (y ∷ ys) z k)) (Memᴰ.cases_cons m)

  pub merge_e : (xs ys : List A) (z : A) → Memᴰ z (merge key xs ys) → Memᴰ z xs ⊎ Memᴰ z ys
  unfolding merge
  merge_e [] ys z m = inr m
  merge_e (x ∷ xs) ys z m = into_member x xs (merge key xs) (merge_e xs) ys z m

  into_has : (x : A) (xs : List A) (rest : List A → List A) → ((ys : List A) (z : A) → Memᴰ z xs ⊎ Memᴰ z ys → Memᴰ z (rest ys))
      → (ys : List A) (z : A) → Memᴰ z (x ∷ xs) ⊎ Memᴰ z ys → Memᴰ z (merge_into key x rest ys)
  unfolding merge_into
  into_has x xs rest r [] z (inl m) = ⊎_elim Memᴰ.head (λ k. Memᴰ.tail (r [] z (inl k))) (Memᴰ.cases_cons m)
  into_has x xs rest r [] z (inr m) = absurd (Memᴰ.not-nil m)
  into_has x xs rest r (y ∷ ys) z m = go (before (key y) (key x)) m (into_has x xs rest r ys z)
    where
      go : (b : Bool) → Memᴰ z (x ∷ xs) ⊎ Memᴰ z (y ∷ ys) → (Memᴰ z (x ∷ xs) ⊎ Memᴰ z ys → Memᴰ z (merge_into key x rest ys))
          → Memᴰ z (cond b (y ∷ merge_into key x rest ys) (x ∷ rest (y ∷ ys)))
      go true (inl k) i = Memᴰ.tail (i (inl k))
      go true (inr k) i = ⊎_elim Memᴰ.head (λ j. Memᴰ.tail (i (inr j))) (Memᴰ.cases_cons k)
      go false (inl k) i = ⊎_elim Memᴰ.head (λ j. Memᴰ.tail (r (y ∷ ys) z (inl j))) (Memᴰ.cases_cons k)
      go false (inr k) i = Memᴰ.tail (r (y ∷ ys) z (inr k))

  pub merge_i : (xs ys : List A) (z : A) → Memᴰ z xs ⊎ Memᴰ z ys → Memᴰ z (merge key xs ys)
  unfolding merge
  merge_i [] ys z (inl m) = absurd (Memᴰ.not-nil m)
  merge_i [] ys z (inr m) = m
  merge_i (x ∷ xs) ys z m = into_has x xs (merge key xs) (merge_i xs) ys z m

  -- ---- order
  -- of an x of the first list and a y of the second one stands before the other
  abbrev pub Apart : List A → List A → Type 0
  Apart xs ys = (x y : A) → Memᴰ x xs → Memᴰ y ys → before (key y) (key x) ≡ false → T (before (key x) (key y))

  into_sorted : (x : A) (xs : List A) → ((z : A) → Memᴰ z xs → T (before (key x) (key z))) → (rest : List A → List A)
      → ((ys : List A) (z : A) → Memᴰ z (rest ys) → Memᴰ z xs ⊎ Memᴰ z ys)
      → ((ys : List A) → SortedBy key ys → Apart xs ys → SortedBy key (rest ys))
      → (ys : List A) → SortedBy key ys → Apart (x ∷ xs) ys → SortedBy key (merge_into key x rest ys)
  unfolding merge_into
  into_sorted x xs h rest r s [] o a = ((λ z m. ⊎_elim (h z) (λ k. absurd (Memᴰ.not-nil k)) (r [] z m)), s [] tt (λ u v m n. absurd (Memᴰ.not-nil n)))
  into_sorted x xs h rest r s (y ∷ ys) o a =
      go (before (key y) (key x)) refl (into_sorted x xs h rest r s ys o.1 (λ u v m n. a u v m (Memᴰ.tail n)))
    where
      go : (b : Bool) → before (key y) (key x) ≡ b → SortedBy key (merge_into key x rest ys) → SortedBy key (cond b (y ∷ merge_into key x rest ys) (x ∷ rest (y ∷ ys)))
      go true e i = (first, i)
        where
          yx : T (before (key y) (key x))
          yx = true-T e

          first : (z : A) → Memᴰ z (merge_into key x rest ys) → T (before (key y) (key z))
          first z m = ⊎_elim
              (λ k. ⊎_elim (λ q. rw q yx) (λ j. before_trans (key y) (key x) (key z) yx (h z j)) (Memᴰ.cases_cons k))
              (o.0 z)
              (into_member x xs rest r ys z m)
      go false e i = (first, s (y ∷ ys) o (λ u v m n. a u v (Memᴰ.tail m) n))
        where
          xy : T (before (key x) (key y))
          xy = a x y (Memᴰ.head refl) (Memᴰ.head refl) e

          first : (z : A) → Memᴰ z (rest (y ∷ ys)) → T (before (key x) (key z))
          first z m = ⊎_elim (h z)
              (λ k. ⊎_elim (λ q. rw q xy) (λ j. before_trans (key x) (key y) (key z) xy (o.0 z j)) (Memᴰ.cases_cons k))
              (r (y ∷ ys) z m)

  pub merge_sorted : (xs ys : List A) → SortedBy key xs → SortedBy key ys → Apart xs ys → SortedBy key (merge key xs ys)
  unfolding merge
  merge_sorted [] ys s o a = o
  merge_sorted (x ∷ xs) ys s o a = into_sorted x xs s.0 (merge key xs) (merge_e xs) (λ zs p q. merge_sorted xs zs s.1 p q) ys o a

-- ---- a merge of mapped lists maps the merge
into_map : {A B : Type 0} (f : A → B) (key : B → List ℕ) (x : A) (rest : List A → List A) (rest' : List B → List B) → ((ys : List A) → rest' (map f ys) ≡ map f (rest ys))
    → (ys : List A) → merge_into key (f x) rest' (map f ys) ≡ map f (merge_into (λ a. key (f a)) x rest ys)
unfolding merge_into
into_map f key x rest rest' r [] = rw (r [])
into_map f key x rest rest' r (y ∷ ys) = go (before (key (f y)) (key (f x))) (into_map f key x rest rest' r ys)
  where
    go : (b : Bool) → merge_into key (f x) rest' (map f ys) ≡ map f (merge_into (λ a. key (f a)) x rest ys)
        → cond b (f y ∷ merge_into key (f x) rest' (map f ys)) (f x ∷ rest' (f y ∷ map f ys)) ≡ map f (cond b (y ∷ merge_into (λ a. key (f a)) x rest ys) (x ∷ rest (y ∷ ys)))
    go true i = rw i
    go false i = rw (r (y ∷ ys))

pub merge-map : {A B : Type 0} (f : A → B) (key : B → List ℕ) (xs ys : List A) → merge key (map f xs) (map f ys) ≡ map f (merge (λ a. key (f a)) xs ys)
unfolding merge
merge-map f key [] ys = refl
merge-map f key (x ∷ xs) ys = into_map f key x (merge (λ a. key (f a)) xs) (merge key (map f xs)) (merge-map f key xs) ys

-- ---- sorted lists in pieces
pub sorted_front : {A : Type 0} (key : A → List ℕ) (xs ys : List A) → SortedBy key (xs ++ ys) → SortedBy key xs
sorted_front key [] ys s = tt
sorted_front key (x ∷ xs) ys s = ((λ z m. s.0 z (Memᴰ.append_left ys m)), sorted_front key xs ys s.1)

pub sorted_back : {A : Type 0} (key : A → List ℕ) (xs ys : List A) → SortedBy key (xs ++ ys) → SortedBy key ys
sorted_back key [] ys s = s
sorted_back key (x ∷ xs) ys s = sorted_back key xs ys s.1

pub sorted_filtered : {A : Type 0} (key : A → List ℕ) (t : A → Bool) (xs : List A) → SortedBy key xs → SortedBy key (filtered t xs)
unfolding filtered
sorted_filtered key t [] s = tt
sorted_filtered {A} key t (x ∷ xs) s = go (t x) (sorted_filtered key t xs s.1)
  where
    go : (b : Bool) → SortedBy key (filtered t xs) → SortedBy key (cond b (x ∷ filtered t xs) (filtered t xs))
    go true r = ((λ z m. s.0 z (filtered_e t xs z m).0), r)
    go false r = r

-- keys mapped along another list
pub sorted_map : {A B : Type 0} (key : A → List ℕ) (key' : B → List ℕ) (f : A → B) (xs : List A)
    → ((x y : A) → Memᴰ x xs → Memᴰ y xs → T (before (key x) (key y)) → T (before (key' (f x)) (key' (f y))))
    → SortedBy key xs → SortedBy key' (map f xs)
sorted_map key key' f [] h s = tt
sorted_map {A} {B} key key' f (x ∷ xs) h s = ((λ z m. go z (mapped_e f xs z m)), sorted_map key key' f xs (λ u v a b. h u v (Memᴰ.tail a) (Memᴰ.tail b)) s.1)
  where
    go : (z : B) → (y : A) × Memᴰ y xs × (z ≡ f y) → T (before (key' (f x)) (key' z))
    go z w = rw w.2 (h x w.0 (Memᴰ.head refl) (Memᴰ.tail w.1) (s.0 w.0 w.1))
