-- Mapped and filtered lists: their members, and how they are made piece by piece.
use Rattle.std.specs.Prelude.{◌≡◌, ℕ, zero, suc, ◌<◌, ◌≤◌, Bool, true, false, cond, T, ◌⊎◌, List, [], ◌∷◌, ◌++◌, map, length, get_or, slice_index_or}
use native.Mathlib.Omega.{arith}
use Rattle.std.proofs.Math.Path.{refl, subst}
use Rattle.std.proofs.Common.{sym, ap, ◌∙◌, inl, inr}
use mathlib.Core.List.Memᴰ
use mathlib.Core.List.{Memᴰ}
use Rattle.std.proofs.Math.Logic.{⊎_elim}
use Rattle.window.specs.Step.{filtered}
use Rattle.clocks.specs.Counts.{list_of}
use Rattle.clocks.specs.stored.CountsLaws.{get_d_list_of}

module _ {A : Type 0} where
  pub filtered_e : (t : A → Bool) (xs : List A) (x : A) → Memᴰ x (filtered t xs) → Memᴰ x xs × T (t x)
  unfolding filtered
  filtered_e t [] x m = absurd (Memᴰ.not-nil m)
  filtered_e t (y ∷ ys) x m = go (t y) refl (filtered_e t ys x) m
    where
      go : (b : Bool) → t y ≡ b → (Memᴰ x (filtered t ys) → Memᴰ x ys × T (t x)) → Memᴰ x (cond b (y ∷ filtered t ys) (filtered t ys)) → Memᴰ x (y ∷ ys) × T (t x)
      go true e r m = ⊎_elim (λ s. (Memᴰ.head s, subst T (sym (ap t s ∙ e)) tt)) (λ k. let w = r k in (Memᴰ.tail w.0, w.1)) (Memᴰ.cases_cons m)
      go false e r m = let w = r m in (Memᴰ.tail w.0, w.1)

  pub filtered_i : (t : A → Bool) (xs : List A) (x : A) → Memᴰ x xs → T (t x) → Memᴰ x (filtered t xs)
  unfolding filtered
  filtered_i t [] x m h = absurd (Memᴰ.not-nil m)
  filtered_i t (y ∷ ys) x m h = go (t y) refl (Memᴰ.cases_cons m) (λ k. filtered_i t ys x k h)
    where
      go : (b : Bool) → t y ≡ b → (x ≡ y) ⊎ Memᴰ x ys → (Memᴰ x ys → Memᴰ x (filtered t ys)) → Memᴰ x (cond b (y ∷ filtered t ys) (filtered t ys))
      go true e (inl s) r = Memᴰ.head s
      go true e (inr k) r = Memᴰ.tail (r k)
      go false e (inl s) r = absurd (subst T (ap t s ∙ e) h)
      go false e (inr k) r = r k

  pub filtered-append : (t : A → Bool) (xs ys : List A) → filtered t (xs ++ ys) ≡ filtered t xs ++ filtered t ys
  unfolding filtered
  filtered-append t [] ys = refl
  filtered-append t (x ∷ xs) ys = go (t x) (filtered-append t xs ys)
    where
      go : (b : Bool) → filtered t (xs ++ ys) ≡ filtered t xs ++ filtered t ys
          → cond b (x ∷ filtered t (xs ++ ys)) (filtered t (xs ++ ys))
          ≡ cond b (x ∷ filtered t xs) (filtered t xs) ++ filtered t ys
      go true e = rw e
      go false e = e

  pub length-filtered : (t : A → Bool) (xs : List A) → length (filtered t xs) ≤ length xs
  unfolding filtered
  length-filtered t [] = omega arith
  length-filtered t (x ∷ xs) = go (t x) (length-filtered t xs)
    where
      go : (b : Bool) → length (filtered t xs) ≤ length xs
          → length (cond b (x ∷ filtered t xs) (filtered t xs)) ≤ length (x ∷ xs)
      go true l = omega arith
      go false l = omega arith

-- a filter of mapped elements maps the filtered ones
pub filtered-map : {A B : Type 0} (f : A → B) (t : B → Bool) (u : A → Bool) (xs : List A) → ((x : A) → Memᴰ x xs → t (f x) ≡ u x) → filtered t (map f xs) ≡ map f (filtered u xs)
unfolding filtered
filtered-map f t u [] h = refl
filtered-map f t u (x ∷ xs) h = go (u x) refl (filtered-map f t u xs (λ y m. h y (Memᴰ.tail m)))
  where
    go : (b : Bool) → u x ≡ b → filtered t (map f xs) ≡ map f (filtered u xs) → cond (t (f x)) (f x ∷ filtered t (map f xs)) (filtered t (map f xs)) ≡ map f (cond (u x) (x ∷ filtered u xs) (filtered u xs))
    go true e r = rw (h x (Memᴰ.head refl), e, r)
    go false e r = rw (h x (Memᴰ.head refl), e, r)

pub map-map : {A B C : Type 0} (g : B → C) (f : A → B) (xs : List A) → map g (map f xs) ≡ map (λ x. g (f x)) xs
map-map g f [] = refl
map-map g f (x ∷ xs) = rw (map-map g f xs)

pub get_d_mapped : {A B : Type 0} (f : A → B) (xs : List A) (i : ℕ) (d : A) (e : B) → i < length xs → slice_index_or (map f xs) i e ≡ f (slice_index_or xs i d)
get_d_mapped f [] i d e l = absurd (omega arith)
get_d_mapped f (x ∷ xs) zero d e l = refl
get_d_mapped f (x ∷ xs) (suc i) d e l = get_d_mapped f xs i d e (omega arith)

pub mapped_e : {A B : Type 0} (f : A → B) (xs : List A) (z : B) → Memᴰ z (map f xs) → (x : A) × Memᴰ x xs × (z ≡ f x)
mapped_e f [] z m = absurd (Memᴰ.not-nil m)
mapped_e {A} f (x ∷ xs) z m = ⊎_elim (λ q. (x, Memᴰ.head refl, q)) (λ k. let w = mapped_e f xs z k in (w.0, Memᴰ.tail w.1, w.2)) (Memᴰ.cases_cons m)

pub mapped_i : {A B : Type 0} (f : A → B) (xs : List A) (x : A) → Memᴰ x xs → Memᴰ (f x) (map f xs)
mapped_i f [] x m = absurd (Memᴰ.not-nil m)
mapped_i f (y ∷ ys) x m = ⊎_elim (λ q. Memᴰ.head (ap f q)) (λ k. Memᴰ.tail (mapped_i f ys x k)) (Memᴰ.cases_cons m)

-- What was made for process p.
pub made_at : {A : Type 0} (xs : List A) (f : ℕ → A) (d : A) (p : ℕ) → xs ≡ list_of 8 f → p < 8 → slice_index_or xs p d ≡ f p
made_at {A} xs f d p e l = ap (λ (ys : List A). get_or ys p d) e ∙ get_d_list_of 8 f p d l
