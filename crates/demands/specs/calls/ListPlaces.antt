-- Places in a list: what stands before one, and that of two places one is before the other.
use Rattle.std.specs.Prelude.{ℕ, zero, suc, ◌<◌, ◌≡◌, refl, ◌⊎◌, length, get_or, take}
use Rattle.std.proofs.Common.{suc-le-suc, arith, sym, ap, inl, inr, ⊎_elim}
use mathlib.Core.List.Memᴰ
use mathlib.Core.List.{List, [], ◌∷◌, ◌++◌, Memᴰ}

module _ {A : Type 0} where
  -- an element before a place stands at a lower one
  pub member_take : (xs : List A) (j : ℕ) (d x : A) → Memᴰ x (take j xs)
      → (i : ℕ) × (i < j) × (i < length xs) × (get_or xs i d ≡ x)
  member_take xs zero d x m = absurd (Memᴰ.not-nil m)
  member_take [] (suc j) d x m = absurd (Memᴰ.not-nil m)
  member_take (y ∷ xs) (suc j) d x m = ⊎_elim (λ q. (0, omega arith, omega arith, sym q))
      (λ n. let r = member_take xs j d x n in (suc r.0, suc-le-suc r.1, suc-le-suc r.2, r.3))
      (Memᴰ.cases_cons m)

  -- of two places in a list, one is before the other or they are one
  pub which_first : (xs ys us vs : List A) (e f : A) → xs ++ (e ∷ ys) ≡ us ++ (f ∷ vs)
      → ((xs ≡ us) × (e ≡ f) × (ys ≡ vs)) ⊎ (Memᴰ e us ⊎ Memᴰ f xs)
  which_first [] ys [] vs e f q =
      let s : e ≡ f = cc in
      let r : ys ≡ vs = cc in
      inl (refl, s, r)
  which_first [] ys (u ∷ us) vs e f q = let s : e ≡ u = cc in inr (inl (Memᴰ.head s))
  which_first (x ∷ xs) ys [] vs e f q = let s : f ≡ x = cc in inr (inr (Memᴰ.head s))
  which_first (x ∷ xs) ys (u ∷ us) vs e f q =
      let t : xs ++ (e ∷ ys) ≡ us ++ (f ∷ vs) = cc in
      let h : x ≡ u = cc in
      ⊎_elim (λ (s : (xs ≡ us) × (e ≡ f) × (ys ≡ vs)). inl (rw h (ap (λ (l : List A). u ∷ l) s.0), s.1, s.2))
      (λ s. inr (⊎_elim (λ m. inl (Memᴰ.tail m)) (λ m. inr (Memᴰ.tail m)) s)) (which_first xs ys us vs e f t)
