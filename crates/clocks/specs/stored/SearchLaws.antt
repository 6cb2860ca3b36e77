-- A search through the first n values of a function, one by one: whether one passes a test.
use Rattle.std.specs.Prelude.{ℕ, zero, suc, ◌+◌, ◌≤◌, ◌<◌, ◌≡◌, refl, Bool, true, false, drop}
use Rattle.std.proofs.Common.{arith, sym, le_of_suc-le-suc}
use Rattle.clocks.specs.Bounded.{any_of}
use Rattle.clocks.specs.Counts.{list_of}
use Rattle.clocks.specs.stored.BoundedLaws.{or-false_e}
use Rattle.clocks.specs.stored.CountsLaws.{rest_next, rest_end}

-- One of those from number i on passes.
abbrev pub passes_from : {A : Type 0} → ℕ → (ℕ → A) → (A → Bool) → ℕ → Bool
passes_from n f t i = any_of t (drop i (list_of n f))

module _ {A : Type 0} (n : ℕ) (f : ℕ → A) (t : A → Bool) (i : ℕ) where
  pub search_here : i < n → t (f i) ≡ true → passes_from n f t i ≡ true
  unfolding any_of
  search_here l h = rw (rest_next n f i l, h)

  pub search_next : i < n → t (f i) ≡ false → passes_from n f t i ≡ passes_from n f t (i + 1)
  unfolding any_of
  search_next l h = rw (rest_next n f i l, h)

  pub search_none : n ≤ i → passes_from n f t i ≡ false
  unfolding any_of
  search_none l = rw (rest_end n f i l)

-- ---- It answers no where none passes, and where it answers yes that is not so.
module _ {A : Type 0} where
  listed-false_i : (n : ℕ) (f : ℕ → A) (t : A → Bool) → ((p : ℕ) → p < n → t (f p) ≡ false) → any_of t (list_of n f) ≡ false
  unfolding any_of list_of
  listed-false_i zero f t h = refl
  listed-false_i (suc n) f t h = rw (h 0 (omega arith)) (listed-false_i n (λ p. f (suc p)) t (λ p l. h (suc p) (omega arith)))

  listed-false_e : (n : ℕ) (f : ℕ → A) (t : A → Bool) → any_of t (list_of n f) ≡ false → (p : ℕ) → p < n → t (f p) ≡ false
  unfolding any_of list_of
  listed-false_e zero f t h p l = absurd (omega arith)
  listed-false_e (suc n) f t h zero l = (or-false_e (t (f 0)) _ h).0
  listed-false_e (suc n) f t h (suc p) l = listed-false_e n (λ q. f (suc q)) t (or-false_e (t (f 0)) _ h).1 p (le_of_suc-le-suc l)

  pub any_of_decides : (n : ℕ) (f : ℕ → A) (t : A → Bool) (r : Bool) → (r ≡ false → (p : ℕ) → p < n → t (f p) ≡ false)
      → (r ≡ true → ((p : ℕ) → p < n → t (f p) ≡ false) → ⊥) → r ≡ any_of t (list_of n f)
  any_of_decides n f t true none some = go (any_of t (list_of n f)) refl
    where
      go : (b : Bool) → any_of t (list_of n f) ≡ b → true ≡ b
      go true h = refl
      go false h = absurd (some refl (listed-false_e n f t h))
  any_of_decides n f t false none some = sym (listed-false_i n f t (none refl))
