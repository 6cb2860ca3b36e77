-- The order of stored cuts, seen through the cuts.
use Rattle.std.specs.Prelude.{ℕ, zero, suc, ◌≤◌, ◌<◌, ◌≡◌, refl, Bool, true, false, List, ◌⊎◌, T, get_or}
use Rattle.std.proofs.Common.{arith, sym, ap, subst, ◌∙◌, inl, inr, ⊎_elim}
use Rattle.clocks.specs.cuts.EventLaws.{true-T}
use Rattle.clocks.specs.Counts.{list_of}
use Rattle.clocks.specs.stored.CountsLaws.{length-list_of, get_d_list_of}
use Rattle.lookup.specs.OrderLaws.{before_e, not-before, below_before}
use Rattle.lookup.specs.Order.{before}

-- a cut that is nowhere above another and below it at a stored process stands before it
pub before_pointwise : (n : ℕ) (f g : ℕ → ℕ) → ((p : ℕ) → f p ≤ g p) → (o : ℕ) → o < n → f o < g o → T (before (list_of n f) (list_of n g))
before_pointwise n f g h o l k = below_before (list_of n f) (list_of n g) (length-list_of n f ∙ sym (length-list_of n g))
    (λ p m. let j : p < n = omega (arith, length-list_of n f) in omega (arith, get_d_list_of n f p 0 j, get_d_list_of n g p 0 j, h p))
    (λ e. omega (arith, sym (get_d_list_of n f o 0 l) ∙ ap (λ (xs : List ℕ). get_or xs o 0) e ∙ get_d_list_of n g o 0 l))

-- one of two stored cuts stands before the other, unless they are stored alike
pub compare_cuts : (n : ℕ) (f g : ℕ → ℕ) → T (before (list_of n f) (list_of n g)) ⊎ ((list_of n f ≡ list_of n g) ⊎ T (before (list_of n g) (list_of n f)))
compare_cuts n f g = go (before (list_of n f) (list_of n g)) refl
  where
    go : (b : Bool) → before (list_of n f) (list_of n g) ≡ b → T (before (list_of n f) (list_of n g)) ⊎ ((list_of n f ≡ list_of n g) ⊎ T (before (list_of n g) (list_of n f)))
    go true e = inl (true-T e)
    go false e = inr (not-before (list_of n f) (list_of n g) (length-list_of n f ∙ sym (length-list_of n g)) (λ t. subst T e t))

-- nothing stands before a cut that is nowhere above it
pub before_above : (n : ℕ) (f g : ℕ → ℕ) → ((p : ℕ) → f p ≤ g p) → T (before (list_of n g) (list_of n f)) → ⊥
unfolding list_of before
before_above zero f g h t = t
before_above (suc n) f g h t = ⊎_elim
    (λ l. omega (arith, h 0))
    (λ w. before_above n (λ p. f (suc p)) (λ p. g (suc p)) (λ p. h (suc p)) w.1)
    (before_e (g 0) (f 0) (list_of n (λ p. g (suc p))) (list_of n (λ p. f (suc p))) t)
