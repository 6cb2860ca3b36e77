-- The tests of shares, as the library's `contains` and `sum` answer them.
use Rattle.std.proofs.Common.{ℕ, zero, suc, ◌+◌, ◌≡◌, refl, Bool, List, [], ◌∷◌, length, arith, ◌∙◌}
use Rattle.std.specs.List.{list_any, sum_by}
use Rattle.std.proofs.lemmas.List.Sums.{sum_by_from}
use Rattle.clocks.specs.Bounded.{any_of}
use Rattle.clocks.specs.Counts.{at}
use Rattle.pool.specs.Pool.{sum_below}

pub any_listed : {A : Type 0} (t : A → Bool) (xs : List A) → list_any t xs ≡ any_of t xs
unfolding any_of
any_listed t [] = refl
any_listed t (x ∷ xs) = rw (any_listed t xs)

-- The first value apart from the others.
sum_first : (n : ℕ) (f : ℕ → ℕ) → sum_below (suc n) f ≡ f 0 + sum_below n (λ j. f (suc j))
unfolding sum_below
sum_first zero f = omega arith
sum_first (suc n) f = omega (arith, sum_first n f)

pub sum_listed : (xs : List ℕ) → sum_by (λ x. x) xs ≡ sum_below (length xs) (at xs)
unfolding sum_below
sum_listed [] = refl
sum_listed (x ∷ xs) =
    let first : sum_below (suc (length xs)) (at (x ∷ xs)) ≡ x + sum_below (length xs) (at xs) =
    sum_first (length xs) (at (x ∷ xs)) in
    sum_by_from (λ y. y) (0 + x) xs ∙ omega (arith, sum_listed xs, first)
