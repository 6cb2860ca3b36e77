-- Tests over the first n numbers, and the members of a list that pass a test: they compute, and say what they should.
use Rattle.std.specs.Prelude.{ℕ, zero, suc, Bool, true, false, ◌&&◌, ◌||◌, List, [], ◌∷◌}

-- The test passes at each number below n.
unfoldable pub all_below : (n : ℕ) (t : ℕ → Bool) → Bool
all_below zero t = true
all_below (suc n) t = t n && all_below n t

-- The test passes at some number below n.
unfoldable pub any_below : (n : ℕ) (t : ℕ → Bool) → Bool
any_below zero t = false
any_below (suc n) t = t n || any_below n t

-- The test passes at some element.
unfoldable pub any_of : {A : Type 0} → (t : A → Bool) → (xs : List A) → Bool
any_of t [] = false
any_of t (x ∷ xs) = t x || any_of t xs
