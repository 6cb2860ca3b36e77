-- Values at their own places: each stands at its place, and 0 at the others.
use Rattle.std.specs.Prelude.{ℕ, zero, suc, ◌<◌, ◌≡◌, refl, ◌⊎◌, Bool, true, false, eqb, length, replicate}
use Rattle.std.proofs.Common.{arith, sym, ◌∙◌, inl, inr, eqb-true, length-set, get_or-set_same, get_or-set_other}
use Rattle.std.proofs.Math.Decide.{dec_lt}
use Rattle.std.proofs.lemmas.Bool.{eqb-false}
use Rattle.clocks.specs.Counts.{at}
use Rattle.lines.specs.Words.{placed}

pub length-placed : (n : ℕ) (places values : ℕ → ℕ) → length (placed n places values) ≡ 8
unfolding placed
length-placed zero places values = refl
length-placed (suc n) places values =
    length-set (placed n places values) (places n) (values n) ∙ length-placed n places values

-- At no place: 0.
pub placed_other : (n : ℕ) (places values : ℕ → ℕ) (p : ℕ) → ((j : ℕ) → j < n → places j ≡ p → ⊥)
    → at (placed n places values) p ≡ 0
unfolding placed
placed_other zero places values p h = zeros 8 p
  where
    zeros : (n q : ℕ) → at (replicate n 0) q ≡ 0
    zeros zero q = refl
    zeros (suc n) zero = refl
    zeros (suc n) (suc q) = zeros n q
placed_other (suc n) places values p h =
    get_or-set_other (placed n places values) (places n) p (values n) 0 (λ e. h n (omega arith) (sym e))
    ∙ placed_other n places values p (λ j l. h j (omega arith))

-- At its own place, where no two have the same.
pub placed_own : (n : ℕ) (places values : ℕ → ℕ) (j : ℕ) → j < n → ((i : ℕ) → i < n → places i < 8)
    → ((i l : ℕ) → i < l → l < n → places i ≡ places l → ⊥) → at (placed n places values) (places j) ≡ values j
unfolding placed
placed_own zero places values j h small apart = absurd (omega arith)
placed_own (suc n) places values j h small apart =
    go (dec_lt j n) (λ l. placed_own n places values j l (λ i k. small i (omega arith))
    (λ i m k q. apart i m k (omega arith)))
  where
    go : Dec (j < n) → (j < n → at (placed n places values) (places j) ≡ values j)
        → at (placed (suc n) places values) (places j) ≡ values j
    go (yes l) before =
        get_or-set_other (placed n places values) (places n) (places j) (values n) 0 (λ e. apart j n l (omega arith) e)
        ∙ before l
    go (no l) before =
        let e : j ≡ n = omega arith in
        rw e (get_or-set_same (placed n places values) (places n) (values n) 0
        (omega (arith, length-placed n places values, small n (omega arith))))

-- A place is one of the first n, or none of them.
pub among : (n : ℕ) (places : ℕ → ℕ) (p : ℕ)
    → ((j : ℕ) × ((j < n) × (places j ≡ p))) ⊎ ((j : ℕ) → j < n → places j ≡ p → ⊥)
among zero places p = inr (λ j h e. omega arith)
among (suc n) places p = go (among n places p) (eqb (places n) p) refl
  where
    go : ((j : ℕ) × ((j < n) × (places j ≡ p))) ⊎ ((j : ℕ) → j < n → places j ≡ p → ⊥) → (t : Bool)
        → eqb (places n) p ≡ t
        → ((j : ℕ) × ((j < suc n) × (places j ≡ p))) ⊎ ((j : ℕ) → j < suc n → places j ≡ p → ⊥)
    go (inl (j, (l, e))) t q = inl (j, (omega arith, e))
    go (inr f) true q = inl (n, (omega arith, eqb-true (places n) p q))
    go (inr f) false q = inr (λ j l e. last j l e (dec_lt j n))
      where
        last : (j : ℕ) → j < suc n → places j ≡ p → Dec (j < n) → ⊥
        last j l e (yes k) = f j k e
        last j l e (no k) = let z : j ≡ n = omega arith in eqb-false (places n) p q (rw z at e)
