-- Who waits for whom: an event whose own counts are not taken is ready exactly if it waits for no process.
use Rattle.std.specs.Prelude.{ℕ, zero, suc, ◌+◌, ◌≤◌, ◌<◌, ◌≡◌, refl, Bool, true, false, ◌⊎◌, ◌↔◌}
use Rattle.std.proofs.Common.{arith, inl, inr, ⊎_elim}
use Rattle.std.proofs.Math.Decide.{dec_lt}
use Rattle.clocks.specs.declared.Event.{Event}
use Rattle.clocks.specs.Event.{Cut, one, count, involved, Ready}
use Rattle.clocks.specs.Valid.{WellFormed}
use Rattle.clocks.specs.cuts.EventLaws.{ready_i, ready_next, ready_known}
use Rattle.demands.specs.statements.Empties.{WaitsFor}

-- A well-formed event whose own counts are not taken, and that waits for no process, is ready.
module _ (k : ℕ) (e : Event) (S : Cut) (formed : WellFormed k e)
    (untaken : (p : ℕ) → involved e p ≡ true → S p < count e p) where
  abbrev Waits : ℕ → Type 0
  Waits = WaitsFor e S

  search : (n : ℕ) → ((p : ℕ) × (p < n) × Waits p) ⊎ ((p : ℕ) → p < n → Waits p → ⊥)
  search zero = inr (λ p l x. omega arith)
  search (suc n) = go (dec_lt (S n + one (involved e n)) (count e n)) (search n)
    where
      go : Dec (Waits n) → ((p : ℕ) × (p < n) × Waits p) ⊎ ((p : ℕ) → p < n → Waits p → ⊥)
          → ((p : ℕ) × (p < suc n) × Waits p) ⊎ ((p : ℕ) → p < suc n → Waits p → ⊥)
      go (yes x) rest = inl (n, omega arith, x)
      go (no x) (inl y) = inl (y.0, omega (arith, y.1), y.2)
      go (no x) (inr none) = inr (λ p l y. at p l y (dec_lt p n))
        where
          at : (p : ℕ) → p < suc n → Waits p → Dec (p < n) → ⊥
          at p l y (yes m) = none p m y
          at p l y (no m) = let q : p ≡ n = omega arith in x (rw q at y)

  -- a count at most 1 above at its own processes, and not above elsewhere
  low : ((p : ℕ) → p < k → Waits p → ⊥) → (p : ℕ) → count e p ≤ S p + one (involved e p)
  low none p = go (dec_lt p k) (dec_lt (S p + one (involved e p)) (count e p))
    where
      go : Dec (p < k) → Dec (Waits p) → count e p ≤ S p + one (involved e p)
      go d (no x) = omega arith
      go (yes l) (yes x) = absurd (none p l x)
      go (no l) (yes x) = omega (arith, formed.silent p (omega arith))

  none_waits : ((p : ℕ) → p < k → Waits p → ⊥) → Ready e S
  none_waits none = ready_i e S
      (λ p b. let o : one (involved e p) ≡ 1 = rw b in omega (arith, low none p, untaken p b))
      (λ p b. let o : one (involved e p) ≡ 0 = rw b in omega (arith, low none p))

  pub waits_for : (Ready e S → ⊥) → (p : ℕ) × (p < k) × Waits p
  waits_for not-ready = ⊎_elim (λ x. x) (λ none. absurd (not-ready (none_waits none))) (search k)

  pub ready_exactly : Ready e S ↔ ((p : ℕ) → p < k → Waits p → ⊥)
  ready_exactly = (λ r p l x. not-ready_waits r p x (involved e p) refl, none_waits)
    where
      not-ready_waits : Ready e S → (p : ℕ) → Waits p → (b : Bool) → involved e p ≡ b → ⊥
      not-ready_waits r p x true b = let o : one (involved e p) ≡ 1 = rw b in omega (arith, x, ready_next e S r p b)
      not-ready_waits r p x false b = omega (arith, x, ready_known e S r p b)
