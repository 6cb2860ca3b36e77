-- Refusals in their order: the first condition that holds decides.
use Rattle.std.specs.Prelude.{ℕ, ◌<◌, ◌≡◌, refl, Bool, true, false, cond, eqb}
use Rattle.std.proofs.Common.{arith, ne_eqb}

-- Conditions with their numbers, in their order.
pub data Turns : Type 0 where
  end : Turns
  turn : Bool → ℕ → Turns → Turns

-- What the first condition that holds gives for its number; x where none holds.
abbrev pub chosen : {A : Type 0} → Turns → (ℕ → A) → A → A
chosen end f x = x
chosen (turn b n ts) f x = cond b (f n) (chosen ts f x)

-- The number itself; 0 for none.
abbrev pub number_of : Turns → ℕ
number_of ts = chosen ts (λ n. n) 0

-- No number is 0.
abbrev pub Positive : Turns → Type 0
Positive end = Unit
Positive (turn b n ts) = (0 < n) × Positive ts

-- What holds of a choice, by the test that decides it.
pub by_test : {A : Type 0} (P : A → Type 0) (b : Bool) (x y : A) → (b ≡ true → P x) → (b ≡ false → P y) → P (cond b x y)
by_test P true x y p q = p refl
by_test P false x y p q = q refl

-- The number alone decides.
pub chosen_by : {A : Type 0} (ts : Turns) (f : ℕ → A) (x : A) → Positive ts
    → chosen ts f x ≡ cond (eqb (number_of ts) 0) x (f (number_of ts))
chosen_by end f x p = refl
chosen_by (turn true n ts) f x p =
    let some : n ≡ 0 → ⊥ = λ e. omega (arith, p.0) in
    rw (ne_eqb n 0 some)
chosen_by (turn false n ts) f x p = chosen_by ts f x p.1

-- Where it is 0 no condition holds: the first does not, and none of the rest.
pub passed : (b : Bool) (n x : ℕ) → 0 < n → cond b n x ≡ 0 → (b ≡ false) × (x ≡ 0)
passed true n x l h = absurd (omega arith)
passed false n x l h = (refl, h)
