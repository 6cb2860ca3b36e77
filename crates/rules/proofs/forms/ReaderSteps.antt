-- The reader's definition, step by step as the code takes it: a byte met or not, a digit, a form by the word behind its
-- bracket.
use Prim.Native.Nat.{ℕ, ◌-◌, ◌≤◌}
use native.Mathlib.Omega.{arith}
use mathlib.Core.Path.{◌≡◌, refl, ap}
use mathlib.Core.Bool.{Bool, true, false, cond, ◌&&◌}
use mathlib.Core.List.{List}
use lib.Dec.{leb, ltb}
use borrow.Author.Tests.{leb-true, eq-eqb, ne_eqb}
use Rattle.rules.specs.ReaderCode.{Digit, NoDigit}
use Rattle.rules.specs.Text.{byte_at}
use Rattle.rules.specs.Laying.{digit_at}
use Rattle.rules.specs.Reader.{Reading, expect, expect_digit, faulty}

-- A byte

pub expect_met : (s : List ℕ) (i b : ℕ) → byte_at s i ≡ b → (r : Reading) → expect s i b r ≡ r
unfolding expect
expect_met s i b e r = rw (eq-eqb (byte_at s i) b e)

pub expect_other : (s : List ℕ) (i b : ℕ) → (byte_at s i ≡ b → ⊥) → (r : Reading) → expect s i b r ≡ faulty 1 i
unfolding expect
expect_other s i b e r = rw (ne_eqb (byte_at s i) b e)

-- A digit

pub record DigitMet (s : List ℕ) (i bound value : ℕ) : Type 0 where
  pub same : byte_at s i - 48 ≡ value
  pub ten : value ≤ 9
  pub step : (r : Reading) → expect_digit s i bound r ≡ r

pub digit_met : (s : List ℕ) (i bound value : ℕ) → digit_at s i bound ≡ Digit value → DigitMet s i bound value
unfolding digit_at
digit_met s i bound value = go (leb 48 c) (leb c 57) (ltb (c - 48) bound) refl refl refl
  where
    c : ℕ
    c = byte_at s i

    go : (x y z : Bool) → leb 48 c ≡ x → leb c 57 ≡ y → ltb (c - 48) bound ≡ z
        → cond (x && y) (cond z (Digit (c - 48)) (NoDigit 4)) (NoDigit 1) ≡ Digit value → DigitMet s i bound value
    go true true true p q l h =
        let e : c - 48 ≡ value = cc in
        let t : c ≤ 57 = leb-true c 57 q in
        record { same = e; ten = omega arith; step = λ r. unfold expect_digit in (rw (p, q, l)) }
    go true true false p q l h = let z : ◌≡◌ {A = ℕ} 0 1 = cc in absurd (omega arith)
    go true false z p q l h = let z : ◌≡◌ {A = ℕ} 0 1 = cc in absurd (omega arith)
    go false y z p q l h = let z : ◌≡◌ {A = ℕ} 0 1 = cc in absurd (omega arith)

pub digit_other : (s : List ℕ) (i bound number : ℕ) → digit_at s i bound ≡ NoDigit number → (r : Reading)
    → expect_digit s i bound r ≡ faulty number i
unfolding digit_at expect_digit
digit_other s i bound number h r = go (leb 48 c && leb c 57) (ltb (c - 48) bound) h
  where
    c : ℕ
    c = byte_at s i

    go : (x z : Bool) → cond x (cond z (Digit (c - 48)) (NoDigit 4)) (NoDigit 1) ≡ NoDigit number
        → cond x (cond z r (faulty 4 i)) (faulty 1 i) ≡ faulty number i
    go true true h = let z : ◌≡◌ {A = ℕ} 0 1 = cc in absurd (omega arith)
    go true false h = ap (λ (n : ℕ). faulty n i) (cc)
    go false z h = ap (λ (n : ℕ). faulty n i) (cc)
