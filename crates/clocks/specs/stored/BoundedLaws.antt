-- What the bounded tests say: introduction and elimination.

-- ---- two tests together
use Rattle.std.specs.Prelude.{ℕ, zero, suc, ◌<◌, ◌≡◌, refl, Bool, true, false, ◌&&◌, ◌||◌, ◌⊎◌, T}
use Rattle.std.proofs.Common.{arith, true≢false, inl, inr}
use Rattle.std.proofs.Math.Decide.{dec_lt}
use Rattle.std.proofs.lemmas.Bool.{false≢true}
use mathlib.Core.List.Memᴰ
use mathlib.Core.List.{List, [], ◌∷◌, Memᴰ}
use Rattle.clocks.specs.Bounded.{all_below, any_below, any_of}

pub and_i : (a b : Bool) → T a → T b → T (a && b)
and_i true b x y = y
and_i false b x y = x

pub and_l : (a b : Bool) → T (a && b) → T a
and_l true b x = tt
and_l false b x = x

pub and_r : (a b : Bool) → T (a && b) → T b
and_r true b x = x
and_r false b x = absurd x

pub or_l : (a b : Bool) → T a → T (a || b)
or_l true b x = tt
or_l false b x = absurd x

pub or_r : (a b : Bool) → T b → T (a || b)
or_r true b x = tt
or_r false b x = x

pub or_e : (a b : Bool) → T (a || b) → T a ⊎ T b
or_e true b x = inl tt
or_e false b x = inr x

-- two tests that imply each other are one
pub same_test : (a b : Bool) → (T a → T b) → (T b → T a) → a ≡ b
same_test true true f g = refl
same_test true false f g = absurd (f tt)
same_test false true f g = absurd (g tt)
same_test false false f g = refl

-- ---- below n
pub all_i : (n : ℕ) (t : ℕ → Bool) → ((p : ℕ) → p < n → T (t p)) → T (all_below n t)
unfolding all_below
all_i zero t h = tt
all_i (suc n) t h = and_i (t n) (all_below n t) (h n (omega arith)) (all_i n t (λ p l. h p (omega arith)))

pub all_e : (n : ℕ) (t : ℕ → Bool) → T (all_below n t) → (p : ℕ) → p < n → T (t p)
unfolding all_below
all_e zero t h p l = absurd (omega arith)
all_e (suc n) t h p l = go (dec_lt p n) (all_e n t (and_r (t n) (all_below n t) h) p)
  where
    go : Dec (p < n) → (p < n → T (t p)) → T (t p)
    go (yes j) r = r j
    go (no j) r = let s : p ≡ n = omega arith in rw s (and_l (t n) (all_below n t) h)

pub any_i : (n : ℕ) (t : ℕ → Bool) (p : ℕ) → p < n → T (t p) → T (any_below n t)
unfolding any_below
any_i zero t p l h = absurd (omega arith)
any_i (suc n) t p l h = go (dec_lt p n) (λ j. any_i n t p j h)
  where
    go : Dec (p < n) → (p < n → T (any_below n t)) → T (t n || any_below n t)
    go (yes j) r = or_r (t n) (any_below n t) (r j)
    go (no j) r = let s : p ≡ n = omega arith in or_l (t n) (any_below n t) (rw s at h)

pub any_e : (n : ℕ) (t : ℕ → Bool) → T (any_below n t) → (p : ℕ) × (p < n) × T (t p)
unfolding any_below
any_e zero t h = absurd h
any_e (suc n) t h = go (or_e (t n) (any_below n t) h) (any_e n t)
  where
    go : T (t n) ⊎ T (any_below n t) → (T (any_below n t) → (p : ℕ) × (p < n) × T (t p)) → (p : ℕ) × (p < suc n) × T (t p)
    go (inl x) r = (n, omega arith, x)
    go (inr x) r = let w = r x in (w.0, omega (arith, w.1), w.2)

-- ---- in a list
pub any_of_i : {A : Type 0} (t : A → Bool) (xs : List A) (x : A) → Memᴰ x xs → T (t x) → T (any_of t xs)
unfolding any_of
any_of_i t [] x m h = absurd (Memᴰ.not-nil m)
any_of_i t (y ∷ ys) x m h = go (Memᴰ.cases_cons m) (λ k. any_of_i t ys x k h)
  where
    go : (x ≡ y) ⊎ Memᴰ x ys → (Memᴰ x ys → T (any_of t ys)) → T (t y || any_of t ys)
    go (inl s) r = or_l (t y) (any_of t ys) (rw s at h)
    go (inr k) r = or_r (t y) (any_of t ys) (r k)

pub any_of_e : {A : Type 0} (t : A → Bool) (xs : List A) → T (any_of t xs) → (x : A) × Memᴰ x xs × T (t x)
unfolding any_of
any_of_e t [] h = absurd h
any_of_e {A} t (y ∷ ys) h = go (or_e (t y) (any_of t ys) h) (any_of_e t ys)
  where
    go : T (t y) ⊎ T (any_of t ys) → (T (any_of t ys) → (x : A) × Memᴰ x ys × T (t x)) → (x : A) × Memᴰ x (y ∷ ys) × T (t x)
    go (inl x) r = (y, Memᴰ.head refl, x)
    go (inr x) r = let w = r x in (w.0, Memᴰ.tail w.1, w.2)

-- ---- both, and neither
pub and-true : (a b : Bool) → (a && b) ≡ true → (a ≡ true) × (b ≡ true)
and-true true b h = (refl, h)
and-true false b h = absurd (false≢true h)

pub or-false_e : (a b : Bool) → (a || b) ≡ false → (a ≡ false) × (b ≡ false)
or-false_e true b h = absurd (true≢false h)
or-false_e false b h = (refl, h)
