-- The lowest set bit of a mask stands at its count of trailing zeros, `count_trailing_zeros` of lib.Count.
use Rattle.std.specs.Prelude.{ℕ, zero, suc, ◌*◌, ◌/◌, ◌%◌, ◌^◌, ◌≤◌, ◌<◌, ◌≡◌, refl, ◌≢◌, true, false}
use Rattle.std.proofs.Common.{suc-le-suc, pow-suc, arith, sym, ◌∙◌, true≢false, lit<}
use lib.Count.{count_trailing_zeros}
use Rattle.codec.specs.Bit.{bit}
use Rattle.codec.specs.BitLaws.{bit-first, bit-suc}

-- The count of one more digit, by the lowest.
trailing_odd : (k m : ℕ) → m % 2 ≡ 1 → count_trailing_zeros (suc k) m ≡ 0
unfolding count_trailing_zeros
trailing_odd k m h = rw h

trailing_even : (k m : ℕ) → m % 2 ≡ 0 → count_trailing_zeros (suc k) m ≡ suc (count_trailing_zeros k (m / 2))
unfolding count_trailing_zeros
trailing_even k m h = rw h

-- Case split on the lowest digit.
by_digit : {P : Type 0} (m : ℕ) → (m % 2 ≡ 0 → P) → (m % 2 ≡ 1 → P) → P
by_digit {P} m f g = go (m % 2) refl
  where
    go : (d : ℕ) → m % 2 ≡ d → P
    go zero e = f e
    go (suc zero) e = g e
    go (suc (suc d)) e = absurd (omega arith)

-- A mask that is not 0, in its width: the count is below the width.
pub trailing_lt : (w m : ℕ) → 0 < m → m < 2 ^ w → count_trailing_zeros w m < w
trailing_lt zero m p h = absurd (omega arith)
trailing_lt (suc w) m p h =
    let b : m < 2 ^ w * 2 = rw pow-suc at h in
    by_digit m
    (λ e. rw (trailing_even w m e) (suc-le-suc (trailing_lt w (m / 2) (omega arith) (omega arith))))
    (λ e. rw (trailing_odd w m e) (omega arith))

-- No bit below it is set,
pub bit_below_trailing : (w m q : ℕ) → q < count_trailing_zeros w m → bit m q ≡ false
unfolding count_trailing_zeros
bit_below_trailing zero m q h = absurd (omega arith)
bit_below_trailing (suc w) m zero h =
    by_digit m (λ e. rw (bit-first m, e)) (λ e. absurd (omega (arith, trailing_odd w m e)))
bit_below_trailing (suc w) m (suc q) h =
    by_digit m
    (λ e. bit-suc m q ∙ bit_below_trailing w (m / 2) q (omega (arith, trailing_even w m e)))
    (λ e. absurd (omega (arith, trailing_odd w m e)))

-- and it is.
pub bit-trailing : (w m : ℕ) → count_trailing_zeros w m < w → bit m (count_trailing_zeros w m) ≡ true
bit-trailing zero m h = absurd (omega arith)
bit-trailing (suc w) m h =
    by_digit m
    (λ e. rw (trailing_even w m e, bit-suc m (count_trailing_zeros w (m / 2))) (bit-trailing w (m / 2) (omega (arith, trailing_even w m e))))
    (λ e. rw (trailing_odd w m e, bit-first m, e))

le_of_not_lt : {a b : ℕ} → ¬ (b < a) → a ≤ b
le_of_not_lt h = omega arith

-- It is the only place of which these hold.
pub trailing_unique : (w m p : ℕ) → p < w → bit m p ≡ true → ((q : ℕ) → q < p → bit m q ≡ false) → count_trailing_zeros w m ≡ p
trailing_unique w m p h set clear =
    let not_above : count_trailing_zeros w m ≤ p = le_of_not_lt (λ l. true≢false (sym set ∙ bit_below_trailing w m p l)) in
    let not_below : p ≤ count_trailing_zeros w m = le_of_not_lt (λ l. true≢false (sym (bit-trailing w m (omega arith)) ∙ clear (count_trailing_zeros w m) l)) in
    omega arith

lt-pow : (n : ℕ) → n < 2 ^ n
lt-pow zero = lit< tt
lt-pow (suc n) = omega (arith, pow-suc 2 n, lt-pow n)

pub some-bit : (m : ℕ) → m ≢ 0 → (p : ℕ) × (bit m p ≡ true)
some-bit m h = (count_trailing_zeros m m, bit-trailing m m (trailing_lt m m (omega arith) (lt-pow m)))
