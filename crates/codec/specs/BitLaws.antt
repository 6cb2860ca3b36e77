-- Laws of `bit`: of the lowest bit and the rest, of `bit_or` and `bit_and`, of bounds, and that the bits determine the
-- mask.
use Rattle.std.specs.Prelude.{ℕ, zero, suc, ◌+◌, ◌*◌, ◌/◌, ◌%◌, ◌^◌, ◌≤◌, ◌<◌, min, max, ◌≡◌, refl, ◌≢◌, ◌↔◌, Bool, true, false, ◌&&◌, ◌||◌, eqb}
use Rattle.std.proofs.Common.{zero-le, suc-le-suc, div-one, pow-suc, lt_of_lt_of_le, le_of_suc-le-suc, zero-add, arith, sym, ◌∙◌, true≢false, lit<, pow_pos, pow_mono}
use Rattle.std.proofs.Math.Nat.{pow-succ', div-div-eq-div-mul, div-eq_of_lt, add-div_right}
use Rattle.std.proofs.Math.Decide.{dec_lt}
use Rattle.std.proofs.lemmas.Bool.{false≢true}
use Rattle.std.proofs.Math.Arith.{bin_ind}
use Rattle.std.specs.Int.Bits.{bit_and, bit_or, and_step, or_step}
use Rattle.std.proofs.lemmas.Nat.{and_shr, or_shr}
use Rattle.codec.specs.Bit.{bit}

-- ---- The lowest bit, and the rest

pub bit-first : (m : ℕ) → bit m 0 ≡ eqb (m % 2) 1
unfolding bit
bit-first m = rw div-one

pub bit-suc : (m p : ℕ) → bit m (suc p) ≡ bit (m / 2) p
unfolding bit
bit-suc m p = rw (pow-succ', div-div-eq-div-mul m 2 (2 ^ p))

pub bit-zero : (p : ℕ) → bit 0 p ≡ false
unfolding bit
bit-zero p = rw (div-eq_of_lt (pow_pos p))

-- What holds of two binary digits at each of the four choices.
digits : (P : ℕ → ℕ → Type 0) → P 0 0 → P 0 1 → P 1 0 → P 1 1 → (x y : ℕ) → x < 2 → y < 2 → P x y
digits P p q r s zero zero h l = p
digits P p q r s zero (suc zero) h l = q
digits P p q r s zero (suc (suc y)) h l = absurd (omega arith)
digits P p q r s (suc zero) zero h l = r
digits P p q r s (suc zero) (suc zero) h l = s
digits P p q r s (suc zero) (suc (suc y)) h l = absurd (omega arith)
digits P p q r s (suc (suc x)) y h l = absurd (omega arith)

same_digit : (a b : ℕ) → eqb (a % 2) 1 ≡ eqb (b % 2) 1 → a % 2 ≡ b % 2
same_digit a b =
    digits (λ x y. eqb x 1 ≡ eqb y 1 → x ≡ y) (λ e. refl) (λ e. absurd (false≢true e)) (λ e. absurd (true≢false e)) (λ e. refl)
    (a % 2) (b % 2) (omega arith) (omega arith)

-- ---- Of two masks

-- An operation that goes digit by digit, by f, goes bit by bit, by g, where g is f as a test.
bit_of : (op f : ℕ → ℕ → ℕ) (g : Bool → Bool → Bool) → ((a b k : ℕ) → op a b / 2 ^ k ≡ op (a / 2 ^ k) (b / 2 ^ k))
    → ((a b : ℕ) → op a b ≡ op (a / 2) (b / 2) * 2 + f (a % 2) (b % 2))
    → ((x y : ℕ) → x < 2 → y < 2 → (f x y < 2) × (eqb (f x y) 1 ≡ g (eqb x 1) (eqb y 1)))
    → (a b p : ℕ) → bit (op a b) p ≡ g (bit a p) (bit b p)
unfolding bit
bit_of op f g shr step test a b p =
    let x : ℕ = a / 2 ^ p in
    let y : ℕ = b / 2 ^ p in
    let here = test (x % 2) (y % 2) (omega arith) (omega arith) in
    let low : op x y % 2 ≡ f (x % 2) (y % 2) = omega (arith, step x y, here.0) in
    rw (shr a b p, low) here.1

pub bit-or : (a b p : ℕ) → bit (bit_or a b) p ≡ (bit a p || bit b p)
bit-or =
    bit_of bit_or max ◌||◌ or_shr or_step
    (digits (λ x y. (max x y < 2) × (eqb (max x y) 1 ≡ (eqb x 1 || eqb y 1))) (lit< tt, refl) (lit< tt, refl) (lit< tt, refl) (lit< tt, refl))

pub bit-and : (a b p : ℕ) → bit (bit_and a b) p ≡ (bit a p && bit b p)
bit-and =
    bit_of bit_and min ◌&&◌ and_shr and_step
    (digits (λ x y. (min x y < 2) × (eqb (min x y) 1 ≡ (eqb x 1 && eqb y 1))) (lit< tt, refl) (lit< tt, refl) (lit< tt, refl) (lit< tt, refl))

-- ---- Masks with the same bits are equal

halves : (a b : ℕ) → bit a 0 ≡ bit b 0 → a / 2 ≡ b / 2 → a ≡ b
halves a b e h = omega (arith, same_digit a b (sym (bit-first a) ∙ e ∙ bit-first b))

pub bits_none : (m : ℕ) → ((p : ℕ) → bit m p ≡ false) → m ≡ 0
bits_none =
    bin_ind (λ m. ((p : ℕ) → bit m p ≡ false) → m ≡ 0) (λ h. refl)
    (λ m ih h. halves m 0 (h 0 ∙ sym (bit-zero 0)) (ih (λ p. sym (bit-suc m p) ∙ h (suc p))))

pub bits_equal : (a b : ℕ) → ((p : ℕ) → bit a p ≡ bit b p) → a ≡ b
bits_equal =
    bin_ind (λ a. (b : ℕ) → ((p : ℕ) → bit a p ≡ bit b p) → a ≡ b)
    (λ b h. sym (bits_none b (λ p. sym (h p) ∙ bit-zero p)))
    (λ a ih b h. halves a b (h 0) (ih (b / 2) (λ p. sym (bit-suc a p) ∙ h (suc p) ∙ bit-suc b p)))

-- ---- Bounds

pub bit_above : (m k p : ℕ) → m < 2 ^ k → k ≤ p → bit m p ≡ false
unfolding bit
bit_above m k p h l = rw (div-eq_of_lt (lt_of_lt_of_le h (pow_mono l)))

pub lt_of_bits : (k m : ℕ) → ((p : ℕ) → k ≤ p → bit m p ≡ false) → m < 2 ^ k
lt_of_bits zero m h = omega (arith, bits_none m (λ p. h p zero-le))
lt_of_bits (suc k) m h =
    rw pow-suc (omega (arith, lt_of_bits k (m / 2) (λ p l. sym (bit-suc m p) ∙ h (suc p) (suc-le-suc l))))

pub below_iff_bits : (m k : ℕ) → (m < 2 ^ k) ↔ ((p : ℕ) → k ≤ p → bit m p ≡ false)
below_iff_bits m k = (λ h p l. bit_above m k p h l, lt_of_bits k m)

-- ---- Setting the top bit

pub bit_top : (v i : ℕ) → v < 2 ^ i → bit (v + 2 ^ i) i ≡ true
unfolding bit
bit_top v i h = rw (add-div_right v (pow_pos i), div-eq_of_lt h)

pub bit_under_top : (v i j : ℕ) → j < i → bit (v + 2 ^ i) j ≡ bit v j
bit_under_top v zero j h = absurd (omega arith)
bit_under_top v (suc i) zero h =
    let low : (v + 2 ^ suc i) % 2 ≡ v % 2 = omega (arith, pow-suc 2 i) in
    rw (bit-first v, bit-first (v + 2 ^ suc i), low)
bit_under_top v (suc i) (suc j) h =
    let half : (v + 2 ^ suc i) / 2 ≡ v / 2 + 2 ^ i = omega (arith, pow-suc 2 i) in
    rw (bit-suc v j, bit-suc (v + 2 ^ suc i) j, half) (bit_under_top (v / 2) i j (le_of_suc-le-suc h))

pub bit_top_other : (v i j : ℕ) → v < 2 ^ i → j ≢ i → bit (v + 2 ^ i) j ≡ bit v j
bit_top_other v i j h l = go (dec_lt j i)
  where
    go : Dec (j < i) → bit (v + 2 ^ i) j ≡ bit v j
    go (yes under) = bit_under_top v i j under
    go (no not_under) =
        rw (bit_above v i j h (omega arith), bit_above (v + 2 ^ i) (suc i) j (omega (arith, pow-suc 2 i)) (omega arith))

-- A mask of one bit.
pub bit_power : (i : ℕ) → bit (2 ^ i) i ≡ true
bit_power i = rw zero-add at (bit_top 0 i (pow_pos i))

pub bit_power_other : (i j : ℕ) → j ≢ i → bit (2 ^ i) j ≡ false
bit_power_other i j h = rw (zero-add, bit-zero) at (bit_top_other 0 i j (pow_pos i) h)
