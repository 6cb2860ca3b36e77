-- A number of more digits than any limit has is turned back, whatever follows.
use Rattle.std.specs.Prelude.{ℕ, zero, suc, ◌+◌, ◌-◌, ◌*◌, ◌^◌, ◌≤◌, ◌<◌, ◌≡◌, refl, Bool, true, false, cond, ◌&&◌, List, [], ◌∷◌, leb, ltb, eqb, length, drop}
use Rattle.std.proofs.Math.Nat.{pow-zero, pow-succ'}
use Rattle.std.proofs.Common.{mul_assoc, mul_comm, mul-le-mul_right, arith, lt-ltb}
use Rattle.std.proofs.lemmas.Bool.{lt-leb, eqb-false}
use Rattle.rules.specs.Text.{byte_at}
use Rattle.line_pieces.specs.Read.{At, Refused}
use Rattle.codec.specs.Decimal.{is_digit, digits, value_from, value}
use Rattle.line_pieces.specs.Number.{number_of, number_at}
use Rattle.line_pieces.specs.NumberLaws.{digit_bounds, digits-end, digits-first, value_from_grows}

-- A number within any limit has at most so many digits: a count of 32 bits has ten.
abbrev pub most_digits : ℕ
most_digits = 10

-- With n digits more a number is ten times larger for each.
digits_more : (n v : ℕ) (ds : List ℕ) → n ≤ length ds → v * 10 ^ n ≤ value_from v ds
unfolding value_from
digits_more zero v ds l = rw (pow-zero 10) (omega (arith, value_from_grows v ds))
digits_more (suc n) v [] l = absurd (omega arith)
digits_more (suc n) v (d ∷ ds) l =
    let next = digits_more n (10 * v + (d - 48)) ds (omega arith) in
    let more : 10 * v * 10 ^ n ≤ (10 * v + (d - 48)) * 10 ^ n = mul-le-mul_right (10 ^ n) (omega arith) in
    let same : v * 10 ^ suc n ≡ 10 * v * 10 ^ n = rw (pow-succ', ← mul_assoc v 10 (10 ^ n), mul_comm v 10) in
    omega (arith, next, more, same)

-- A number of n + 1 digits or more, without a leading 0, is 10 ^ n at least.
digits_large : (n v : ℕ) (ds : List ℕ) → 1 ≤ v → n ≤ length ds → 10 ^ n ≤ value_from v ds
digits_large n v ds h l =
    let once : 1 * 10 ^ n ≤ v * 10 ^ n = mul-le-mul_right (10 ^ n) h in omega (arith, once, digits_more n v ds l)

-- A limit that every number of more digits is above.
abbrev pub Short : ℕ → Type 0
Short most = most < 10 ^ most_digits

-- More digits are turned back at their first, or at the second behind a needless 0.
long_number : (d : ℕ) (ds : List ℕ) (i least most : ℕ) → 48 ≤ d → most_digits ≤ length ds → Short most
    → number_of (d ∷ ds) i least most ≡ cond (eqb d 48) (Refused 1 (i + 1)) (Refused 10 i)
unfolding number_of value_from
long_number d ds i least most h l m = go (eqb d 48) refl
  where
    more : ltb 0 (length ds) ≡ true
    more = lt-ltb 0 (length ds) (omega arith)

    go : (t : Bool) → eqb d 48 ≡ t
        → cond (eqb d 48 && ltb 0 (length ds)) (Refused 1 (i + 1))
        (cond (leb least (value (d ∷ ds)) && leb (value (d ∷ ds)) most) (At (i + length (d ∷ ds)) (value (d ∷ ds)))
        (Refused 10 i))
        ≡ cond t (Refused 1 (i + 1)) (Refused 10 i)
    go true e = rw (e, more)
    go false e =
        let big = digits_large most_digits (10 * 0 + (d - 48)) ds (omega (arith, eqb-false d 48 e)) l in
        let high : leb (value (d ∷ ds)) most ≡ false = lt-leb (value (d ∷ ds)) most (omega (arith, big)) in
        rw (e, high) (last (leb least (value (d ∷ ds))))
      where
        last : (b : Bool) → cond (b && false) (At (i + suc (length ds)) (value (d ∷ ds))) (Refused 10 i) ≡ Refused 10 i
        last true = refl
        last false = refl

-- The same of the digits at a place.
pub long_at : (l : List ℕ) (i least most : ℕ) → Short most → most_digits < length (digits (drop i l))
    → number_at l i least most ≡ cond (eqb (byte_at l i) 48) (Refused 1 (i + 1)) (Refused 10 i)
unfolding number_at
long_at l i least most m h = go (digits (drop i l)) refl h
  where
    go : (ds : List ℕ) → digits (drop i l) ≡ ds → most_digits < length ds
        → number_of ds i least most ≡ cond (eqb (byte_at l i) 48) (Refused 1 (i + 1)) (Refused 10 i)
    go [] e k = absurd (omega arith)
    go (d ∷ ds) e k =
        let first = digits-first l i d ds e in
        rw (← first) (long_number d ds i least most (digit d ds e) (omega arith) m)
      where
        digit : (x : ℕ) (xs : List ℕ) → digits (drop i l) ≡ x ∷ xs → 48 ≤ x
        digit x xs q = pick (is_digit (byte_at l i)) refl
          where
            pick : (t : Bool) → is_digit (byte_at l i) ≡ t → 48 ≤ x
            pick true y = let b = digit_bounds (byte_at l i) y in omega (arith, b.0, digits-first l i x xs q)
            pick false y = let w : ◌≡◌ {A = ℕ} 0 1 = cc (digits-end l i y) in absurd (omega arith)
