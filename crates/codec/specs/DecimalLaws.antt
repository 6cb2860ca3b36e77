-- A number's digits: how many there are, that they are digits, and that they say the number.
use Rattle.std.specs.Prelude.{ℕ, zero, suc, ◌+◌, ◌-◌, ◌*◌, ◌/◌, ◌%◌, ◌^◌, ◌≤◌, ◌<◌, ◌≡◌, refl, Bool, true, false, List, [], ◌∷◌, ◌++◌, ◌≢◌, ltb, length, get_or}
use Rattle.std.proofs.Common.{arith, pow-suc, suc-add, sym, ap, ◌∙◌, length-append, ltb-true, ltb-false, lt-ltb, le-ltb, le-leb}
use Rattle.std.proofs.Math.Nat.{pow-zero}
use Rattle.std.proofs.Math.ListN.{get_or-append}
use Rattle.codec.specs.Decimal.{numeral_of, is_digit, digits, value_from, value}

-- ---- One digit more

-- A number below 10, and one from 10 on: its last digit behind the others.
pub one_digit : (most n : ℕ) → n < 10 → numeral_of (suc most) n ≡ (48 + n) ∷ []
unfolding numeral_of
one_digit most n l = rw (lt-ltb n 10 l)

pub more_digits : (most n : ℕ) → 10 ≤ n → numeral_of (suc most) n ≡ numeral_of most (n / 10) ++ ((48 + n % 10) ∷ [])
unfolding numeral_of
more_digits most n l = rw (le-ltb n 10 l)

-- What is true of a numeral, by whether the number is below 10.
by_size : (P : List ℕ → Type 0) (most n : ℕ) → (n < 10 → P ((48 + n) ∷ []))
    → (10 ≤ n → P (numeral_of most (n / 10) ++ ((48 + n % 10) ∷ []))) → P (numeral_of (suc most) n)
by_size P most n one more = go (ltb n 10) refl
  where
    go : (b : Bool) → ltb n 10 ≡ b → P (numeral_of (suc most) n)
    go true e = let l = ltb-true n 10 e in rw (one_digit most n l) (one l)
    go false e = let l = ltb-false n 10 e in rw (more_digits most n l) (more l)

-- A digit less.
pub shorter : (most n : ℕ) → n < 10 ^ suc most → n / 10 < 10 ^ most
shorter most n l = omega (arith, pow-suc 10 most)

-- ---- How many

pub length-numeral : (most n : ℕ) → length (numeral_of most n) ≤ most
unfolding numeral_of
length-numeral zero n = omega arith
length-numeral (suc most) n =
    by_size (λ s. length s ≤ suc most) most n (λ l. omega arith)
    (λ l. rw (length-append (numeral_of most (n / 10)) ((48 + n % 10) ∷ []))
    (omega (arith, length-numeral most (n / 10))))

-- Where there is a digit for each that the number has, more make no difference.
pub enough-digits : (most more n : ℕ) → n < 10 ^ suc most → numeral_of (suc (most + more)) n ≡ numeral_of (suc most) n
enough-digits zero more n l =
    let small : n < 10 = omega (arith, pow-suc 10 0) in
    one_digit (zero + more) n small ∙ sym (one_digit zero n small)
enough-digits (suc most) more n l = go (ltb n 10) refl (enough-digits most more (n / 10) (shorter (suc most) n l))
  where
    go : (b : Bool) → ltb n 10 ≡ b → numeral_of (suc (most + more)) (n / 10) ≡ numeral_of (suc most) (n / 10)
        → numeral_of (suc (suc most + more)) n ≡ numeral_of (suc (suc most)) n
    go true e less =
        let small = ltb-true n 10 e in
        one_digit (suc most + more) n small ∙ sym (one_digit (suc most) n small)
    go false e less =
        let large = ltb-false n 10 e in
        more_digits (suc most + more) n large
        ∙ rw suc-add (ap (λ (s : List ℕ). s ++ ((48 + n % 10) ∷ [])) less)
        ∙ sym (more_digits (suc most) n large)

-- ---- They are digits

pub digit_is : (n : ℕ) → n < 10 → is_digit (48 + n) ≡ true
digit_is n l = rw (le-leb 48 (48 + n) (omega arith), le-leb (48 + n) 57 (omega arith))

-- Digits, and what stands behind them.
pub digits_behind : (xs ys : List ℕ) → digits xs ≡ xs → digits (xs ++ ys) ≡ xs ++ digits ys
unfolding digits
digits_behind [] ys h = refl
digits_behind (c ∷ xs) ys h = go (is_digit c) refl (digits_behind xs ys)
  where
    go : (b : Bool) → is_digit c ≡ b → (digits xs ≡ xs → digits (xs ++ ys) ≡ xs ++ digits ys)
        → digits (c ∷ xs ++ ys) ≡ c ∷ xs ++ digits ys
    go true e less =
        let here : c ∷ digits xs ≡ c ∷ xs = rw e at h in
        let rest : digits xs ≡ xs = cc in
        rw e (ap (λ (s : List ℕ). c ∷ s) (less rest))
    go false e less = let z : ◌≡◌ {A = List ℕ} [] (c ∷ xs) = rw e at h in absurd (omega (arith, ap length z))

pub digits-numeral : (most n : ℕ) → digits (numeral_of most n) ≡ numeral_of most n
unfolding numeral_of digits
digits-numeral zero n = refl
digits-numeral (suc most) n =
    by_size (λ s. digits s ≡ s) most n (λ l. rw (digit_is n l))
    (λ l. digits_behind (numeral_of most (n / 10)) ((48 + n % 10) ∷ []) (digits-numeral most (n / 10))
    ∙ rw (digit_is (n % 10) (omega arith)))

-- ---- They say the number

value_behind : (v : ℕ) (xs ys : List ℕ) → value_from v (xs ++ ys) ≡ value_from (value_from v xs) ys
unfolding value_from
value_behind v [] ys = refl
value_behind v (x ∷ xs) ys = value_behind (10 * v + (x - 48)) xs ys

pub value-numeral : (most n : ℕ) → n < 10 ^ most → value (numeral_of most n) ≡ n
unfolding numeral_of value_from
value-numeral zero n l = omega (arith, pow-zero 10)
value-numeral (suc most) n l =
    by_size (λ s. value s ≡ n) most n (λ s. omega arith)
    (λ s.
    value_behind 0 (numeral_of most (n / 10)) ((48 + n % 10) ∷ [])
    ∙ rw (value-numeral most (n / 10) (shorter most n l)) (omega arith))

-- ---- There is one, and the first is 0 of the number 0 alone

pub some_digit : (most n : ℕ) → 1 ≤ length (numeral_of (suc most) n)
some_digit most n =
    by_size (λ s. 1 ≤ length s) most n (λ l. omega arith)
    (λ l. rw (length-append (numeral_of most (n / 10)) ((48 + n % 10) ∷ [])) (omega arith))

pub no_leading_zero : (most n : ℕ) → n < 10 ^ suc most → 1 ≤ n → get_or (numeral_of (suc most) n) 0 0 ≢ 48
no_leading_zero zero n l some =
    let small : n < 10 = omega (arith, pow-suc 10 0) in
    rw (one_digit zero n small) (λ e. omega arith)
no_leading_zero (suc most) n l some =
    by_size (λ s. get_or s 0 0 ≢ 48) (suc most) n (λ _ e. omega arith)
    (λ large.
    rw (get_or-append (numeral_of (suc most) (n / 10)) ((48 + n % 10) ∷ []) 0 0 (some_digit most (n / 10)))
    (no_leading_zero most (n / 10) (shorter (suc most) n l) (omega arith)))
