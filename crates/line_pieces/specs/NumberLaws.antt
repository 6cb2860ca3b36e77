-- Numbers in a line: their digits, and what a number that was read says of them.
use Rattle.std.specs.Prelude.{ℕ, ◌+◌, ◌-◌, ◌*◌, ◌≤◌, ◌<◌, ◌≡◌, refl, Bool, true, false, cond, ◌&&◌, List, [], ◌∷◌, ltb, leb, eqb, length, drop}
use Rattle.std.proofs.Common.{arith, add-one, drop_of_length-le, drop-cons, ltb-true, ltb-false, leb-true}
use Rattle.rules.specs.Text.{byte_at}
use Rattle.rules.specs.reading.TextLaws.{byte_at_behind}
use Rattle.clocks.specs.stored.BoundedLaws.{and-true}
use Rattle.line_pieces.specs.Read.{At, Refused}
use Rattle.codec.specs.Decimal.{is_digit, digits, value_from, value}
use Rattle.line_pieces.specs.Number.{number_of, number_at}

-- ---- Places and bytes

-- A place where there is a byte is inside.
pub inside : (s : List ℕ) (i : ℕ) → byte_at s i < 256 → i < length s
inside s i h = go (ltb i (length s)) refl
  where
    go : (t : Bool) → ltb i (length s) ≡ t → i < length s
    go true e = ltb-true i (length s) e
    go false e = absurd (omega (arith, byte_at_behind s i (ltb-false i (length s) e)))

-- ---- Digits

pub digit_bounds : (c : ℕ) → is_digit c ≡ true → (48 ≤ c) × (c ≤ 57)
digit_bounds c h = let e = and-true (leb 48 c) (leb c 57) h in (leb-true 48 c e.0, leb-true c 57 e.1)

pub digits_next : (s : List ℕ) (i : ℕ) → is_digit (byte_at s i) ≡ true
    → digits (drop i s) ≡ byte_at s i ∷ digits (drop (i + 1) s)
unfolding digits
digits_next s i h =
    let b = digit_bounds (byte_at s i) h in
    let p : i < length s = inside s i (omega (arith, b.1)) in
    rw (drop-cons s i 256 p, add-one i, h)

pub digits-end : (s : List ℕ) (i : ℕ) → is_digit (byte_at s i) ≡ false → digits (drop i s) ≡ []
unfolding digits
digits-end s i h = go (ltb i (length s)) refl
  where
    go : (t : Bool) → ltb i (length s) ≡ t → digits (drop i s) ≡ []
    go true e = let p : i < length s = ltb-true i (length s) e in rw (drop-cons s i 256 p, h)
    go false e = let p : length s ≤ i = ltb-false i (length s) e in rw (drop_of_length-le s p)

-- ---- What they say

pub value_from_grows : (v : ℕ) (ds : List ℕ) → v ≤ value_from v ds
unfolding value_from
value_from_grows v [] = omega arith
value_from_grows v (d ∷ ds) = omega (arith, value_from_grows (10 * v + (d - 48)) ds)

-- ---- A number, from its first digit

-- The first digit is the byte there.
pub digits-first : (s : List ℕ) (i d : ℕ) (ds : List ℕ) → digits (drop i s) ≡ d ∷ ds → d ≡ byte_at s i
digits-first s i d ds h = go (is_digit (byte_at s i)) refl
  where
    go : (t : Bool) → is_digit (byte_at s i) ≡ t → d ≡ byte_at s i
    go true e = cc (digits_next s i e)
    go false e = let z : ◌≡◌ {A = ℕ} 0 1 = cc (digits-end s i e) in absurd (omega arith)

-- ---- A number that was read

-- It ends behind where it begins, and is within the limits.
pub record After (i least most j v : ℕ) : Type 0 where
  pub behind : i < j
  pub low : least ≤ v
  pub high : v ≤ most

number_of-after : (ds : List ℕ) (i least most j v : ℕ) → number_of ds i least most ≡ At j v → After i least most j v
unfolding number_of
number_of-after [] i least most j v h = let z : ◌≡◌ {A = ℕ} 0 1 = cc in absurd (omega arith)
number_of-after (d ∷ ds) i least most j v h =
    go (eqb d 48 && ltb 0 (length ds)) (leb least (value (d ∷ ds)) && leb (value (d ∷ ds)) most) refl h
  where
    go : (a b : Bool) → (leb least (value (d ∷ ds)) && leb (value (d ∷ ds)) most) ≡ b
        → cond a (Refused 1 (i + 1)) (cond b (At (i + length (d ∷ ds)) (value (d ∷ ds))) (Refused 10 i)) ≡ At j v
        → After i least most j v
    go true b e q = let z : ◌≡◌ {A = ℕ} 0 1 = cc in absurd (omega arith)
    go false true e q =
        let p : i + length (d ∷ ds) ≡ j = cc in
        let w : value (d ∷ ds) ≡ v = cc in
        let t = and-true (leb least (value (d ∷ ds))) (leb (value (d ∷ ds)) most) e in
        let low : least ≤ value (d ∷ ds) = leb-true least (value (d ∷ ds)) t.0 in
        let high : value (d ∷ ds) ≤ most = leb-true (value (d ∷ ds)) most t.1 in
        record { behind = omega arith; low = rw w at low; high = rw w at high }
    go false false e q = let z : ◌≡◌ {A = ℕ} 0 1 = cc in absurd (omega arith)

pub number-after : (s : List ℕ) (i least most j v : ℕ) → number_at s i least most ≡ At j v → After i least most j v
unfolding number_at
number-after s i least most j v h = number_of-after (digits (drop i s)) i least most j v h
