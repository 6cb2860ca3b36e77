-- Bytes and numbers go back and forth: laws of `bytes_of`, `value_of` and `Bytes`, each over the width.
use Rattle.std.specs.Prelude.{ℕ, zero, suc, ◌+◌, ◌*◌, ◌/◌, ◌%◌, ◌^◌, ◌<◌, ◌≡◌, refl, List, [], ◌∷◌, ◌++◌, length, take, drop, set}
use Rattle.std.proofs.Common.{zero-add, suc-add, pow-suc, mod-eq_of_lt, mul_assoc, div-one, arith, sym, ap, ◌∙◌, get_or-drop, lit<}
use Rattle.std.proofs.Math.Nat.{mod-one, pow-succ', one-le-pow, div-div-eq-div-mul}
use Rattle.std.proofs.lemmas.List.Edits.{sets}
use Rattle.std.proofs.Math.Arith.{mod-mul}
use Rattle.codec.specs.Little.{bytes_of, value_of, Bytes}

-- 256 to the width is positive.
pub pow_256_pos : (n : ℕ) → 0 < 256 ^ n
pow_256_pos n = one-le-pow n 256 (lit< tt)

pub length-bytes_of : (n v : ℕ) → length (bytes_of n v) ≡ n
unfolding bytes_of
length-bytes_of zero v = refl
length-bytes_of (suc n) v = ap suc (length-bytes_of n (v / 256))

-- The bytes of a number are bytes.
pub Bytes-bytes_of : (n v : ℕ) → Bytes (bytes_of n v)
unfolding bytes_of
Bytes-bytes_of zero v i = omega arith
Bytes-bytes_of (suc n) v zero = omega arith
Bytes-bytes_of (suc n) v (suc i) = Bytes-bytes_of n (v / 256) i

-- A number comes back from its bytes, without what the width does not hold.
pub value_of-bytes_of-mod : (n v : ℕ) → value_of (bytes_of n v) ≡ v % 256 ^ n
unfolding bytes_of value_of
value_of-bytes_of-mod zero v = sym (mod-one v)
value_of-bytes_of-mod (suc n) v =
    rw (pow-suc, mod-mul v (pow_256_pos n) (lit< tt), value_of-bytes_of-mod n (v / 256)) (omega arith)

pub value_of-bytes_of : (n v : ℕ) → v < 256 ^ n → value_of (bytes_of n v) ≡ v
value_of-bytes_of n v h = value_of-bytes_of-mod n v ∙ mod-eq_of_lt h

-- Bytes come back from their number.
pub bytes_of-value_of : (bs : List ℕ) → Bytes bs → bytes_of (length bs) (value_of bs) ≡ bs
unfolding bytes_of value_of
bytes_of-value_of [] h = refl
bytes_of-value_of (b ∷ bs) h =
    let h₀ : b < 256 = h 0 in
    let low : (b + 256 * value_of bs) % 256 ≡ b = omega arith in
    let high : (b + 256 * value_of bs) / 256 ≡ value_of bs = omega arith in
    rw (low, high, bytes_of-value_of bs (λ i. h (suc i)))

-- What the width does not hold makes no difference to the bytes.
pub bytes_of_mod : (n v : ℕ) → bytes_of n (v % 256 ^ n) ≡ bytes_of n v
bytes_of_mod n v =
    rw (length-bytes_of n v, value_of-bytes_of-mod n v) at (bytes_of-value_of (bytes_of n v) (Bytes-bytes_of n v))

-- Bytes are below what their width holds.
pub value_of-lt : (bs : List ℕ) → Bytes bs → value_of bs < 256 ^ length bs
unfolding value_of
value_of-lt [] h = lit< tt
value_of-lt (b ∷ bs) h =
    let h₀ : b < 256 = h 0 in
    rw pow-suc (omega (arith, value_of-lt bs (λ i. h (suc i))))

-- Two runs of bytes, one after the other.
pub value_of-append : (xs ys : List ℕ) → value_of (xs ++ ys) ≡ value_of xs + 256 ^ length xs * value_of ys
unfolding value_of
value_of-append [] ys = omega arith
value_of-append (x ∷ xs) ys =
    rw (pow-succ', mul_assoc 256 (256 ^ length xs) (value_of ys), value_of-append xs ys) (omega arith)

pub bytes_of-add : (m n v : ℕ) → bytes_of (m + n) v ≡ bytes_of m v ++ bytes_of n (v / 256 ^ m)
unfolding bytes_of
bytes_of-add zero n v = rw (zero-add, div-one)
bytes_of-add (suc m) n v = rw (suc-add, pow-succ', ← div-div-eq-div-mul v 256 (256 ^ m), bytes_of-add m n (v / 256))

-- Parts of a list of bytes, and bytes stored in it, are bytes.
pub Bytes-drop : (n : ℕ) (s : List ℕ) → Bytes s → Bytes (drop n s)
Bytes-drop n s h i = rw (get_or-drop n s i 0) (h (n + i))

pub Bytes-take : (n : ℕ) (s : List ℕ) → Bytes s → Bytes (take n s)
Bytes-take zero s h i = lit< tt
Bytes-take (suc n) [] h i = lit< tt
Bytes-take (suc n) (x ∷ xs) h zero = h 0
Bytes-take (suc n) (x ∷ xs) h (suc i) = Bytes-take n xs (λ j. h (suc j)) i

pub Bytes-set : (s : List ℕ) (i v : ℕ) → Bytes s → v < 256 → Bytes (set s i v)
Bytes-set [] i v h l j = lit< tt
Bytes-set (x ∷ xs) zero v h l zero = l
Bytes-set (x ∷ xs) zero v h l (suc j) = h (suc j)
Bytes-set (x ∷ xs) (suc i) v h l zero = h 0
Bytes-set (x ∷ xs) (suc i) v h l (suc j) = Bytes-set xs i v (λ k. h (suc k)) l j

pub Bytes-sets : (s : List ℕ) (at : ℕ) (bs : List ℕ) → Bytes s → Bytes bs → Bytes (sets s at bs)
Bytes-sets s at [] h l = h
Bytes-sets s at (b ∷ bs) h l = Bytes-sets (set s at b) (suc at) bs (Bytes-set s at b h (l 0)) (λ i. l (suc i))
