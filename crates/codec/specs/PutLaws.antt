-- Reading and storing numbers at places of a list: laws of `number` and `put`, each over the width.
use Rattle.std.specs.Prelude.{ℕ, zero, suc, ◌+◌, ◌*◌, ◌/◌, ◌%◌, ◌^◌, ◌≤◌, ◌<◌, ◌≡◌, refl, List, [], ◌∷◌, ◌++◌, length, take, drop, get_or, set}
use Rattle.std.proofs.Common.{zero-add, suc-add, mod-eq_of_lt, mul_assoc, mul-zero, lt_of_lt_of_le, arith, sym, ap, ◌∙◌, length-take, length-drop, length-take-le, drop-drop, take-take, lit<}
use Rattle.std.proofs.Math.Nat.{pow-succ', pow-le-pow_right}
use Rattle.std.proofs.lemmas.List.Edits.{sets}
use Rattle.std.proofs.Math.Seq.{take-nil, drop-nil, length-sets}
use Rattle.codec.specs.Little.{bytes_of, value_of, number, put, Bytes}
use Rattle.codec.specs.LittleLaws.{length-bytes_of, Bytes-bytes_of, value_of-bytes_of-mod, bytes_of-value_of, bytes_of_mod, value_of-lt, bytes_of-add, Bytes-drop, Bytes-take, Bytes-sets}
use Rattle.codec.specs.SetsLaws.{sets-append, sets_same, sets_comm, sets-sets, sets-tail, sets_middle, take-drop, take-sets, drop-sets, get_d_sets_before, get_d_sets-after, part-sets, part-sets-before, part-sets-after}

-- ---- One number

pub length-put : (s : List ℕ) (at n v : ℕ) → length (put s at n v) ≡ length s
unfolding put
length-put s at n v = length-sets s at (bytes_of n v)

pub Bytes-put : (s : List ℕ) (at n v : ℕ) → Bytes s → Bytes (put s at n v)
unfolding put
Bytes-put s at n v h = Bytes-sets s at (bytes_of n v) h (Bytes-bytes_of n v)

pub number_lt : (s : List ℕ) (at n : ℕ) → Bytes s → number s at n < 256 ^ n
unfolding number
number_lt s at n h =
    lt_of_lt_of_le (value_of-lt (take n (drop at s)) (Bytes-take n (drop at s) (Bytes-drop at s h)))
    (pow-le-pow_right (lit< tt) (simp length-take (omega arith)))

-- A number of one byte is that byte.
pub number-one : (s : List ℕ) (at : ℕ) → number s at 1 ≡ get_or s at 0
unfolding number value_of
number-one [] at = rw drop-nil
number-one (x ∷ xs) zero = omega arith
number-one (x ∷ xs) (suc at) = number-one xs at

pub put_one : (s : List ℕ) (at v : ℕ) → put s at 1 v ≡ set s at (v % 256)
unfolding put bytes_of
put_one s at v = refl

-- ---- What was stored is read

pub number-put-mod : (s : List ℕ) (at n v : ℕ) → at + n ≤ length s → number (put s at n v) at n ≡ v % 256 ^ n
unfolding number put
number-put-mod s at n v h =
    let stored : take n (drop at (sets s at (bytes_of n v))) ≡ bytes_of n v =
    rw (length-bytes_of n v) at (part-sets s at (bytes_of n v) (rw (length-bytes_of n v) h)) in
    ap value_of stored ∙ value_of-bytes_of-mod n v

pub number-put-same : (s : List ℕ) (at n v : ℕ) → at + n ≤ length s → v < 256 ^ n → number (put s at n v) at n ≡ v
number-put-same s at n v h l = number-put-mod s at n v h ∙ mod-eq_of_lt l

-- The bytes of the number that is there are what is there, and stored again they change nothing.
pub bytes_of-number : (s : List ℕ) (at n : ℕ) → Bytes s → at + n ≤ length s → bytes_of n (number s at n) ≡ take n (drop at s)
unfolding number
bytes_of-number s at n b h =
    let part : List ℕ = take n (drop at s) in
    let width : length part ≡ n = length-take-le n (drop at s) (simp length-drop (omega arith)) in
    rw width at (bytes_of-value_of part (Bytes-take n (drop at s) (Bytes-drop at s b)))

pub put-number : (s : List ℕ) (at n : ℕ) → Bytes s → at + n ≤ length s → put s at n (number s at n) ≡ s
unfolding put
put-number s at n b h = ap (sets s at) (bytes_of-number s at n b h) ∙ sets_same s at n

-- ---- The rest is left

pub get_d_put-before : (s : List ℕ) (at n v i d : ℕ) → i < at → get_or (put s at n v) i d ≡ get_or s i d
unfolding put
get_d_put-before s at n v i d h = get_d_sets_before s at (bytes_of n v) i d h

pub get_d_put-after : (s : List ℕ) (at n v i d : ℕ) → at + n ≤ i → get_or (put s at n v) i d ≡ get_or s i d
unfolding put
get_d_put-after s at n v i d h = get_d_sets-after s at (bytes_of n v) i d (rw (length-bytes_of n v) h)

pub take_put : (s : List ℕ) (at n v a : ℕ) → a ≤ at → take a (put s at n v) ≡ take a s
unfolding put
take_put s at n v a h = take-sets a s at (bytes_of n v) h

pub drop-put : (s : List ℕ) (at n v a : ℕ) → at + n ≤ a → drop a (put s at n v) ≡ drop a s
unfolding put
drop-put s at n v a h = drop-sets a s at (bytes_of n v) (rw (length-bytes_of n v) h)

pub number-put-before : (s : List ℕ) (at n v at' n' : ℕ) → at' + n' ≤ at → number (put s at n v) at' n' ≡ number s at' n'
unfolding number put
number-put-before s at n v at' n' h = ap value_of (part-sets-before s at (bytes_of n v) at' n' h)

pub number-put-after : (s : List ℕ) (at n v at' n' : ℕ) → at + n ≤ at' → number (put s at n v) at' n' ≡ number s at' n'
unfolding number put
number-put-after s at n v at' n' h = ap value_of (part-sets-after s at (bytes_of n v) at' n' (rw (length-bytes_of n v) h))

-- ---- Two numbers

value_of-take-add : (m n : ℕ) (l : List ℕ) → value_of (take (m + n) l) ≡ value_of (take m l) + 256 ^ m * value_of (take n (drop m l))
unfolding value_of
value_of-take-add zero n l = rw (zero-add n) (omega arith)
value_of-take-add (suc m) n [] = rw (take-nil n, take-nil (suc m + n), mul-zero) (omega arith)
value_of-take-add (suc m) n (x ∷ xs) =
    rw (suc-add, pow-succ', mul_assoc 256 (256 ^ m) (value_of (take n (drop m xs)))) (omega (arith, value_of-take-add m n xs))

-- A wide number is two narrower ones side by side.
pub number-add : (s : List ℕ) (at m n : ℕ) → number s at (m + n) ≡ number s at m + 256 ^ m * number s (at + m) n
unfolding number
number-add s at m n = rw (← drop-drop m at s) (value_of-take-add m n (drop at s))

pub put-add : (s : List ℕ) (at m n v : ℕ) → put s at (m + n) v ≡ put (put s at m (v % 256 ^ m)) (at + m) n (v / 256 ^ m)
unfolding put
put-add s at m n v =
    rw (bytes_of_mod m v, bytes_of-add m n v)
    (sym (rw (length-bytes_of m v) at (sets-append s at (bytes_of m v) (bytes_of n (v / 256 ^ m)))))

-- Numbers in places apart may be stored in either order; of two in one place the later stays.
pub put_comm : (s : List ℕ) (at n v at' n' v' : ℕ) → at + n ≤ at' → put (put s at n v) at' n' v' ≡ put (put s at' n' v') at n v
unfolding put
put_comm s at n v at' n' v' h = sets_comm s at (bytes_of n v) at' (bytes_of n' v') (rw (length-bytes_of n v) h)

pub put-put : (s : List ℕ) (at n u v : ℕ) → put (put s at n u) at n v ≡ put s at n v
unfolding put
put-put s at n u v = sets-sets s at (bytes_of n u) (bytes_of n v) (length-bytes_of n u ∙ sym (length-bytes_of n v))

-- ---- A part of the list

pub number-drop : (s : List ℕ) (a at n : ℕ) → number (drop a s) at n ≡ number s (a + at) n
unfolding number
number-drop s a at n = rw (drop-drop at a s)

pub put-tail : (s : List ℕ) (a at n v : ℕ) → take a s ++ put (drop a s) at n v ≡ put s (a + at) n v
unfolding put
put-tail s a at n v = sets-tail s a at (bytes_of n v)

-- A part that was lent, the k elements from a on: reading and storing in it is reading and storing in the whole.
pub number_middle : (s : List ℕ) (a k at n : ℕ) → at + n ≤ k → number (take k (drop a s)) at n ≡ number s (a + at) n
unfolding number
number_middle s a k at n h =
    rw (← drop-drop at a s, take-drop n at (take k (drop a s)), take-take (at + n) k (drop a s) h, take-drop n at (drop a s))

pub put_middle : (s : List ℕ) (a k at n v : ℕ) → at + n ≤ k
    → take a s ++ (put (take k (drop a s)) at n v ++ drop k (drop a s)) ≡ put s (a + at) n v
unfolding put
put_middle s a k at n v h = sets_middle s a k at (bytes_of n v) (rw (length-bytes_of n v) h)
