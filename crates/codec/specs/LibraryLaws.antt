-- The library's bytes of numbers, `from_le_bytes` and `to_le_bytes`, are those of Little.
use Rattle.std.specs.Prelude.{ℕ, zero, suc, ◌+◌, ◌*◌, ◌/◌, ◌%◌, ◌^◌, ◌≤◌, ◌≡◌, refl, List, ◌++◌, length, take, drop, get_or}
use Rattle.std.specs.Int.{sum_through, byte_worth, byte_at, bytes_low_first}
use Rattle.std.proofs.Common.{arith, sym, ◌∙◌, add-one, add-zero, zero-add, div-one, pow-suc, mul_comm}
use Rattle.std.proofs.Math.Nat.{div-div-eq-div-mul}
use Rattle.codec.specs.Little.{bytes_of, number, put}
use Rattle.codec.specs.LittleLaws.{length-bytes_of}
use Rattle.codec.specs.SetsLaws.{sets_part}
use Rattle.codec.specs.PutLaws.{number-add, number-one, number_middle}

worths : (bs : List ℕ) (k : ℕ) → sum_through (λ i. byte_worth i (get_or bs i 0)) k ≡ number bs 0 (suc k)
worths bs zero = sym (number-one bs 0)
worths bs (suc k) =
    let next : number bs 0 (suc (suc k)) ≡ number bs 0 (suc k) + 256 ^ suc k * get_or bs (suc k) 0 =
    rw (zero-add, number-one bs (suc k), add-one) at (number-add bs 0 (suc k) 1) in
    rw (worths bs k, next, mul_comm (get_or bs (suc k) 0) (256 ^ suc k))

-- The number of the bytes at a place, one more than k.
pub number-worths : (s : List ℕ) (at k : ℕ) → sum_through (λ i. byte_worth i (get_or (take (suc k) (drop at s)) i 0)) k ≡ number s at (suc k)
number-worths s at k =
    worths (take (suc k) (drop at s)) k ∙ rw add-zero at (number_middle s at (suc k) 0 (suc k) (omega arith))

byte_at-div : (i v : ℕ) → byte_at i v ≡ v / 256 ^ i % 256
byte_at-div zero v = rw div-one
byte_at-div (suc i) v = refl

low_first : (k i v : ℕ) → bytes_low_first i k v ≡ bytes_of k (v / 256 ^ i)
unfolding bytes_of
low_first zero i v = refl
low_first (suc k) i v = rw (byte_at-div i v, low_first k (suc i) v, div-div-eq-div-mul v (256 ^ i) 256, pow-suc)

-- The bytes of a number, stored at a place.
pub put-stored : (s : List ℕ) (at n v : ℕ) → at + n ≤ length s
    → take at s ++ (bytes_low_first 0 n v ++ drop n (drop at s)) ≡ put s at n v
unfolding put
put-stored s at n v h =
    let e : bytes_low_first 0 n v ≡ bytes_of n v = rw div-one at (low_first n 0 v) in
    rw e (sets_part s at n (bytes_of n v) (length-bytes_of n v) h)
