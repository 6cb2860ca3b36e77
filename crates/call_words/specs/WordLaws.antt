-- The counts out of words fit where they are stored.
use Rattle.std.specs.Prelude.{ℕ, ◌<◌, ◌^◌, zero, suc, ◌+◌, ◌*◌, ◌/◌, ◌≡◌, refl, List, [], ◌∷◌, ◌++◌}
use Rattle.std.proofs.Common.{arith, mod-lt, pow_pos, pow-add}
use Rattle.std.proofs.Math.Nat.{pow-succ'}
use Rattle.codec.specs.LittleLaws.{pow_256_pos}
use Rattle.clocks.specs.Counts.{at, list_of}
use Rattle.call_words.specs.Words.{part, unpack_counts}

-- A part of as many bits as w bytes have.
bits_of : (w : ℕ) → 2 ^ (8 * w) ≡ 256 ^ w
bits_of zero = refl
bits_of (suc w) =
    let next : 8 * suc w ≡ 8 + 8 * w = omega arith in
    rw (next, pow-add 2 8 (8 * w), pow-succ' 256 w, bits_of w)

part-lt : (w word i : ℕ) → part (8 * w) word i < 256 ^ w
unfolding part
part-lt w word i = rw (← bits_of w) (mod-lt (word / 2 ^ (8 * w * i)) (pow_pos (8 * w)))

-- Values that fit, in front of counts that fit.
fits-append : (n : ℕ) (f : ℕ → ℕ) (rest : List ℕ) (m : ℕ) → ((p : ℕ) → f p < m) → ((p : ℕ) → at rest p < m)
    → (p : ℕ) → at (list_of n f ++ rest) p < m
unfolding list_of
fits-append zero f rest m h r p = r p
fits-append (suc n) f rest m h r zero = h 0
fits-append (suc n) f rest m h r (suc p) = fits-append n (λ q. f (suc q)) rest m (λ q. h (suc q)) r p

pub counts_fit : (w : ℕ) (words : List ℕ) (p : ℕ) → at (unpack_counts w words) p < 256 ^ w
unfolding unpack_counts
counts_fit w [] p = pow_256_pos w
counts_fit w (word ∷ words) p =
    fits-append (8 / w) (part (8 * w) word) (unpack_counts w words) (256 ^ w) (part-lt w word) (counts_fit w words) p
