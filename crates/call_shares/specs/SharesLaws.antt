-- The pool that is written, read back: the shares in their order, and 0 in all other places.
use Rattle.std.specs.Prelude.{ℕ, zero, suc, ◌+◌, ◌-◌, ◌*◌, ◌≤◌, ◌<◌, ◌≡◌, refl, List, [], ◌∷◌, ◌++◌, replicate}
use Rattle.std.proofs.Math.Decide.{dec_lt}
use native.Mathlib.Omega.{arith}
use Rattle.std.proofs.Common.{◌∙◌, length-append}
use Rattle.std.proofs.Math.ListN.{length}
use Rattle.std.proofs.lemmas.List.{length-replicate}
use Rattle.codec.specs.Little.{bytes_of, value_of, number}
use Rattle.codec.specs.LittleLaws.{length-bytes_of}
use Rattle.clocks.specs.Counts.{at}
use Rattle.clocks.specs.stored.CountsLaws.{at_beyond}
use Rattle.numbers.specs.Limit.{most_frontiers, most_members}
use Rattle.pool.specs.Pool.{sum_below, share_at, kept_at, pool_length}
use Rattle.pool.specs.PoolLaws.{sum_split}
use Rattle.call_shares.specs.Shares.{shares_bytes, pool_of}

-- ---- Lengths

pub length-shares : (shares : List ℕ) → length (shares_bytes shares) ≡ 2 * length shares
unfolding shares_bytes
length-shares [] = refl
length-shares (share ∷ shares) =
    length-append (bytes_of 2 share) (shares_bytes shares)
    ∙ omega (arith, length-bytes_of 2 share, length-shares shares)

pub length_pool : (shares : List ℕ) → length shares ≤ most_members → length (pool_of shares) ≡ pool_length
unfolding pool_of
length_pool shares few =
    length-append (shares_bytes shares) (replicate (pool_length - 2 * length shares) 0)
    ∙ omega (
      arith,
      length-shares shares,
      length-replicate {A = ℕ} (pool_length - 2 * length shares) 0,
    )

-- ---- What is read

-- Zeros are 0 wherever they are read.
zeros-number : (m a n : ℕ) → number (replicate m 0) a n ≡ 0
unfolding number value_of
zeros-number zero zero zero = refl
zeros-number zero zero (suc n) = refl
zeros-number zero (suc a) zero = refl
zeros-number zero (suc a) (suc n) = refl
zeros-number (suc m) zero zero = refl
zeros-number (suc m) zero (suc n) = omega (arith, zeros-number m zero n)
zeros-number (suc m) (suc a) n = zeros-number m a n

-- What stands at the i-th place of two bytes.
place-number : (shares : List ℕ) (m i : ℕ) → ((j : ℕ) → at shares j < 65536)
    → number (shares_bytes shares ++ replicate m 0) (2 * i) 2 ≡ at shares i
unfolding number value_of shares_bytes bytes_of
place-number [] m i small = zeros-number m (2 * i) 2
place-number (share ∷ shares) m zero small = omega (arith, small 0)
place-number (share ∷ shares) m (suc i) small =
    let next : 2 * suc i ≡ suc (suc (2 * i)) = omega arith in
    rw next (place-number shares m i (λ j. small (suc j)))

-- Shares that add up to no more than 1,024 fit in two bytes.
pub shares-small : (shares : List ℕ) → sum_below (length shares) (at shares) ≤ most_frontiers
    → (j : ℕ) → at shares j < 65536
shares-small shares within j = go (dec_lt j (length shares))
  where
    go : Dec (j < length shares) → at shares j < 65536
    go (yes l) = omega (arith, sum_split (length shares) j (at shares) l)
    go (no l) = omega (arith, at_beyond shares j (omega arith))

module _ (shares : List ℕ) (small : (j : ℕ) → at shares j < 65536) where
  pub share_read : (i : ℕ) → share_at (pool_of shares) i ≡ at shares i
  unfolding share_at pool_of
  share_read i = place-number shares (pool_length - 2 * length shares) i small

  -- The kept numbers stand eight places after the shares, where none is.
  pub kept_read : length shares ≤ most_members → (i : ℕ) → kept_at (pool_of shares) i ≡ 0
  unfolding kept_at pool_of
  kept_read few i =
      let place : 16 + 2 * i ≡ 2 * (8 + i) = omega arith in
      rw place (place-number shares (pool_length - 2 * length shares) (8 + i) small)
      ∙ at_beyond shares (8 + i) (omega arith)
