-- The shares written into a cleared pool, one with each turn.
use Prim.Native.Nat.{ℕ, zero, suc, ◌+◌, ◌-◌, ◌*◌, ◌≤◌, ◌<◌}
use native.Mathlib.Nat.{zero-add, zero-sub, suc-sub-suc}
use native.Mathlib.Numerals.{add-one, unary_clauses}
use native.Mathlib.Omega.{arith}
use mathlib.Core.Path.{◌≡◌, refl, sym, ◌∙◌}
use mathlib.Core.List.{List, [], ◌∷◌, ◌++◌, append_assoc}
use lib.ListN.{length, take, drop, replicate, length-replicate}
use lib.Seq.{sets, sets-eq, take-suc, take-length, length-take-le}
use Rattle.codec.specs.Little.{bytes_of, put}
use Rattle.codec.specs.SetsLaws.{sets-append}
use Rattle.clocks.specs.Counts.{at}
use Rattle.pool.specs.Pool.{pool_length}
use Rattle.call_shares.specs.Shares.{shares_bytes, pool_of}
use Rattle.call_shares.specs.SharesLaws.{length-shares}

-- The cleared pool with the first i shares.
abbrev pub written : (shares : List ℕ) (i : ℕ) → List ℕ
written shares i = sets (replicate pool_length 0) 0 (shares_bytes (take i shares))

one_more : (xs : List ℕ) (share : ℕ) → shares_bytes (xs ++ share ∷ []) ≡ shares_bytes xs ++ bytes_of 2 share
unfolding shares_bytes bytes_of
one_more [] share = refl
one_more (x ∷ xs) share =
    rw (one_more xs share) (sym (append_assoc (bytes_of 2 x) (shares_bytes xs) (bytes_of 2 share)))

pub share_step : (shares pool : List ℕ) (i share : ℕ) → i < length shares → pool ≡ written shares i
    → share ≡ at shares i → put pool (2 * i) 2 share ≡ written shares (i + 1)
unfolding put
share_step shares pool i share l so_far next =
    let place : 2 * i ≡ 0 + length (shares_bytes (take i shares)) =
    omega (arith, length-shares (take i shares), length-take-le i shares (omega arith)) in
    rw (so_far, place, next, add-one i, take-suc shares i 0 l, one_more (take i shares) (at shares i))
    (sets-append (replicate pool_length 0) 0 (shares_bytes (take i shares)) (bytes_of 2 (at shares i)))

drop-zeros : (n k : ℕ) → drop k (replicate {A = ℕ} n 0) ≡ replicate (n - k) 0
drop-zeros n zero = simp unary_clauses refl
drop-zeros zero (suc k) = rw (zero-sub (suc k))
drop-zeros (suc n) (suc k) = rw (suc-sub-suc n k) (drop-zeros n k)

zeros-after : (n : ℕ) (bytes : List ℕ) → length bytes ≤ n
    → sets (replicate n 0) 0 bytes ≡ bytes ++ replicate (n - length bytes) 0
zeros-after n bytes l =
    sets-eq bytes (replicate n 0) 0 (omega (arith, length-replicate {A = ℕ} n 0))
    ∙ rw (zero-add (length bytes), drop-zeros n (length bytes))

-- With all of them it is the pool that is to be written.
pub all-written : (shares : List ℕ) → length shares ≤ 8 → written shares (length shares) ≡ pool_of shares
unfolding pool_of
all-written shares few =
    rw (take-length shares)
    (zeros-after pool_length (shares_bytes shares) (omega (arith, length-shares shares)) ∙ rw (length-shares shares))
