-- Setting the shares of a pool (02 [10]): one for each watch, numbers from 0; none keeps a frontier yet.
use Rattle.std.specs.Prelude.{ℕ, ◌-◌, ◌*◌, Bool, cond, ◌||◌, List, [], ◌∷◌, ◌++◌, ltb, eqb, length, replicate}
use Rattle.codec.specs.Little.{bytes_of}
use Rattle.clocks.specs.Bounded.{any_of}
use Rattle.clocks.specs.Counts.{at}
use Rattle.numbers.specs.Limit.{most_frontiers, most_members}
use Rattle.numbers.specs.Refusal.{length_number, shares_number}
use Rattle.answers.specs.Result.{Result, refused, gives}
use Rattle.pool.specs.Pool.{sum_below, pool_length, bad_pool_length}

-- 49: no share, over eight, a share of 0, or shares that add up to more than 1,024.
unfoldable pub bad_shares : (shares : List ℕ) → Bool
bad_shares shares =
    eqb (length shares) 0
    || (ltb most_members (length shares)
    || (any_of (λ share. eqb share 0) shares
    || ltb most_frontiers (sum_below (length shares) (at shares))))

-- The shares, two bytes each.
unfoldable pub shares_bytes : (shares : List ℕ) → List ℕ
shares_bytes [] = []
shares_bytes (share ∷ shares) = bytes_of 2 share ++ shares_bytes shares

-- The pool that is written: all after the shares is 0, the kept numbers too.
unfoldable pub pool_of : (shares : List ℕ) → List ℕ
pool_of shares = shares_bytes shares ++ replicate (pool_length - 2 * length shares) 0

-- What the call answers and leaves in the pool.
pub record SharesSet : Type 0 where
  pub answer : Result
  pub pool : List ℕ

unfoldable pub set_shares : (shares pool : List ℕ) → SharesSet
set_shares shares pool =
    cond (bad_pool_length (length pool)) (record { answer = refused length_number; pool = pool })
    (cond (bad_shares shares) (record { answer = refused shares_number; pool = pool })
    (record { answer = gives 0; pool = pool_of shares }))
