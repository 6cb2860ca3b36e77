-- The pool of up to eight watches that share 1,024 frontiers (02 [10]): eight shares, then how many frontiers each
-- watch keeps, two bytes each, low byte first, 0 if unused. A watch has a number, from 0.
use Rattle.std.specs.Prelude.{ℕ, zero, suc, ◌+◌, ◌-◌, ◌*◌, Bool, cond, not, ◌||◌, List, leb, eqb}
use Rattle.codec.specs.Little.{number, put}
use Rattle.numbers.specs.Limit.{most_frontiers, most_members}

-- The sum of the first n values of a function.
unfoldable pub sum_below : (n : ℕ) (f : ℕ → ℕ) → ℕ
sum_below zero f = 0
sum_below (suc n) f = sum_below n f + f n

-- ---- What stands in it

-- Watch i's share, and how many frontiers it keeps.
unfoldable pub share_at : (pool : List ℕ) (i : ℕ) → ℕ
share_at pool i = number pool (2 * i) 2

abbrev pub kept_place : (i : ℕ) → ℕ
kept_place i = 16 + 2 * i

unfoldable pub kept_at : (pool : List ℕ) (i : ℕ) → ℕ
kept_at pool i = number pool (kept_place i) 2

-- The pool with watch i's kept number brought up to date.
unfoldable pub brought_up : (pool : List ℕ) (i kept : ℕ) → List ℕ
brought_up pool i kept = put pool (kept_place i) 2 kept

-- ---- What refuses a call

-- 6: a pool of a wrong length.
abbrev pub pool_length : ℕ
pool_length = 32

unfoldable pub bad_pool_length : (n : ℕ) → Bool
bad_pool_length n = not (eqb n pool_length)

-- 34: a number without a share.
unfoldable pub no_share : (pool : List ℕ) (i : ℕ) → Bool
no_share pool i = leb most_members i || eqb (share_at pool i) 0

-- ---- How many frontiers a watch may keep (differences stop at 0)

-- The frontiers that no share promises.
unfoldable pub unpromised : (pool : List ℕ) → ℕ
unpromised pool = most_frontiers - sum_below most_members (share_at pool)

-- How many of them watch j is using: what it keeps above its share. One that keeps less lends none of its share on.
unfoldable pub above_share : (pool : List ℕ) (j : ℕ) → ℕ
above_share pool j = kept_at pool j - share_at pool j

-- How many the watches other than i are using.
unfoldable pub used_by_others : (pool : List ℕ) (i : ℕ) → ℕ
used_by_others pool i = sum_below most_members (λ j. cond (eqb j i) 0 (above_share pool j))

-- Its share, and the unpromised frontiers that no other watch is using.
unfoldable pub allowance : (pool : List ℕ) (i : ℕ) → ℕ
allowance pool i = share_at pool i + (unpromised pool - used_by_others pool i)
