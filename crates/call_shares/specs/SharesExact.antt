-- What is true of every setting of shares, on all arguments (02 [10]): when it answers what, what it leaves, and how a
-- caller tells the answers apart. Proved in SharesTheorem.
use Rattle.std.specs.Prelude.{ℕ, ◌≤◌, ◌<◌, ◌≡◌, ◌⊎◌, ◌↔◌, ◌≢◌, length}
use mathlib.Core.List.{List, Memᴰ}
use Rattle.clocks.specs.Counts.{at}
use Rattle.numbers.specs.Limit.{most_frontiers, most_members}
use Rattle.numbers.specs.Refusal.{length_number, shares_number}
use Rattle.answers.specs.Result.{refused, gives}
use Rattle.answers.specs.Told.{Told}
use Rattle.pool.specs.Pool.{sum_below, share_at, kept_at, pool_length}
use Rattle.call_shares.specs.Shares.{SharesSet, set_shares}

-- What 49 asks for: one to eight shares, none of them 0, that add up to no more than 1,024.
pub record GoodShares (shares : List ℕ) : Type 0 where
  pub some : 1 ≤ length shares
  pub few : length shares ≤ most_members
  pub none_empty : (share : ℕ) → Memᴰ share shares → 1 ≤ share
  pub within : sum_below (length shares) (at shares) ≤ most_frontiers

pub record SharesExact (shares pool : List ℕ) (r : SharesSet) : Type 0 where
  -- the refusals in their order
  pub wrong_length : (r.answer ≡ refused length_number) ↔ (length pool ≢ pool_length)
  pub wrong_shares : (r.answer ≡ refused shares_number)
      ↔ ((length pool ≡ pool_length)
      × ((length shares ≡ 0)
      ⊎ ((most_members < length shares)
      ⊎ (Memᴰ 0 shares ⊎ (most_frontiers < sum_below (length shares) (at shares))))))
  -- else they are set
  pub set_exactly : (n : ℕ) → (r.answer ≡ gives n) ↔ ((n ≡ 0) × (length pool ≡ pool_length) × GoodShares shares)
  -- refused, it writes nothing
  pub refused_leaves : (n : ℕ) → r.answer ≡ refused n → r.pool ≡ pool
  -- set, the pool has the shares in their order, 0 for every number from theirs up, and none kept
  pub shares_are : r.answer ≡ gives 0 → (i : ℕ) → i < most_members → share_at r.pool i ≡ at shares i
  pub none_kept : r.answer ≡ gives 0 → (i : ℕ) → i < most_members → kept_at r.pool i ≡ 0
  pub same_length : length r.pool ≡ length pool
  -- the word: 0, or the refusal's number
  pub told : Told r.answer

abbrev pub SharesAreExact : Type 0
SharesAreExact = (shares pool : List ℕ) → SharesExact shares pool (set_shares shares pool)
