-- Never over (02 [10]): after one accepted setting, whatever calls of whatever watches follow, the watches together
-- keep at most 1,024 frontiers, the pool's numbers are those of the records, and how many frontiers a watch may keep is
-- what the others neither keep nor are promised. Proved in WithinTheorem.
use Rattle.std.specs.Prelude.{ℕ, ◌+◌, ◌≤◌, ◌<◌, max, ◌≡◌, cond, List, eqb, length}
use Rattle.clocks.specs.Counts.{at}
use Rattle.numbers.specs.Limit.{most_frontiers, most_members}
use Rattle.records.specs.Record.{kept_count}
use Rattle.pool.specs.Pool.{sum_below, pool_length, share_at, kept_at, allowance}
use Rattle.pool_runs.specs.Runs.{Member, Place, vacant, has, Pooled, IsSet, begun, Numbered, AllPoolPassed, pool_run}

-- For every run of calls after one accepted setting: P of the width of a count, the shares, and what there is at its
-- end.
abbrev pub OfEveryRun : (P : (w : ℕ) (shares : List ℕ) (G : Pooled) → Type 0) → Type 0
OfEveryRun P =
    (w : ℕ) → 0 < w → (shares pool : List ℕ) → IsSet shares pool
    → (cs : List Numbered) → AllPoolPassed w cs → P w shares (pool_run w cs (begun shares pool))

-- How many frontiers a place's record says that its watch keeps; none where it has no watch.
abbrev pub kept_at_place : (P : Place) → ℕ
kept_at_place vacant = 0
kept_at_place (has m) = kept_count m.watch.bytes

-- What watch i keeps, or is promised where that is more.
abbrev pub kept_or_promised : (shares : List ℕ) (G : Pooled) (i : ℕ) → ℕ
kept_or_promised shares G i = max (kept_at_place (G.places i)) (at shares i)

pub record WithinAllowance (w : ℕ) (shares : List ℕ) (G : Pooled) : Type 0 where
  -- the pool has its length, and its shares are those that were set
  pub pool_length : length G.pool ≡ pool_length
  pub shares_stay : (i : ℕ) → i < most_members → share_at G.pool i ≡ at shares i
  -- its kept numbers are the records'
  pub numbers : (i : ℕ) → i < most_members → kept_at G.pool i ≡ kept_at_place (G.places i)
  -- only a number with a share has a watch
  pub only_shares : (i : ℕ) (m : Member) → G.places i ≡ has m → (i < most_members) × (1 ≤ at shares i)
  -- what each keeps, or is promised where that is more, adds up to at most 1,024; so does what they keep
  pub promises : sum_below most_members (kept_or_promised shares G) ≤ most_frontiers
  pub together : sum_below most_members (λ i. kept_at_place (G.places i)) ≤ most_frontiers
  -- how many a watch may keep: its share at least, and exactly what the others neither keep nor are promised
  pub share_allowed : (i : ℕ) → i < most_members → at shares i ≤ allowance G.pool i
  pub allowed_exactly : (i : ℕ) → i < most_members
      → allowance G.pool i + sum_below most_members (λ j. cond (eqb j i) 0 (kept_or_promised shares G j))
      ≡ most_frontiers

abbrev pub NeverOver : Type 0
NeverOver = OfEveryRun WithinAllowance
