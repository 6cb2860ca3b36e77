-- The invariant of a run: the pool's numbers are the records', no promise is broken, and calls alone wrote its watches.
use Rattle.std.specs.Prelude.{ℕ, ◌≤◌, ◌<◌, ◌≡◌, List, length}
use Rattle.clocks.specs.Counts.{at}
use Rattle.numbers.specs.Limit.{most_frontiers, most_members}
use Rattle.pool.specs.Pool.{sum_below, pool_length, share_at, kept_at}
use Rattle.demands.specs.EveryList.{EightBytes}
use Rattle.demands.specs.Written.{Written}
use Rattle.pool_runs.specs.Runs.{Member, has, Pooled}
use Rattle.pool_runs.specs.statements.Within.{kept_at_place, kept_or_promised}

-- A number that has a share.
abbrev pub HasShare : (shares : List ℕ) (i : ℕ) → Type 0
HasShare shares i = (i < most_members) × (1 ≤ at shares i)

-- Calls alone wrote the watch.
abbrev pub IsWritten : (w : ℕ) (m : Member) → Type 0
IsWritten w m = EightBytes m.labels × Written m.text m.processes m.labels w m.watch

pub record Running (w : ℕ) (shares : List ℕ) (G : Pooled) : Type 0 where
  pub size : length G.pool ≡ pool_length
  pub shares_are : (i : ℕ) → i < most_members → share_at G.pool i ≡ at shares i
  pub numbers : (i : ℕ) → i < most_members → kept_at G.pool i ≡ kept_at_place (G.places i)
  pub promises : sum_below most_members (kept_or_promised shares G) ≤ most_frontiers
  pub members : (i : ℕ) (m : Member) → G.places i ≡ has m → HasShare shares i × IsWritten w m
