-- What the functions' contracts cite beside the definitions.
use Rattle.std.specs.Prelude.{ℕ, cond, List, eqb}
use Rattle.pool.specs.Pool.{above_share}

-- How many of the unpromised frontiers watch j is using, and 0 for watch i itself.
abbrev pub used_by : (pool : List ℕ) (i j : ℕ) → ℕ
used_by pool i j = cond (eqb j i) 0 (above_share pool j)
