-- What the code of the shared calls keeps to: the number that one is turned back with, and the pool by the reply word.
use Rattle.std.specs.Prelude.{ℕ, ◌%◌, cond, ◌||◌, List, eqb, length}
use Rattle.records.specs.Record.{kept_count}
use Rattle.pool.specs.Pool.{bad_pool_length, no_share, brought_up}

-- The number that a shared call is turned back with, by that of the plain call; 0 for none. Only the plain 6 is told
-- before what the pool refuses.
unfoldable pub shared_fault : (plain : ℕ) (pool : List ℕ) (i : ℕ) → ℕ
shared_fault plain pool i =
    cond (eqb plain 6 || bad_pool_length (length pool)) 6 (cond (no_share pool i) 34 plain)

-- The pool after a call of watch i with this reply, which left this record.
unfoldable pub pool_by : (pool : List ℕ) (i reply : ℕ) (s : List ℕ) → List ℕ
pool_by pool i reply s = cond (eqb (reply % 256) 0) (brought_up pool i (kept_count s)) pool
