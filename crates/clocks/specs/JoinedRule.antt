-- The rule for valid clocks by the join, as a statement: what stood before 02 [2].
use Rattle.std.specs.Prelude.{ℕ, ◌+◌, ◌≡◌, List}
use Rattle.clocks.specs.declared.Event.{Event}
use Rattle.clocks.specs.Event.{one, involved, count}
use Rattle.clocks.specs.History.{last_clock}
use Rattle.clocks.specs.Joined.{join_to}

-- The clock is the largest of the last clocks of the processes that take part, plus 1 at those processes. The processes
-- are the first n.
pub record Joined (n : ℕ) (ts : List Event) (e : Event) : Type 0 where
  pub each : (q : ℕ) → count e q ≡ join_to n (involved e) (last_clock ts) q + one (involved e q)
