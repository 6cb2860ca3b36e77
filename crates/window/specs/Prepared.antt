-- What a step makes once, of its event and of the processes, so that no frontier costs a branch for each process.
use Rattle.std.specs.Prelude.{◌≡◌, ℕ, ◌-◌, ◌<◌, Bool, true, cond, not, ◌&&◌, List, ◌==◌, nat_lt}
use Rattle.codec.specs.Bit.{bit}
use Rattle.clocks.specs.declared.Event.{Event}
use Rattle.clocks.specs.Event.{one, involved, count}
use Rattle.clocks.specs.Counts.{list_of}

-- ---- To test a frontier's counts by

-- The lowest count of a process at which an event with count n there may be taken, for a process that takes part (u is
-- 1) and for another (0), and how far above it a count may lie. (A count has four bytes.)
abbrev pub lowest : ℕ → ℕ → ℕ
lowest u n = n - u

abbrev pub span_of : ℕ → ℕ → ℕ
span_of u n = cond (u == 0) (4294967295 - n) 0

-- The span, or else the lowest; and those of each process.
abbrev pub bound : Bool → ℕ → ℕ → ℕ
bound spans u n = cond spans (span_of u n) (lowest u n)

abbrev pub bound_counts : Bool → Event → List ℕ
bound_counts spans e = list_of 8 (λ p. bound spans (one (involved e p)) (count e p))

-- Every process that takes part has a count above 0: else the event can be taken nowhere, and no span is that short.
abbrev pub Counted : Event → Type 0
Counted e = (p : ℕ) → p < 8 → involved e p ≡ true → 0 < count e p

-- Which of the eight are among the k processes, and open.
abbrev pub open_ones : ℕ → ℕ → List Bool
open_ones k closed = list_of 8 (λ p. nat_lt p k && not (bit closed p))
