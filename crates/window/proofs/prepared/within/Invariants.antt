-- The test of the processes passed, one more each turn.
use Rattle.std.proofs.Common.{◌≡◌, ℕ, Bool, true, false, List}
use Rattle.clocks.specs.declared.Event.{Event}
use Rattle.clocks.specs.Event.{involved, count}
use Rattle.clocks.specs.Counts.{at}
use Rattle.clocks.specs.Bounded.{all_below}
use Rattle.clocks.specs.Tested.{ready_at}
use Rattle.window.specs.Prepared.{bound_counts, Counted}
use Rattle.window.proofs.prepared.within.Given as goal

-- What the event asks of process p.
abbrev pub test : Event → List ℕ → ℕ → Bool
test e counts p = ready_at (involved e p) (count e p) (at counts p)

abbrev pub invariant-loop-p : goal.invariant-loop-p
invariant-loop-p l = (e : Event) → Counted e → l.low ≡ bound_counts false e → l.span ≡ bound_counts true e → l.all ≡ all_below l.p (test e l.counts)
