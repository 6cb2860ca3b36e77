-- The test of the counts passed, one more each turn: the laws `all_more` and `same-all`.
use Rattle.std.proofs.Common.{◌≡◌, ℕ, Bool, List, eqb}
use Rattle.clocks.specs.Bounded.{all_below}
use Rattle.clocks.specs.Counts.{at}
use Rattle.lookup.proofs.order.counts_same.Given as goal

-- The counts at p are the same.
abbrev pub test : List ℕ → List ℕ → ℕ → Bool
test a b p = eqb (at a p) (at b p)

abbrev pub invariant-loop-p : goal.invariant-loop-p
invariant-loop-p l = l.all ≡ all_below l.p (test l.a l.b)
