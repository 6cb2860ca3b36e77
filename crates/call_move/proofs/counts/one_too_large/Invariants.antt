-- The test of the counts passed, one more each turn: the law `any_more`.
use Rattle.std.proofs.Common.{◌≡◌, ℕ, Bool, List}
use Rattle.clocks.specs.Bounded.{any_below}
use Rattle.clocks.specs.Counts.{at}
use Rattle.call_move.specs.Move.{too_large}
use Rattle.call_move.proofs.counts.one_too_large.Given as goal

-- The count at i is too large.
abbrev pub test : ℕ → List ℕ → ℕ → Bool
test w counts i = too_large w (at counts i)

abbrev pub invariant-loop-count : goal.invariant-loop-count
invariant-loop-count l = l.some ≡ any_below l.count-index (test l.w l.fn.counts)
