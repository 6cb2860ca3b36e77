-- No event tried before decided, and `seen` says whether one of them was ready: the laws `tried_pass`, `_full`,
-- `-false`, `-fits` and `-end`. No frontier before j is what the event knows of: the laws `search_next`, `_here` and
-- `-none`.
use Rattle.std.proofs.Common.{◌≡◌, ℕ, Bool, List}
use Rattle.clocks.specs.Bounded.{any_of}
use Rattle.clocks.specs.stored.SearchLaws.{passes_from}
use Rattle.frontiers.specs.declared.Frontier.{Frontier}
use Rattle.frontiers.specs.Bytes.{frontier_at, frontiers}
use Rattle.lookup.specs.Order.{same}
use Rattle.trial.specs.declared.Choice.TheVariants.{Undecided}
use Rattle.trial.specs.Trial.{Decision, valid_among, trial}
use Rattle.trial.proofs.TrialSteps.{tried_from}
use Rattle.trial.proofs.decide.Given as goal

-- The frontier is the cut that is looked for.
abbrev pub stands : List ℕ → Frontier → Bool
stands known f = same f.counts known

-- The trial from the event after so many turns on.
abbrev pub from : ℕ → List ℕ → ℕ → List ℕ → ℕ → ℕ → Bool → Decision
from w s allowed window n turn seen =
    tried_from w s (valid_among (frontiers w window n)) allowed (frontiers w window n) turn seen

abbrev pub invariant-loop-j : goal.invariant-loop-j
invariant-loop-j l = any_of (stands l.known) (frontiers l.w l.window l.n)
    ≡ passes_from l.n (frontier_at l.w l.window) (stands l.known) l.j

abbrev pub invariant-events : goal.invariant-events
invariant-events l = (seen : Bool) × (l.choice ≡ Undecided seen)
    × (trial l.w l.«record» l.allowed (frontiers l.w l.window l.n) ≡ from l.w l.«record» l.allowed l.window l.n l.turn seen)
