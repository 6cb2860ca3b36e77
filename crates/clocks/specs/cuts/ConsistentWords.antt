-- A consistent cut is what 01 says, word for word: no count above taken, and for each process with a count above 0 the
-- clock of that process's event of that number is nowhere above the cut.

-- ---- Statement

use Rattle.std.specs.Prelude.{ℕ, ◌≤◌, ◌<◌, ◌≡◌, List, ◌↔◌}
use Rattle.std.proofs.Common.{arith}
use Rattle.std.proofs.Math.Option.{some}
use Rattle.clocks.specs.declared.Event.{Event}
use Rattle.clocks.specs.History.{taken, event, Consistent}
use Rattle.clocks.specs.Event.{Cut, count}
use Rattle.clocks.specs.cuts.HistoryLaws.{event_numbered}
use Rattle.clocks.specs.cuts.CausalLaws.{clock_some, clock_cases}

pub record AsWritten (ts : List Event) (S : Cut) : Type 0 where
  pub none_above : (p : ℕ) → S p ≤ taken ts p
  pub clock_inside : (p : ℕ) → 0 < S p → (f : Event) → event ts p (S p) ≡ some f → (q : ℕ) → count f q ≤ S q

-- ---- Theorem

pub consistent_as_written : (ts : List Event) (S : Cut) → Consistent ts S ↔ AsWritten ts S
consistent_as_written ts S = (
  (λ c. record { none_above = c.within; clock_inside = λ p l f h q. rw (clock_some ts p (S p) f h q) at (c.closed p q) }),
  (λ w. record {
    within = w.none_above;
    closed = λ p q. clock_cases (λ x. x ≤ S q) ts p (S p) q (omega arith) (λ f h. w.clock_inside p (event_numbered ts p (S p) f h).first f h q);
  }),
)
