-- The number that an event is turned back with, as the code finds it.
use Rattle.std.specs.Prelude.{ℕ, cond, List}
use Rattle.numbers.specs.Refusal.{clock_number, labels_number, mask_number}
use Rattle.clocks.specs.Refusal.{bad_clock, bad_labels, bad_mask}

-- The number that an event is turned back with, in their order; 0 for none (01: order of offer, 7, 8, 9).
unfoldable pub event_fault : ℕ → ℕ → List ℕ → List ℕ → ℕ
event_fault k m clock labels = cond (bad_mask k m) mask_number (cond (bad_clock k m clock) clock_number
    (cond (bad_labels m labels) labels_number 0))
