-- What the code of a step looks at: the setting made of its parameters, and the tests of one frontier by its counts
-- alone.
use Rattle.std.specs.Prelude.{ℕ, ◌+◌, ◌^◌, ◌<◌, Bool, not, ◌&&◌, ◌||◌, List, ◌==◌, nat_eq}
use Rattle.codec.specs.Bit.{bit}
use Rattle.codec.specs.Little.{Bytes}
use Rattle.clocks.specs.declared.Event.{Event}
use Rattle.clocks.specs.Event.{one}
use Rattle.clocks.specs.Counts.{at}
use Rattle.clocks.specs.Bounded.{all_below, any_below}
use Rattle.clocks.specs.Tested.{ready}
use Rattle.pactl.specs.TableBytes.{lines_of}
use Rattle.window.specs.Step.{Setting}

-- The setting of a step: eight processes are stored, k there are; the table by its bytes, the taken counts as a list.
abbrev pub setting_with : ℕ → ℕ → List ℕ → ℕ → Event → List ℕ → Setting
setting_with k closed table lines e reached = record {
  stored = 8;
  processes = k;
  closed = closed;
  table = lines_of table lines;
  event = e;
  reached = at reached;
}

-- Process p is open and has all its taken events in the counts.
abbrev pub complete_at : ℕ → List ℕ → List ℕ → ℕ → Bool
complete_at closed reached counts p = not (bit closed p) && at counts p == at reached p

-- Some open process has all its taken events in the counts.
abbrev pub complete : ℕ → ℕ → List ℕ → List ℕ → Bool
complete k closed reached counts = any_below k (complete_at closed reached counts)

-- A frontier with these counts stays.
abbrev pub stays_with : ℕ → ℕ → List ℕ → List ℕ → Bool
stays_with k closed reached counts = complete k closed reached counts || all_below 8 (λ p. nat_eq (at counts p) (at reached p))

-- How many frontiers come of one with these counts: itself if it stays, and the one that the event leads to.
abbrev pub kept_of : ℕ → ℕ → Event → List ℕ → List ℕ → ℕ
kept_of k closed e reached counts = one (stays_with k closed reached counts) + one (ready 8 e (at counts))

-- An event that bytes can hold, with counts of w bytes.
pub record Fitting (w : ℕ) (e : Event) : Type 0 where
  pub mask_fits : e.mask < 256
  pub clock_fits : (p : ℕ) → at e.clock p < 256 ^ w
  pub labels_fit : Bytes e.labels
