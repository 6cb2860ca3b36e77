-- What the bytes of a watch are said to mean: the world in which its rule is judged, its rule for valid clocks, the
-- cuts that it keeps, its record's contents.
use Rattle.std.specs.Prelude.{ℕ, ◌<◌, ◌≡◌, false, ◌⊎◌, ◌↔◌, length}
use mathlib.Core.List.{List, Memᴰ}
use Rattle.pactl.specs.declared.Line.{Line}
use Rattle.clocks.specs.declared.Event.{Event}
use Rattle.window_laws.specs.FrontierOf.{World, Sorted, model_of, frontier_of}
use Rattle.clocks.specs.Event.{Cut}
use Rattle.clocks.specs.History.{taken, last_clock, Consistent}
use Rattle.clocks.specs.Valid.{Known}
use Rattle.demands.specs.Ledger.{Ledger}
use Rattle.demands.specs.Status.{Status}
use Rattle.codec.specs.Bit.{bit}
use Rattle.rules.specs.Formula.{Formula}
use Rattle.rules.specs.Line.{lines_at}
use Rattle.pactl.specs.Truth.{Model}
use Rattle.frontiers.specs.declared.Frontier.{Frontier}

-- The world of a watch: eight processes stored, k there, those of a mask closed.
abbrev pub world_of : (k closed : ℕ) (table : List Line) (start : Cut) → World
world_of k closed table start = record { stored = 8; processes = k; closed = closed; start = start; table = table }

-- With the rule of a formula: the model in which it is judged after a history, and the frontier of a cut. Which
-- processes are closed makes no difference to either.
abbrev pub model_after : (k : ℕ) (f : Formula) (start : Cut) (ts : List Event) → Model
model_after k f start ts = model_of (world_of k 0 (lines_at 0 f) start) ts

abbrev pub frontier_after : (k : ℕ) (f : Formula) (start : Cut) (ts : List Event) (S : Cut) → Frontier
frontier_after k f start ts S = frontier_of (world_of k 0 (lines_at 0 f) start) ts S

-- The rule for valid clocks of a watch: what the event knows of is a consistent cut of the events taken (02 [2]; 01,
-- Clocks and cuts: true).
abbrev pub Valid : (ts : List Event) (e : Event) → Type 0
Valid ts e = Known ts e

-- Process p is open: it is none of the closed ones.
abbrev pub Open : (closed p : ℕ) → Type 0
Open closed p = bit closed p ≡ false

-- Some open process has all its taken events in the cut, or it is the largest (01, The window: dropped; 02 [5]).
abbrev pub Stays : (k closed : ℕ) (ts : List Event) (S : Cut) → Type 0
Stays k closed ts S = ((p : ℕ) × (p < k) × Open closed p × (S p ≡ taken ts p)) ⊎ (S ≡ taken ts)

-- The kept cuts of a history with these processes closed, each once, in ascending order of their counts: exactly the
-- consistent cuts that stay (01, The window; demand 2; 02 [5]). There is one such list.
pub record KeptCuts (k closed : ℕ) (ts : List Event) (cuts : List Cut) : Type 0 where
  pub ascending : Sorted 8 cuts
  pub exactly : (S : Cut) → Memᴰ S cuts ↔ (Consistent ts S × Stays k closed ts S)

-- There are n of them.
abbrev pub KeptNumber : (k closed : ℕ) (ts : List Event) (n : ℕ) → Type 0
KeptNumber k closed ts n = (cuts : List Cut) × KeptCuts k closed ts cuts × (length cuts ≡ n)

-- The record's contents after a history.
abbrev pub status_of : (k : ℕ) (table : List Line) (kept : ℕ) (L : Ledger) → Status
status_of k table kept L = record {
  processes = k;
  table = table;
  closed = L.closed;
  kept = kept;
  counts = taken L.history;
  clocks = last_clock L.history;
  pending = L.pending;
}
