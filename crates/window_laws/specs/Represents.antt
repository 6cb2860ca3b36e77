-- What a window holds: exactly the kept cuts of a history, each once, in ascending order, each with its labels, the
-- masks of its last events, and the truth of every line (01, The window; demand 2).
use Rattle.std.specs.Prelude.{ℕ, ◌≤◌, ◌<◌, ◌≡◌, Bool, true, not}
use mathlib.Core.List.{List, ◌∷◌, map, Memᴰ}
use Rattle.clocks.specs.declared.Event.{Event}
use Rattle.codec.specs.Bit.{bit}
use Rattle.pactl.specs.Table.{good_table}
use Rattle.clocks.specs.History.{taken}
use Rattle.clocks.specs.Event.{Cut}
use Rattle.clocks.specs.Kept.{KeptCut}
use Rattle.clocks.specs.Valid.{History, ClockRule}
use Rattle.frontiers.specs.declared.Frontier.{Frontier}
use Rattle.window.specs.Step.{Setting}
use Rattle.window_laws.specs.FrontierOf.{World, frontier_of, Sorted}

-- The processes that are open.
abbrev pub open_in : (W : World) (p : ℕ) → Bool
open_in W p = not (bit W.closed p)

-- A kept cut after a history.
abbrev pub KeptIn : (W : World) (ts : List Event) (S : Cut) → Type 0
KeptIn W ts S = KeptCut W.processes (open_in W) ts S

-- The frontiers are those of the kept cuts.
pub record Represents (W : World) (ts : List Event) (fs : List Frontier) : Type 0 where
  pub cuts : List Cut
  pub are : fs ≡ map (frontier_of W ts) cuts
  pub sorted : Sorted W.stored cuts
  pub kept : (S : Cut) → Memᴰ S cuts → KeptIn W ts S
  pub complete : (S : Cut) → KeptIn W ts S → Memᴰ S cuts

-- The setting of a step for an event after a history.
abbrev pub setting_of : (W : World) (ts : List Event) (e : Event) → Setting
setting_of W ts e = record {
  stored = W.stored;
  processes = W.processes;
  closed = W.closed;
  table = W.table;
  event = e;
  reached = taken (e ∷ ts);
}

-- What is asked of a world and a history under a rule for valid clocks.
pub record Proper (W : World) (valid : List Event → Event → Type 0) (ts : List Event) : Type 0 where
  pub some_process : 0 < W.processes
  pub room : W.processes ≤ W.stored
  pub rule : ClockRule W.processes valid
  pub by_rule : History W.processes valid ts
  pub good : good_table W.processes W.table ≡ true
