-- The invariant of a watch that was written by calls only: its bytes are those of a history with these pending events,
-- and its window holds the history's kept cuts.
use Rattle.std.specs.Prelude.{ℕ, ◌*◌, ◌≤◌, ◌<◌, ◌^◌, ◌≡◌, true, ◌⊎◌, length, get_or}
use mathlib.Core.List.{List, Memᴰ, ◌++◌}
use Rattle.frontiers.specs.declared.Frontier.{Frontier}
use Rattle.pactl.specs.declared.Line.{Line}
use Rattle.clocks.specs.declared.Event.{Event}
use Rattle.window_laws.specs.Represents.{Represents}
use Rattle.frontiers.specs.Bytes.{frontier_length, window_bytes}
use Rattle.pactl.specs.Table.{table_bytes, good_table}
use Rattle.clocks.specs.Event.{count, Cut, involved, Ready}
use Rattle.clocks.specs.History.{taken}
use Rattle.clocks.specs.Refusal.{Faultless}
use Rattle.clocks.specs.Valid.{History, WellFormed}
use Rattle.demands.specs.Ledger.{Ledger, Ordered, Clear}
use Rattle.demands.specs.Status.{record_bytes}
use Rattle.demands.specs.World.{world_of, status_of, Valid, Open}
use Rattle.demands.specs.bytes.Sized.{Storable}

-- What an accepted open guarantees of the number of processes, the table and the start labels.
pub record Rule (w k : ℕ) (table : List Line) (start : Cut) : Type 0 where
  pub some_byte : 0 < w
  pub some_process : 0 < k
  pub eight_processes : k ≤ 8
  pub good : good_table k table ≡ true
  pub some_line : 0 < length table
  pub short : length table ≤ 64
  pub line_bytes : (i : ℕ) → get_or (table_bytes table) i 0 < 256
  pub labels_fit : (p : ℕ) → start p < 256

-- An event has eight counts and eight labels.
pub record Eight (e : Event) : Type 0 where
  pub counts : length e.clock ≡ 8
  pub labels : length e.labels ≡ 8

-- What is true of the ledger of a watch of k processes.
pub record Kept_right (k : ℕ) (valid : List Event → Event → Type 0) (L : Ledger) : Type 0 where
  pub by_rule : History k valid L.history
  -- a pending event's own counts are not taken yet
  pub formed : (e : Event) → Memᴰ e L.pending → WellFormed k e
  pub untaken : (e : Event) → Memᴰ e L.pending → (p : ℕ) → involved e p ≡ true
      → taken L.history p < count e p
  -- an event that left with a false clock was ready then, and its clock was not valid
  pub was_ready : (e : Event) → Memᴰ e L.falsified
      → (us ts : List Event) × (L.history ≡ us ++ ts) × Ready e (taken ts) × (valid ts e → ⊥)
  pub eight : (e : Event)
      → Memᴰ e L.history ⊎ (Memᴰ e L.pending ⊎ Memᴰ e L.falsified) → Eight e

-- The invariant.
pub record Watching (w k : ℕ) (table : List Line) (start : Cut) (L : Ledger) (bytes window : List ℕ) : Type 0 where
  pub kept : List Frontier
  pub bytes_are : bytes ≡ record_bytes w (status_of k table (length kept) L)
  pub window_is : window ≡ window_bytes w (length window) kept
  pub room : length kept * frontier_length w ≤ length window
  pub few : length kept ≤ 1024
  pub represents : Represents (world_of k L.closed table start) L.history kept
  pub right : Kept_right k Valid L
  pub ordered : Ordered L.pending
  pub clear : Clear L.pending
  pub faultless : (e : Event) → Memᴰ e L.history ⊎ Memᴰ e L.pending → Faultless k e
  pub storable : (e : Event) → Memᴰ e L.history ⊎ Memᴰ e L.pending → Storable w e
  pub many : length L.pending ≤ 32
  -- only processes that there are were closed, and no pending event names one of them
  pub closed_below : L.closed < 2 ^ k
  pub names_open : (e : Event) → Memᴰ e L.pending → (p : ℕ) → involved e p ≡ true → Open L.closed p
