-- Records that can be stored, and what the calls change in one.
use Rattle.std.specs.Prelude.{ℕ, ◌^◌, ◌≤◌, ◌<◌, ◌≡◌, cond, length, get_or}
use mathlib.Core.List.{List, [], Memᴰ}
use Rattle.pactl.specs.declared.Line.{Line}
use Rattle.clocks.specs.declared.Event.{Event}
use Rattle.pactl.specs.Table.{table_bytes}
use Rattle.clocks.specs.Event.{count, involved, apply}
use Rattle.clocks.specs.Counts.{at}
use Rattle.demands.specs.Status.{Status}

-- An event that can be stored: a mask of eight bits, eight counts that fit, eight label bytes.
pub record Storable (w : ℕ) (e : Event) : Type 0 where
  pub mask_fits : e.mask < 256
  pub eight_counts : length e.clock ≡ 8
  pub counts_fit : (p : ℕ) → at e.clock p < 256 ^ w
  pub eight_labels : length e.labels ≡ 8
  pub labels_fit : (p : ℕ) → at e.labels p < 256

-- A record that can be stored.
pub record Sized (w : ℕ) (t : Status) : Type 0 where
  pub processes_fit : t.processes < 256
  pub short : length t.table ≤ 64
  pub line_bytes : (i : ℕ) → (get_or (table_bytes t.table) i 0) < 256
  pub closed_fits : t.closed < 256
  pub kept_fits : t.kept < 4294967296
  pub counts_fit : (p : ℕ) → t.counts p < 256 ^ w
  pub clocks_fit : (p q : ℕ) → t.clocks p q < 256 ^ w
  pub few : length t.pending ≤ 32
  pub storable : (e : Event) → Memᴰ e t.pending → Storable w e

-- Other pending events.
abbrev pub with_pending : Status → List Event → Status
with_pending t es = record {
  processes = t.processes;
  table = t.table;
  closed = t.closed;
  kept = t.kept;
  counts = t.counts;
  clocks = t.clocks;
  pending = es;
}

-- Other closed processes, with the frontiers kept then.
abbrev pub with_closed : Status → ℕ → ℕ → Status
with_closed t closed kept = record {
  processes = t.processes;
  table = t.table;
  closed = closed;
  kept = kept;
  counts = t.counts;
  clocks = t.clocks;
  pending = t.pending;
}

-- An event taken: the counts with it, its clock as the last one of its processes, the frontiers kept.
abbrev pub with_taken : Status → Event → ℕ → Status
with_taken t e kept = record {
  processes = t.processes;
  table = t.table;
  closed = t.closed;
  kept = kept;
  counts = apply e t.counts;
  clocks = λ p. cond (involved e p) (count e) (t.clocks p);
  pending = t.pending;
}

-- A new watch.
abbrev pub first_status : ℕ → List Line → Status
first_status k table = record {
  processes = k;
  table = table;
  closed = 0;
  kept = 1;
  counts = λ p. 0;
  clocks = λ p q. 0;
  pending = [];
}
