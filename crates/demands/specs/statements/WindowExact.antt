-- What a window holds (demand 2): after every list of calls, exactly the kept cuts of the taken events, each with the
-- truth of every line; what the record says; when nothing is ready. Proved in lists/WindowExact.
use Rattle.std.specs.Prelude.{ℕ, ◌-◌, ◌^◌, ◌≤◌, ◌<◌, ◌≡◌, false, ◌↔◌, ◌≢◌, length}
use mathlib.Core.List.{List, map, Memᴰ}
use Rattle.frontiers.specs.declared.Frontier.{Frontier}
use Rattle.codec.specs.Bit.{bit}
use Rattle.frontiers.specs.Bytes.{frontiers, window_bytes}
use Rattle.rules.specs.Line.{lines_at}
use Rattle.pactl.specs.Truth.{holds, line_truth}
use Rattle.rules.specs.Formula.{Formula, meaning}
use Rattle.clocks.specs.declared.Event.{Event}
use Rattle.clocks.specs.Event.{Cut}
use Rattle.clocks.specs.History.{taken, Consistent}
use Rattle.clocks.specs.Valid.{History, WellFormed}
use Rattle.records.specs.Record.{kept_count}
use Rattle.refusals.specs.Refusals.{bad_state}
use Rattle.answers.specs.Answer.{turned_back, nothing_ready}
use Rattle.demands.specs.Ledger.{Settled, Ordered, Clear}
use Rattle.demands.specs.Run.{Watch}
use Rattle.demands.specs.Status.{record_bytes}
use Rattle.demands.specs.World.{status_of, Valid, KeptCuts, model_after, frontier_after}
use Rattle.demands.specs.EveryList.{AfterEveryList, RightLengths, next_take, NamesOpen}
use Rattle.numbers.specs.Refusal.{state_number}

pub record WindowExact (w k : ℕ) (f : Formula) (start : Cut) (Z : Watch) : Type 0 where
  pub frontiers_kept : List Frontier
  pub cuts : List Cut
  -- the record's bytes are those of the taken and the pending events, the window's those of the kept frontiers and
  -- then zeros
  pub record_is : Z.bytes ≡ record_bytes w (status_of k (lines_at 0 f) (length frontiers_kept) Z.ledger)
  pub window_is : Z.window ≡ window_bytes w (length Z.window) frontiers_kept
  pub read_back : frontiers w Z.window (kept_count Z.bytes) ≡ frontiers_kept
  -- exactly the consistent cuts in which some open process has all its taken events, and the largest cut; each once, in
  -- ascending order
  pub cuts_are : KeptCuts k Z.ledger.closed Z.ledger.history cuts
  -- with no process closed: exactly those in which some process has all its taken events
  pub none_closed : Z.ledger.closed ≡ 0 → (S : Cut)
      → Memᴰ S cuts
      ↔ (Consistent Z.ledger.history S × ((p : ℕ) × (p < k) × (S p ≡ taken Z.ledger.history p)))
  -- ... each with its labels, masks and values
  pub frontiers_are : frontiers_kept ≡ map (frontier_after k f start Z.ledger.history) cuts
  -- bit i of a frontier's values is PaCTL's truth of line i there; the bits from the number of lines up are 0
  pub line_true : (S : Cut) (i : ℕ) → i < length (lines_at 0 f)
      → bit (frontier_after k f start Z.ledger.history S).values i
      ≡ line_truth (model_after k f start Z.ledger.history) (lines_at 0 f) i S
  pub no_more_bits : (S : Cut) (i : ℕ) → length (lines_at 0 f) ≤ i
      → bit (frontier_after k f start Z.ledger.history S).values i ≡ false
  -- the last line is the rule: the truth, by source 000, of the formula whose text was opened
  pub rule_true : line_truth (model_after k f start Z.ledger.history) (lines_at 0 f)
      (length (lines_at 0 f) - 1)
      ≡ holds (model_after k f start Z.ledger.history) (meaning f)
  -- the taken events are a history: each was ready and had a true clock when it was taken
  pub history_true : History k Valid Z.ledger.history
  -- each pending event names processes that there are, and counts no other (MessagesExact: clock-exactly asks for it)
  pub pending_formed : (e : Event) → Memᴰ e Z.ledger.pending → WellFormed k e
  -- the pending events stand in the order of lowest process and count, and no two have the same count at a common
  -- process
  pub pending_ordered : Ordered Z.ledger.pending
  pub pending_apart : Clear Z.ledger.pending
  -- a closed process is one that there is, and no pending event names it
  pub closed_below : Z.ledger.closed < 2 ^ k
  pub pending_open : (e : Event) → Memᴰ e Z.ledger.pending → NamesOpen Z e
  -- "nothing ready" is the next take's answer, where 6 does not come, exactly when the taken counts allow no pending
  -- event
  pub nothing_ready : (cap more : ℕ) (scratch : List ℕ) → RightLengths w Z more scratch
      → ((next_take w Z cap more scratch).answer ≡ nothing_ready) ↔ Settled Z.ledger
  -- 34 never comes: its condition does not hold with any room for what is kept, which is at most 1,024 (the room that
  -- an offer is judged by), and no take answers it
  pub kept_few : kept_count Z.bytes ≤ 1024
  pub state_good : (room : ℕ) → kept_count Z.bytes ≤ room → bad_state w room Z.bytes ≡ false
  pub never_34 : (cap more : ℕ) (scratch : List ℕ) → (next_take w Z cap more scratch).answer ≢ turned_back state_number 0

abbrev pub WindowIsExact : Type 0
WindowIsExact = AfterEveryList WindowExact
