-- Independence of order (demand 3; 02 [5]): two lists of calls that accepted the same events, in whatever order, closed
-- the same processes, wherever in the lists, and both end with "nothing ready", end alike. With moves among the calls:
-- statements/EveryWatch. Proved in lists/OrderIndependent.
use Rattle.std.specs.Prelude.{ℕ, ◌*◌, ◌<◌, ◌≡◌, Bool, false, ◌↔◌, length, take}
use mathlib.Core.List.{List, Memᴰ}
use Rattle.clocks.specs.declared.Event.{Event}
use Rattle.frontiers.specs.Bytes.{frontiers, frontier_length}
use Rattle.rules.specs.Formula.{Formula}
use Rattle.rules.specs.Text.{text_of}
use Rattle.rules.specs.Reader.{read_rule, formed}
use Rattle.clocks.specs.Event.{Cut}
use Rattle.clocks.specs.History.{In}
use Rattle.clocks.specs.Counts.{at}
use Rattle.records.specs.Record.{kept_count}
use Rattle.refusals.specs.Refusals.{bad_window_length}
use Rattle.answers.specs.Answer.{state}
use Rattle.call_find.specs.Find.{find_call}
use Rattle.demands.specs.Ledger.{Settled}
use Rattle.demands.specs.Run.{Watch, Call}
use Rattle.demands.specs.Verdict.{Truthful}
use Rattle.demands.specs.EveryList.{Accepts, EightBytes, AllPassed, at_end, EndsQuiet, SameAccepted, SameClosed}
use Rattle.demands.specs.statements.WindowExact.{WindowExact}

-- What is shown of the two watches at the ends.
pub record Alike (w k : ℕ) (f : Formula) (start : Cut) (Y Z : Watch) : Type 0 where
  -- the records are equal in every byte, that of the closed processes too, and so are the kept frontiers
  pub same_record : Y.bytes ≡ Z.bytes
  pub same_window : take (kept_count Y.bytes * frontier_length w) Y.window
      ≡ take (kept_count Z.bytes * frontier_length w) Z.window
  pub same_frontiers : frontiers w Y.window (kept_count Y.bytes) ≡ frontiers w Z.window (kept_count Z.bytes)
  -- so a find answers alike of every line, where both windows have right lengths (02 [4])
  pub same_finds : bad_window_length w (length Y.window) ≡ false → bad_window_length w (length Z.window) ≡ false
      → (line : ℕ) → find_call w line Y.bytes Y.window ≡ find_call w line Z.bytes Z.window
  -- these are what demand 2 states
  pub first_exact : WindowExact w k f start Y
  pub second_exact : WindowExact w k f start Z
  -- the same events were taken, and the same are pending; the taken counts allow none of those
  pub same_events_taken : (e : Event) → In e Y.ledger.history ↔ In e Z.ledger.history
  pub same_pending_events : Y.ledger.pending ≡ Z.ledger.pending
  pub none_allowed : Settled Y.ledger × Settled Z.ledger
  -- every verdict that either reported is PaCTL's at its cut, over all consistent cuts of the events taken by that
  -- list's end
  pub first_truthful : Truthful k f start Y.ledger.history Y.answers
  pub second_truthful : Truthful k f start Z.ledger.history Z.answers
  -- so a state that both reported had one verdict
  pub one_verdict : (counts : List ℕ) (t u : Bool) (m n : ℕ)
      → Memᴰ (state counts t m) Y.answers → Memᴰ (state counts u n) Z.answers → t ≡ u

-- The two windows, and the buffers that open was lent, may differ; the rule text, the number of processes and the start
-- labels are the same, and so is the formula that the reader reads.
abbrev pub OrderIndependent : Type 0
OrderIndependent =
    (w : ℕ) → 0 < w → (text : List ℕ) (k : ℕ) (labels : List ℕ) → EightBytes labels
    → (s window : List ℕ) → Accepts w text k labels s window → (cs : List Call) → AllPassed w cs
    → (s' window' : List ℕ) → Accepts w text k labels s' window' → (cs' : List Call) → AllPassed w cs'
    → EndsQuiet (at_end w text k labels s window cs) → EndsQuiet (at_end w text k labels s' window' cs')
    → SameAccepted (at_end w text k labels s window cs) (at_end w text k labels s' window' cs')
    → SameClosed (at_end w text k labels s window cs) (at_end w text k labels s' window' cs')
    → (f : Formula) × (i : ℕ) × (read_rule text k ≡ formed i f) × (text_of f ≡ text)
    × Alike w k f (at labels) (at_end w text k labels s window cs) (at_end w text k labels s' window' cs')
