-- Closed processes (02 [5]): what a close after a list of calls answers and leaves, and exactly when; which offers it
-- shuts out; and that a cut which was dropped stays dropped. What the window holds then is WindowExact's. Proved in
-- lists/Close and lists/Dropped.
use Rattle.std.specs.Prelude.{ℕ, ◌≤◌, ◌<◌, ◌≡◌, true, false, ◌⊎◌, ◌↔◌, ◌≢◌, length}
use mathlib.Core.List.{List, Memᴰ}
use Rattle.codec.specs.Bit.{bit}
use Rattle.clocks.specs.declared.Event.{Event}
use Rattle.clocks.specs.Event.{Cut, involved}
use Rattle.clocks.specs.History.{Consistent}
use Rattle.clocks.specs.Refusal.{Faultless}
use Rattle.rules.specs.Formula.{Formula}
use Rattle.numbers.specs.Refusal.{length_number, named_number, not_open_number, state_number}
use Rattle.refusals.specs.Refusals.{bad_window_length}
use Rattle.answers.specs.Answer.{turned_back, process_closed}
use Rattle.call_close.specs.Close.{Closed, closing, close_call}
use Rattle.call_offer.specs.Offer.{offered_event, offer_call}
use Rattle.demands.specs.Ledger.{Ledger}
use Rattle.demands.specs.Run.{Call, offers, closes, Passed, Watch, after, run}
use Rattle.demands.specs.World.{Open, Stays, KeptNumber}
use Rattle.demands.specs.EveryList.{AllPassed, AfterEveryList, NamesClosed}

-- ---- The next close

abbrev pub next_close : (w : ℕ) (Z : Watch) (p : ℕ) → Closed
next_close w Z p = close_call w p Z.bytes Z.window

-- The window has a right length: 6 does not come.
abbrev pub RightWindow : (w : ℕ) (Z : Watch) → Type 0
RightWindow w Z = bad_window_length w (length Z.window) ≡ false

-- A pending event names the process.
abbrev pub NamesProcess : (p : ℕ) (L : Ledger) → Type 0
NamesProcess p L = (e : Event) × Memᴰ e L.pending × (involved e p ≡ true)

-- The ledger with process p closed.
abbrev pub closed_with : (L : Ledger) (p : ℕ) → Ledger
closed_with L p = record {
  history = L.history;
  pending = L.pending;
  falsified = L.falsified;
  closed = closing L.closed p;
}

pub record CloseExact (w k : ℕ) (f : Formula) (start : Cut) (Z : Watch) : Type 0 where
  pub wrong_length : (p : ℕ)
      → ((next_close w Z p).answer ≡ turned_back length_number 0) ↔ (bad_window_length w (length Z.window) ≡ true)
  -- 41: not below k, or closed already
  pub not_open : RightWindow w Z → (p : ℕ)
      → ((next_close w Z p).answer ≡ turned_back not_open_number 0) ↔ ((k ≤ p) ⊎ (bit Z.ledger.closed p ≡ true))
  -- 42: below k and open, and a pending event names it
  pub named : RightWindow w Z → (p : ℕ)
      → ((next_close w Z p).answer ≡ turned_back named_number 0)
      ↔ ((p < k) × Open Z.ledger.closed p × NamesProcess p Z.ledger)
  -- else it is closed; the answer is the number of cuts that are kept with the open processes that are left
  pub closes_exactly : RightWindow w Z → (p n : ℕ)
      → ((next_close w Z p).answer ≡ process_closed n)
      ↔ ((p < k) × Open Z.ledger.closed p × (NamesProcess p Z.ledger → ⊥)
      × KeptNumber k (closing Z.ledger.closed p) Z.ledger.history n)
  -- and it is one of these
  pub no_other : RightWindow w Z → (p : ℕ)
      → ((next_close w Z p).answer ≡ turned_back not_open_number 0)
      ⊎ (((next_close w Z p).answer ≡ turned_back named_number 0)
      ⊎ ((n : ℕ) × ((next_close w Z p).answer ≡ process_closed n)))
  -- the ledger of an accepted close has the process closed, and is the same in all else
  pub ledger_closed : (p n : ℕ) → (next_close w Z p).answer ≡ process_closed n
      → (after w (closes p) Z).ledger ≡ closed_with Z.ledger p
  pub never_34 : (p : ℕ) → (next_close w Z p).answer ≢ turned_back state_number 0
  -- the mask with p: p is closed in it, and what else was closed
  pub closes_one : (p q : ℕ) → Open (closing Z.ledger.closed p) q ↔ ((q ≢ p) × Open Z.ledger.closed q)
  -- an offer is 42 exactly if nothing before turns it back and it names a closed process, be it taken already or not
  pub shut_out : (mask : ℕ) (clock labels : List ℕ) → Passed w (offers mask clock labels)
      → ((offer_call w mask clock labels Z.bytes).answer ≡ turned_back named_number 0)
      ↔ ((mask < 256) × Faultless k (offered_event mask clock labels) × NamesClosed Z (offered_event mask clock labels))

abbrev pub CloseIsExact : Type 0
CloseIsExact = AfterEveryList CloseExact

-- ---- What was dropped

-- Whatever calls follow: a consistent cut of the taken events that is not kept is not kept at their end.
abbrev pub StaysDropped : (w k : ℕ) (f : Formula) (start : Cut) (Y : Watch) → Type 0
StaysDropped w k f start Y =
    (cs : List Call) → AllPassed w cs → (S : Cut) → Consistent Y.ledger.history S
    → (Stays k Y.ledger.closed Y.ledger.history S → ⊥)
    → let Z = run w cs Y in Stays k Z.ledger.closed Z.ledger.history S → ⊥

abbrev pub DroppedStaysDropped : Type 0
DroppedStaysDropped = AfterEveryList StaysDropped
