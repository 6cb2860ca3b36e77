-- What the next take after a list of calls answers, and exactly when (demand 2; 01, The calls: take). Proved in
-- lists/TakeAnswers.
use Rattle.std.specs.Prelude.{ℕ, ◌+◌, ◌≤◌, ◌<◌, ◌≡◌, Bool, ◌⊎◌, ◌↔◌, ◌≢◌}
use mathlib.Core.List.{List, ◌∷◌, ◌++◌, Memᴰ}
use Rattle.clocks.specs.declared.Event.{Event}
use Rattle.pactl.specs.Truth.{holds}
use Rattle.rules.specs.Formula.{Formula, meaning}
use Rattle.clocks.specs.Event.{Cut, Ready}
use Rattle.clocks.specs.History.{taken}
use Rattle.clocks.specs.Counts.{list_of}
use Rattle.records.specs.Record.{pending_count}
use Rattle.call_take.specs.Take.{allowed_of}
use Rattle.answers.specs.Answer.{turned_back, state, nothing_ready}
use Rattle.demands.specs.Ledger.{Ledger, Settled}
use Rattle.demands.specs.Run.{Watch, after, takes}
use Rattle.demands.specs.World.{Valid, KeptNumber, model_after}
use Rattle.demands.specs.EveryList.{AfterEveryList, lent_window, RightLengths, next_take}
use Rattle.numbers.specs.Refusal.{false_clock_number, length_number, no_room_number, state_number}

-- ---- What take comes to, where so many frontiers are allowed

-- An event that a take passes over: where it is ready, its clock is true, and the kept cuts with it are more than are
-- allowed.
abbrev pub PassedOver : (k closed allowed : ℕ) (ts : List Event) (e : Event) → Type 0
PassedOver k closed allowed ts e =
    Ready e (taken ts) → Valid ts e × ((n : ℕ) × KeptNumber k closed (e ∷ ts) n × (allowed < n))

-- The event at which a take stops: a pending one that is ready, where those before it are passed over.
pub record StopsAt (k allowed : ℕ) (L : Ledger) (e : Event) : Type 0 where
  pub earlier : List Event
  pub later : List Event
  pub pending_are : L.pending ≡ earlier ++ (e ∷ later)
  pub ready : Ready e (taken L.history)
  pub passed : (f : Event) → Memᴰ f earlier → PassedOver k L.closed allowed L.history f

-- The ledger with an event gone with a false clock, or taken, where these stay pending.
abbrev pub falsified_ledger : (L : Ledger) (e : Event) (others : List Event) → Ledger
falsified_ledger L e others = record {
  history = L.history;
  pending = others;
  falsified = e ∷ L.falsified;
  closed = L.closed;
}

abbrev pub chosen_ledger : (L : Ledger) (e : Event) (others : List Event) → Ledger
chosen_ledger L e others = record {
  history = e ∷ L.history;
  pending = others;
  falsified = L.falsified;
  closed = L.closed;
}

-- 36: some pending event is ready, and all are passed over.
abbrev pub NoRoom : (k allowed : ℕ) (L : Ledger) → Type 0
NoRoom k allowed L =
    ((e : Event) × Memᴰ e L.pending × Ready e (taken L.history))
    × ((e : Event) → Memᴰ e L.pending → PassedOver k L.closed allowed L.history e)

-- 35: it stops at an event whose clock is not true.
abbrev pub FalseClock : (k allowed : ℕ) (L : Ledger) → Type 0
FalseClock k allowed L = (e : Event) × StopsAt k allowed L e × (Valid L.history e → ⊥)

-- It stops at an event whose clock is true and with which the kept cuts are allowed, and answers the counts with it,
-- the rule's truth by source 000 at the cut of these counts, and the number of the kept cuts.
pub record Takes (k allowed : ℕ) (f : Formula) (start : Cut) (L : Ledger) (counts : List ℕ) (truth : Bool) (kept : ℕ)
    : Type 0 where
  pub event : Event
  pub stops : StopsAt k allowed L event
  pub true_clock : Valid L.history event
  pub kept_are : KeptNumber k L.closed (event ∷ L.history) kept
  pub fits : kept ≤ allowed
  pub counts_are : counts ≡ list_of 8 (taken (event ∷ L.history))
  pub truth_is : truth ≡ holds (model_after k f start (event ∷ L.history)) (meaning f) (taken (event ∷ L.history))

-- ---- The answers of the next take

-- How many frontiers it may use: the lesser of its cap and the room of the lent window.
abbrev pub allowed_next : (w : ℕ) (Z : Watch) (cap more : ℕ) → ℕ
allowed_next w Z cap more = allowed_of w cap (lent_window Z more)

-- The ledger after it.
abbrev pub next_ledger : (w : ℕ) (Z : Watch) (cap more : ℕ) (scratch : List ℕ) → Ledger
next_ledger w Z cap more scratch = (after w (takes cap more scratch) Z).ledger

-- The answers where the lengths are right.
pub record AnswersExact (w k : ℕ) (f : Formula) (start : Cut) (Z : Watch) (cap more : ℕ) (scratch : List ℕ)
    : Type 0 where
  pub nothing_exactly : ((next_take w Z cap more scratch).answer ≡ nothing_ready) ↔ Settled Z.ledger
  pub full_exactly : ((next_take w Z cap more scratch).answer ≡ turned_back no_room_number 0)
      ↔ NoRoom k (allowed_next w Z cap more) Z.ledger
  pub false_exactly : ((next_take w Z cap more scratch).answer ≡ turned_back false_clock_number 0)
      ↔ FalseClock k (allowed_next w Z cap more) Z.ledger
  pub state_exactly : (counts : List ℕ) (truth : Bool) (kept : ℕ)
      → ((next_take w Z cap more scratch).answer ≡ state counts truth kept)
      ↔ Takes k (allowed_next w Z cap more) f start Z.ledger counts truth kept
  -- and it is one of these
  pub no_other :
      ((next_take w Z cap more scratch).answer ≡ nothing_ready)
      ⊎ (((next_take w Z cap more scratch).answer ≡ turned_back no_room_number 0)
      ⊎ (((next_take w Z cap more scratch).answer ≡ turned_back false_clock_number 0)
      ⊎ ((counts : List ℕ) × (truth : Bool) × (kept : ℕ)
      × ((next_take w Z cap more scratch).answer ≡ state counts truth kept))))
  -- the event at which it stops is pending no more: it is among those with a false clock, or the newest of those taken
  pub ledger_false : (x : FalseClock k (allowed_next w Z cap more) Z.ledger)
      → next_ledger w Z cap more scratch ≡ falsified_ledger Z.ledger x.0 (x.1.earlier ++ x.1.later)
  pub ledger_state : (counts : List ℕ) (truth : Bool) (kept : ℕ)
      → (x : Takes k (allowed_next w Z cap more) f start Z.ledger counts truth kept)
      → next_ledger w Z cap more scratch ≡ chosen_ledger Z.ledger x.event (x.stops.earlier ++ x.stops.later)

pub record TakeExact (w k : ℕ) (f : Formula) (start : Cut) (Z : Watch) : Type 0 where
  pub wrong_lengths : (cap more : ℕ) (scratch : List ℕ)
      → ((next_take w Z cap more scratch).answer ≡ turned_back length_number 0) ↔ (RightLengths w Z more scratch → ⊥)
  pub right_lengths : (cap more : ℕ) (scratch : List ℕ) → RightLengths w Z more scratch
      → AnswersExact w k f start Z cap more scratch
  pub never_34 : (cap more : ℕ) (scratch : List ℕ) → (next_take w Z cap more scratch).answer ≢ turned_back state_number 0
  -- a take with none of these answers lowers the number of pending events by exactly 1, so that takes one after the
  -- other come to an end
  pub lowers : (cap more : ℕ) (scratch : List ℕ) → (next_take w Z cap more scratch).answer ≢ nothing_ready
      → (next_take w Z cap more scratch).answer ≢ turned_back length_number 0
      → (next_take w Z cap more scratch).answer ≢ turned_back no_room_number 0
      → pending_count (next_take w Z cap more scratch).bytes + 1 ≡ pending_count Z.bytes

abbrev pub TakeIsExact : Type 0
TakeIsExact = AfterEveryList TakeExact
