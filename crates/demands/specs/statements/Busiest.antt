-- What a busiest day is to a watch (02 [8]): the list that a call wrote, how many frontiers such events keep in
-- whatever order they came, that no other sharing keeps more, and that a window of so many frontiers is long enough.
-- Proved in lists/DayListed and lists/Busiest.
use Rattle.std.specs.Prelude.{ℕ, suc, ◌+◌, ◌*◌, ◌≤◌, ◌<◌, ◌≡◌, ◌↔◌, ◌≢◌, length}
use mathlib.Core.List.{List, [], map, reverse, Memᴰ}
use Rattle.clocks.specs.declared.Event.{Event}
use Rattle.clocks.specs.Event.{Cut}
use Rattle.clocks.specs.History.{taken, In}
use Rattle.clocks.specs.Valid.{History}
use Rattle.clocks.specs.Counts.{list_of}
use Rattle.rules.specs.Formula.{Formula}
use Rattle.records.specs.Record.{event_length, event_from, kept_count}
use Rattle.answers.specs.Answer.{turned_back}
use Rattle.answers.specs.Result.{gives}
use Rattle.call_busiest.specs.Sharing.{product, sharing_keeps}
use Rattle.call_busiest.specs.Busiest.{busiest_day, busiest_call}
use Rattle.sharing_laws.specs.Alone.{AllAlone}
use Rattle.numbers.specs.Refusal.{no_room_number}
use Rattle.demands.specs.Ledger.{occurrences}
use Rattle.demands.specs.Run.{Watch}
use Rattle.demands.specs.World.{Valid}
use Rattle.demands.specs.EveryList.{AfterEveryList, EndsQuiet, RightLengths, next_take}
use Rattle.demands.specs.statements.TakeAnswers.{allowed_next}

-- ---- The list

-- A call for k processes and n events, with counts of v bytes, answered m.
abbrev pub Gives : (v k n : ℕ) (events : List ℕ) (m : ℕ) → Type 0
Gives v k n events m = (busiest_call v k n events).answer ≡ gives m

-- The events that stand in the list that it left, read as a record's pending events are.
abbrev pub listed : (v k n : ℕ) (events : List ℕ) → List Event
listed v k n events = list_of n (λ i. event_from v (busiest_call v k n events).events (i * event_length v))

pub record DayListed (v k n : ℕ) (events : List ℕ) : Type 0 where
  -- those of the day, in its order
  pub are : listed v k n events ≡ busiest_day k n
  -- each of a single process without messages
  pub alone : AllAlone (listed v k n events)
  -- and in this order each may be taken after those before it
  pub history : History k Valid (reverse (listed v k n events))

-- For counts of two bytes or more.
abbrev pub DayIsListed : Type 0
DayIsListed =
    (v : ℕ) → 2 ≤ v → (k n : ℕ) (events : List ℕ) (m : ℕ) → Gives v k n events m → DayListed v k n events

-- ---- A watch

-- No process is closed, and every taken event is of a single process without messages.
pub record Plain (Z : Watch) : Type 0 where
  pub none_closed : Z.ledger.closed ≡ 0
  pub taken_alone : AllAlone Z.ledger.history

pub record BusiestKept (w k : ℕ) (f : Formula) (start : Cut) (Z : Watch) : Type 0 where
  -- the frontiers kept are those of the taken counts, by the formula: with its subtraction, and without it
  pub kept_by_counts : Plain Z → kept_count Z.bytes ≡ sharing_keeps (list_of k (taken Z.ledger.history))
  pub kept_by_products : Plain Z
      → kept_count Z.bytes + product (list_of k (taken Z.ledger.history))
      ≡ product (map suc (list_of k (taken Z.ledger.history)))
  -- and never more than a call gives for as many events, or for more of them
  pub never_more : Plain Z → (v n : ℕ) (events : List ℕ) (m : ℕ) → Gives v k n events m
      → length Z.ledger.history ≤ n → kept_count Z.bytes ≤ m
  -- the very events of a list that a call wrote, taken in whatever order: exactly what it gave
  pub day_kept : Z.ledger.closed ≡ 0 → (v : ℕ) → 2 ≤ v → (n : ℕ) (events : List ℕ) (m : ℕ) → Gives v k n events m
      → ((e : Event) → In e Z.ledger.history ↔ Memᴰ e (listed v k n events))
      → kept_count Z.bytes ≡ m
  -- accepted in whatever order, with "nothing ready" at the end: all of them were taken, and it keeps exactly so many
  pub day_settled : Z.ledger.closed ≡ 0 → (v : ℕ) → 2 ≤ v → (n : ℕ) (events : List ℕ) (m : ℕ) → Gives v k n events m
      → ((e : Event) → occurrences e Z.accepted ≡ occurrences e (listed v k n events)) → EndsQuiet Z
      → (Z.ledger.pending ≡ []) × (kept_count Z.bytes ≡ m)
  -- where a take may use so many frontiers, it does not answer 36 while there are no more than n such events
  pub room_enough : Plain Z → AllAlone Z.ledger.pending → (v n : ℕ) (events : List ℕ) (m : ℕ) → Gives v k n events m
      → length Z.ledger.history < n → (cap more : ℕ) (scratch : List ℕ) → RightLengths w Z more scratch
      → m ≤ allowed_next w Z cap more → (next_take w Z cap more scratch).answer ≢ turned_back no_room_number 0

abbrev pub BusiestIsKept : Type 0
BusiestIsKept = AfterEveryList BusiestKept
