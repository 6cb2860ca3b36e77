-- The pending events come to an end (02 [14]): where no event is accepted on the way, takes answer a state or 35 at most
-- as often as events were pending, and then "nothing ready" for good; and what became of each event. Proved in
-- lists/Empties; of watches that share a pool in pool_runs EmptiesTheorem.
use Rattle.std.specs.Prelude.{ℕ, ◌+◌, ◌-◌, ◌<◌, ◌≡◌, Bool, false, cond, ◌||◌, ◌↔◌, eqb, length, drop, replicate}
use mathlib.Core.List.{List, [], ◌∷◌, ◌++◌, map, reverse, Memᴰ}
use Rattle.clocks.specs.declared.Event.{Event}
use Rattle.clocks.specs.Event.{Cut, one, count, involved, Ready}
use Rattle.clocks.specs.History.{taken}
use Rattle.clocks.specs.Counts.{at, list_of}
use Rattle.pactl.specs.Truth.{holds}
use Rattle.rules.specs.Formula.{Formula, meaning}
use Rattle.numbers.specs.Refusal.{false_clock_number, length_number, no_room_number, state_number}
use Rattle.records.specs.Record.{pending_count, taken_counts, pending_events}
use Rattle.answers.specs.Answer.{Answer, turned_back, state, nothing_ready, held, again, found, absent, process_closed}
use Rattle.demands.specs.Ledger.{occurrences, Settled}
use Rattle.demands.specs.Mislent.{offer_lent, take_lent, find_lent, close_lent, answer_to}
use Rattle.demands.specs.Run.{Call, offers, takes, finds, closes, mislends, Watch, after, run}
use Rattle.demands.specs.World.{Valid, model_after}
use Rattle.demands.specs.EveryList.{AllPassed, next_take}
use Rattle.demands.specs.Written.{OfEveryWatch}

-- ---- The answers of a list's takes

-- The answer of a call, if it is a take.
abbrev pub if_take : (w : ℕ) (c : Call) (Z : Watch) → List Answer
if_take w (offers mask clock labels) Z = []
if_take w (takes cap more scratch) Z = (next_take w Z cap more scratch).answer ∷ []
if_take w (finds line) Z = []
if_take w (closes p) Z = []
if_take w (mislends (offer_lent mask clock labels s)) Z = []
if_take w (mislends (take_lent cap s window scratch)) Z = answer_to w (take_lent cap s window scratch) ∷ []
if_take w (mislends (find_lent line s window)) Z = []
if_take w (mislends (close_lent p s window)) Z = []

-- Of all takes, in their order.
unfoldable pub take_answers : (w : ℕ) (cs : List Call) (Z : Watch) → List Answer
take_answers w [] Z = []
take_answers w (c ∷ cs) Z = if_take w c Z ++ take_answers w cs (after w c Z)

-- Refused by 6, 34 or 36.
abbrev pub is_refusal : (a : Answer) → Bool
is_refusal (turned_back n i) = eqb n length_number || (eqb n state_number || eqb n no_room_number)
is_refusal (state c t k) = false
is_refusal nothing_ready = false
is_refusal (held n) = false
is_refusal again = false
is_refusal (found i) = false
is_refusal absent = false
is_refusal (process_closed n) = false

abbrev pub NoneRefused : (answers : List Answer) → Type 0
NoneRefused answers = (a : Answer) → Memᴰ a answers → is_refusal a ≡ false

-- Those that were not refused so, in their order.
unfoldable pub unrefused : (answers : List Answer) → List Answer
unrefused [] = []
unrefused (a ∷ answers) = cond (is_refusal a) (unrefused answers) (a ∷ unrefused answers)

-- ---- What became of the pending events

-- An event that is pending no more: it was taken, with this answer; or it left with 35.
pub data Leaving : Type 0 where
  was_taken : (e : Event) (counts : List ℕ) (truth : Bool) (kept : ℕ) → Leaving
  was_false : (e : Event) → Leaving

abbrev pub answered_for : (x : Leaving) → Answer
answered_for (was_taken e counts truth kept) = state counts truth kept
answered_for (was_false e) = turned_back false_clock_number 0

-- Those among them that were taken, and those that left with 35.
unfoldable pub taken_of : (xs : List Leaving) → List Event
taken_of [] = []
taken_of (was_taken e counts truth kept ∷ xs) = e ∷ taken_of xs
taken_of (was_false e ∷ xs) = taken_of xs

unfoldable pub false_of : (xs : List Leaving) → List Event
false_of [] = []
false_of (was_taken e counts truth kept ∷ xs) = false_of xs
false_of (was_false e ∷ xs) = e ∷ false_of xs

-- Each left in its turn, after these taken events: it was ready; it was taken exactly if its clock was true; a state
-- answered the counts with it, and the rule's truth by source 000 at the cut of these counts.
abbrev pub InTurn : (k : ℕ) (f : Formula) (start : Cut) (ts : List Event) (xs : List Leaving) → Type 0
InTurn k f start ts [] = Unit {0}
InTurn k f start ts (was_taken e counts truth kept ∷ xs) =
    Ready e (taken ts) × Valid ts e × (counts ≡ list_of 8 (taken (e ∷ ts)))
    × (truth ≡ holds (model_after k f start (e ∷ ts)) (meaning f) (taken (e ∷ ts))) × InTurn k f start (e ∷ ts) xs
InTurn k f start ts (was_false e ∷ xs) = Ready e (taken ts) × (Valid ts e → ⊥) × InTurn k f start ts xs

-- The event waits for process p at a cut: it counts p's next event, and that one is not itself.
abbrev pub WaitsFor : (e : Event) (S : Cut) (p : ℕ) → Type 0
WaitsFor e S p = S p + one (involved e p) < count e p

-- From watch Z to watch Y, with these answers of takes between.
pub record Emptied (k : ℕ) (f : Formula) (start : Cut) (Z Y : Watch) (answers : List Answer) : Type 0 where
  -- first an answer for each event that leaves, in their order, and then "nothing ready" for good
  pub left : List Leaving
  pub quiet : ℕ
  pub answers_are : answers ≡ map answered_for left ++ replicate quiet nothing_ready
  pub in_turn : InTurn k f start Z.ledger.history left
  -- as many as left are pending no more; so after as many answers as events were pending it is "nothing ready"
  pub in_number : length left + pending_count Y.bytes ≡ pending_count Z.bytes
  pub from_then : drop (pending_count Z.bytes) answers
      ≡ replicate (length answers - pending_count Z.bytes) nothing_ready
  -- they are the events taken since, and those gone with 35 since (the ledger has the newest first)
  pub taken_since : Y.ledger.history ≡ reverse (taken_of left) ++ Z.ledger.history
  pub false_since : Y.ledger.falsified ≡ reverse (false_of left) ++ Z.ledger.falsified
  -- each pending event, by mask, clock and labels, is one of them or pending still
  pub each : (e : Event)
      → occurrences e Z.ledger.pending
      ≡ occurrences e (taken_of left) + occurrences e (false_of left) + occurrences e Y.ledger.pending
  -- once "nothing ready" was answered, no pending event is ready, and each of them waits for some process
  pub none_ready : 0 < quiet → Settled Y.ledger
  pub waits : 0 < quiet → (e : Event) → Memᴰ e Y.ledger.pending
      → (p : ℕ) × (p < k) × WaitsFor e (taken Y.ledger.history) p

-- ---- The statement

abbrev pub NoOffers : (cs : List Call) → Type 0
NoOffers cs = (mask : ℕ) (clock labels : List ℕ) → Memᴰ (offers mask clock labels) cs → ⊥

pub record Empties (w k : ℕ) (f : Formula) (start : Cut) (Z : Watch) : Type 0 where
  -- takes under any caps, finds and closes follow, and no take is refused by 6, 34 or 36
  pub as_asked : (cs : List Call) → AllPassed w cs → NoOffers cs → NoneRefused (take_answers w cs Z)
      → Emptied k f start Z (run w cs Z) (take_answers w cs Z)
  -- more: there may be offers of which none is accepted, and takes that are refused so; it is true of the others
  pub none_accepted : (cs : List Call) → AllPassed w cs → (run w cs Z).accepted ≡ Z.accepted
      → Emptied k f start Z (run w cs Z) (unrefused (take_answers w cs Z))
  -- who waits for whom stands in the record: the pending events, the taken counts, and by them an event is ready
  -- exactly if it waits for no process
  pub pending_read : pending_events w Z.bytes ≡ Z.ledger.pending
  pub taken_read : at (taken_counts w Z.bytes) ≡ taken Z.ledger.history
  pub ready_exactly : (e : Event) → Memᴰ e Z.ledger.pending
      → Ready e (taken Z.ledger.history)
      ↔ ((p : ℕ) → p < k → WaitsFor e (taken Z.ledger.history) p → ⊥)

abbrev pub PendingComesToAnEnd : Type 0
PendingComesToAnEnd = OfEveryWatch Empties
