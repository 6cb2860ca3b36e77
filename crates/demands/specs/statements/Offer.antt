-- What the next offer after a list of calls answers, and exactly when, said of the events alone (01, Turned back; 02
-- [1], [5]): one equivalence for each answer, in the order of the turns. Proved in lists/Offer.
use Rattle.std.specs.Prelude.{ℕ, ◌+◌, ◌≤◌, ◌<◌, ◌≡◌, true, false, ◌⊎◌, ◌↔◌, ◌≢◌, length}
use mathlib.Core.List.{List, Memᴰ}
use Rattle.codec.specs.Bit.{bit}
use Rattle.clocks.specs.declared.Event.{Event}
use Rattle.clocks.specs.Event.{Cut, count, involved}
use Rattle.clocks.specs.History.{taken}
use Rattle.clocks.specs.Counts.{at}
use Rattle.rules.specs.Formula.{Formula}
use Rattle.numbers.specs.Refusal.{clock_number, conflict_number, full_number, labels_number, length_number, mask_number, named_number, state_number, taken_number}
use Rattle.answers.specs.Answer.{Answer, turned_back, held, again}
use Rattle.call_offer.specs.Offer.{offered_event, offer_call}
use Rattle.demands.specs.Run.{offers, Passed, Watch}
use Rattle.demands.specs.EveryList.{AfterEveryList, NamesClosed}

-- ---- What an offer is turned back for

-- 7: the mask is 0, or has a bit from k up.
abbrev pub BadMask : (k mask : ℕ) → Type 0
BadMask k mask = (mask ≡ 0) ⊎ ((p : ℕ) × (k ≤ p) × (bit mask p ≡ true))

-- 8: a process that takes part has count 0, or one from k up has another.
abbrev pub BadClock : (k mask : ℕ) (clock : List ℕ) → Type 0
BadClock k mask clock =
    (p : ℕ) × (p < 8) × (((bit mask p ≡ true) × (at clock p ≡ 0)) ⊎ ((k ≤ p) × (at clock p ≢ 0)))

-- 9: a process that does not take part has a label.
abbrev pub BadLabels : (mask : ℕ) (labels : List ℕ) → Type 0
BadLabels mask labels = (p : ℕ) × (p < 8) × (bit mask p ≡ false) × (at labels p ≢ 0)

-- 31: some process that takes part has its count taken already.
abbrev pub IsTaken : (Z : Watch) (e : Event) → Type 0
IsTaken Z e = (p : ℕ) × (involved e p ≡ true) × (count e p ≤ taken Z.ledger.history p)

-- "Again": the event is pending.
abbrev pub IsPending : (Z : Watch) (e : Event) → Type 0
IsPending Z e = Memᴰ e Z.ledger.pending

-- 32: a pending event has the same count at a common process.
abbrev pub IsContradicted : (Z : Watch) (e : Event) → Type 0
IsContradicted Z e =
    (g : Event) × Memᴰ g Z.ledger.pending
    × ((p : ℕ) × (involved e p ≡ true) × (involved g p ≡ true) × (count e p ≡ count g p))

-- ---- What it has passed

-- 7, 8 and 9.
abbrev pub Formed : (k mask : ℕ) (clock labels : List ℕ) → Type 0
Formed k mask clock labels =
    ((BadMask k mask → ⊥) × (BadClock k mask clock → ⊥)) × (BadLabels mask labels → ⊥)

-- ... and 42: it names no closed process.
abbrev pub Admissible : (k : ℕ) (Z : Watch) (mask : ℕ) (clock labels : List ℕ) → Type 0
Admissible k Z mask clock labels =
    Formed k mask clock labels × (NamesClosed Z (offered_event mask clock labels) → ⊥)

-- ... and 31: none of its counts is taken.
abbrev pub New : (k : ℕ) (Z : Watch) (mask : ℕ) (clock labels : List ℕ) → Type 0
New k Z mask clock labels = Admissible k Z mask clock labels × (IsTaken Z (offered_event mask clock labels) → ⊥)

-- ... and "again": it is not pending.
abbrev pub Unknown : (k : ℕ) (Z : Watch) (mask : ℕ) (clock labels : List ℕ) → Type 0
Unknown k Z mask clock labels = New k Z mask clock labels × (IsPending Z (offered_event mask clock labels) → ⊥)

-- ... and 32: it contradicts no pending event.
abbrev pub Uncontradicted : (k : ℕ) (Z : Watch) (mask : ℕ) (clock labels : List ℕ) → Type 0
Uncontradicted k Z mask clock labels =
    Unknown k Z mask clock labels × (IsContradicted Z (offered_event mask clock labels) → ⊥)

-- ---- The answers

abbrev pub next_offer : (w : ℕ) (Z : Watch) (mask : ℕ) (clock labels : List ℕ) → Answer
next_offer w Z mask clock labels = (offer_call w mask clock labels Z.bytes).answer

pub record OfferAnswers (w k : ℕ) (Z : Watch) (mask : ℕ) (clock labels : List ℕ) : Type 0 where
  pub bad_mask : (next_offer w Z mask clock labels ≡ turned_back mask_number 0) ↔ BadMask k mask
  pub bad_clock : (next_offer w Z mask clock labels ≡ turned_back clock_number 0)
      ↔ ((BadMask k mask → ⊥) × BadClock k mask clock)
  pub bad_labels : (next_offer w Z mask clock labels ≡ turned_back labels_number 0)
      ↔ (((BadMask k mask → ⊥) × (BadClock k mask clock → ⊥)) × BadLabels mask labels)
  pub names_closed : (next_offer w Z mask clock labels ≡ turned_back named_number 0)
      ↔ (Formed k mask clock labels × NamesClosed Z (offered_event mask clock labels))
  pub is_taken : (next_offer w Z mask clock labels ≡ turned_back taken_number 0)
      ↔ (Admissible k Z mask clock labels × IsTaken Z (offered_event mask clock labels))
  pub is_again : (next_offer w Z mask clock labels ≡ again)
      ↔ (New k Z mask clock labels × IsPending Z (offered_event mask clock labels))
  pub contradicted : (next_offer w Z mask clock labels ≡ turned_back conflict_number 0)
      ↔ (Unknown k Z mask clock labels × IsContradicted Z (offered_event mask clock labels))
  pub full : (next_offer w Z mask clock labels ≡ turned_back full_number 0)
      ↔ (Uncontradicted k Z mask clock labels × (32 ≤ length Z.ledger.pending))
  -- accepted: n is the number of pending events with it
  pub is_held : (n : ℕ)
      → (next_offer w Z mask clock labels ≡ held n)
      ↔ (Uncontradicted k Z mask clock labels × (length Z.ledger.pending < 32)
      × (n ≡ length Z.ledger.pending + 1))
  pub never_6 : next_offer w Z mask clock labels ≢ turned_back length_number 0
  pub never_34 : next_offer w Z mask clock labels ≢ turned_back state_number 0

-- With arguments such as the machine passes.
abbrev pub OfferExact : (w k : ℕ) (f : Formula) (start : Cut) (Z : Watch) → Type 0
OfferExact w k f start Z =
    (mask : ℕ) (clock labels : List ℕ) → Passed w (offers mask clock labels) → OfferAnswers w k Z mask clock labels

abbrev pub OfferIsExact : Type 0
OfferIsExact = AfterEveryList OfferExact
