-- Repeats (02 [1]): when an offer after a list of calls is answered "again", what its like is answered with otherwise,
-- and that such offers make no difference. Proved in lists/Again and lists/WithoutAgains.
use Rattle.std.specs.Prelude.{ℕ, ◌<◌, ◌≡◌, Bool, true, false, cond, ◌↔◌, ◌≢◌}
use mathlib.Core.List.{List, [], ◌∷◌, Memᴰ}
use Rattle.clocks.specs.declared.Event.{Event}
use Rattle.clocks.specs.Event.{Cut, count, involved}
use Rattle.clocks.specs.History.{In, taken}
use Rattle.clocks.specs.Refusal.{Faultless}
use Rattle.rules.specs.Formula.{Formula}
use Rattle.numbers.specs.Refusal.{conflict_number, taken_number}
use Rattle.answers.specs.Answer.{Answer, turned_back, state, nothing_ready, held, again, found, absent, process_closed}
use Rattle.call_open.specs.Open.{open_call}
use Rattle.call_offer.specs.Offer.{offered_event, offer_call}
use Rattle.demands.specs.Run.{Call, offers, Passed, Watch, answered_by, after, opened}
use Rattle.demands.specs.EveryList.{AfterEveryList, at_end, NamesOpen}

-- ---- The next offer

-- With arguments such as the machine passes; the mask's word has no bit beyond an event's.
abbrev pub Offerable : (w mask : ℕ) (clock labels : List ℕ) → Type 0
Offerable w mask clock labels = Passed w (offers mask clock labels) × (mask < 256)

-- An event and another one differ, though a common process has the same count in both.
pub record Contradicts (e f : Event) : Type 0 where
  pub other : f ≢ e
  pub process : ℕ
  pub involves : involved e process ≡ true
  pub involves_other : involved f process ≡ true
  pub same_count : count e process ≡ count f process

pub record AgainExact (w k : ℕ) (f : Formula) (start : Cut) (Z : Watch) : Type 0 where
  -- "again" exactly if the event is pending: by mask, clock and labels
  pub again_exactly : (mask : ℕ) (clock labels : List ℕ) → Passed w (offers mask clock labels)
      → ((offer_call w mask clock labels Z.bytes).answer ≡ again)
      ↔ ((mask < 256) × Memᴰ (offered_event mask clock labels) Z.ledger.pending)
  -- which changes nothing: the call is no more than an answer
  pub again_idle : (mask : ℕ) (clock labels : List ℕ) → (offer_call w mask clock labels Z.bytes).answer ≡ again
      → after w (offers mask clock labels) Z ≡ answered_by again Z
  -- once the event is taken its repeat is 31, where its processes are open (statements/Close: 42 where one is closed)
  pub taken_again : (mask : ℕ) (clock labels : List ℕ) → Offerable w mask clock labels
      → In (offered_event mask clock labels) Z.ledger.history → NamesOpen Z (offered_event mask clock labels)
      → (offer_call w mask clock labels Z.bytes).answer ≡ turned_back taken_number 0
  -- an event that nothing before 32 turns back, and that differs from a pending one with the same count at a common
  -- process, is 32, however many are pending
  pub other_event : (mask : ℕ) (clock labels : List ℕ) → Offerable w mask clock labels
      → let e = offered_event mask clock labels in
      Faultless k e → NamesOpen Z e → ((p : ℕ) → involved e p ≡ true → taken Z.ledger.history p < count e p)
      → (g : Event) → Memᴰ g Z.ledger.pending → Contradicts e g
      → (offer_call w mask clock labels Z.bytes).answer ≡ turned_back conflict_number 0

abbrev pub AgainIsExact : Type 0
AgainIsExact = AfterEveryList AgainExact

-- ---- A list without its repeats

-- An answer is "again".
abbrev pub is_again : (a : Answer) → Bool
is_again (turned_back n i) = false
is_again (state c t k) = false
is_again nothing_ready = false
is_again (held n) = false
is_again again = true
is_again (found i) = false
is_again absent = false
is_again (process_closed n) = false

-- The last answer of some, newest first.
unfoldable pub last_of : (answers : List Answer) → Answer
last_of [] = nothing_ready
last_of (a ∷ answers) = a

-- The calls of a list but for those that are answered "again" when it runs from W on.
unfoldable pub without_agains : (w : ℕ) (cs : List Call) (W : Watch) → List Call
without_agains w [] W = []
without_agains w (c ∷ cs) W =
    cond (is_again (last_of (after w c W).answers)) (without_agains w cs (after w c W))
    (c ∷ without_agains w cs (after w c W))

-- The answers but for "again".
unfoldable pub other_answers : (answers : List Answer) → List Answer
other_answers [] = []
other_answers (a ∷ answers) = cond (is_again a) (other_answers answers) (a ∷ other_answers answers)

-- The one watch is the other, whose calls were answered "again" besides.
pub record SameButAgains (Y Z : Watch) : Type 0 where
  pub same_record : Y.bytes ≡ Z.bytes
  pub same_window : Y.window ≡ Z.window
  pub same_ledger : Y.ledger ≡ Z.ledger
  pub same_accepted : Y.accepted ≡ Z.accepted
  pub other_answers : Y.answers ≡ other_answers Z.answers

-- Of every list of calls after every open, accepted or not.
abbrev pub AgainsMakeNoDifference : Type 0
AgainsMakeNoDifference =
    (w : ℕ) (text : List ℕ) (k : ℕ) (labels s window : List ℕ) (cs : List Call)
    → SameButAgains (at_end w text k labels s window (without_agains w cs (opened (open_call w text k labels s window))))
    (at_end w text k labels s window cs)
