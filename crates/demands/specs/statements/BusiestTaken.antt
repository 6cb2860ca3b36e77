-- A busiest day, taken whole (02 [8]): the calls that take it, on a window of as many frontiers as it keeps, with all
-- their answers; and that no list of offers of its events, takes and finds meets a 36. Proved in lists/BusiestTaken and
-- lists/BusiestRoom.
use Rattle.std.specs.Prelude.{ℕ, ◌+◌, ◌*◌, ◌≤◌, ◌<◌, ◌≡◌, length}
use mathlib.Core.List.{List, [], ◌∷◌, ◌++◌, reverse, Memᴰ}
use Rattle.clocks.specs.declared.Event.{Event}
use Rattle.clocks.specs.Event.{Cut}
use Rattle.clocks.specs.History.{taken}
use Rattle.clocks.specs.Counts.{at, list_of}
use Rattle.pactl.specs.Truth.{holds}
use Rattle.rules.specs.Formula.{Formula, meaning}
use Rattle.rules.specs.Text.{text_of, Grammatical, WithinLimits}
use Rattle.rules.specs.Reader.{read_rule, formed}
use Rattle.frontiers.specs.Bytes.{frontier_length}
use Rattle.records.specs.Record.{kept_count, record_length}
use Rattle.numbers.specs.Limit.{most_frontiers}
use Rattle.numbers.specs.Refusal.{no_room_number}
use Rattle.answers.specs.Answer.{Answer, turned_back, state, held}
use Rattle.call_open.specs.Open.{open_call}
use Rattle.call_offer.specs.Offer.{offered_event}
use Rattle.call_busiest.specs.Sharing.{sharing_keeps}
use Rattle.demands.specs.Run.{Call, offers, takes, finds, Watch}
use Rattle.demands.specs.World.{model_after}
use Rattle.demands.specs.EveryList.{Accepts, EightBytes, AllPassed, at_end}
use Rattle.demands.specs.statements.Busiest.{Gives, listed}

-- ---- The calls that take a day

-- For each event of a list, in its order, an offer of it and a take under the cap of watch_take. The first take is lent
-- the window with so many zeros appended, the later ones are lent it as it is; each is lent this scratch.
abbrev pub day_calls : (more : ℕ) (scratch : List ℕ) (es : List Event) → List Call
day_calls more scratch [] = []
day_calls more scratch (e ∷ es) =
    offers e.mask e.clock e.labels ∷ takes most_frontiers more scratch ∷ day_calls 0 scratch es

-- Their answers, newest first, where they took these events: "held, one pending" to each offer; to each take the counts
-- with its event, the rule's truth by source 000 at the cut of these counts, and the frontiers that such counts keep.
abbrev pub day_answers : (k : ℕ) (f : Formula) (start : Cut) (ts : List Event) → List Answer
day_answers k f start [] = []
day_answers k f start (e ∷ ts) =
    state (list_of 8 (taken (e ∷ ts)))
    (holds (model_after k f start (e ∷ ts)) (meaning f) (taken (e ∷ ts)))
    (sharing_keeps (list_of k (taken (e ∷ ts))))
    ∷ held 1 ∷ day_answers k f start ts

-- The watch Z, opened with this answer, after the calls for a list of events of which m frontiers are to be kept.
pub record DayTaken (k : ℕ) (f : Formula) (start : Cut) (es : List Event) (m : ℕ) (opening : Answer) (Z : Watch)
    : Type 0 where
  -- all events are taken, in the list's order; none is pending, none left with a false clock; no process is closed
  pub all_taken : Z.ledger ≡ record { history = reverse es; pending = []; falsified = []; closed = 0 }
  -- exactly m frontiers are kept
  pub keeps : kept_count Z.bytes ≡ m
  -- all answers: no call was turned back, so no take with 36
  pub answered : Z.answers ≡ day_answers k f start (reverse es) ++ (opening ∷ [])

-- The call for k processes and n events gave m, with counts of v bytes. Then a window of m frontiers takes the day:
-- open accepts every rule of the grammar within its limits, with start labels that are 0 from process k up, in a record
-- and a window of these lengths, with counts of w bytes; and the calls take all events of the list and keep m
-- frontiers.
abbrev pub DayFitsItsWindow : Type 0
DayFitsItsWindow =
    (v : ℕ) → 2 ≤ v → (k n : ℕ) (events : List ℕ) (m : ℕ) → Gives v k n events m
    → (f : Formula) → Grammatical f → WithinLimits k f
    → (labels : List ℕ) → EightBytes labels → ((p : ℕ) → k ≤ p → at labels p ≡ 0)
    → (w : ℕ) → 2 ≤ w → (s window scratch : List ℕ) → length s ≡ record_length w
    → length window ≡ m * frontier_length w → length scratch ≡ m * frontier_length w
    → let es = listed v k n events in
    let cs = day_calls 0 scratch es in
    Accepts w (text_of f) k labels s window × AllPassed w cs
    × DayTaken k f (at labels) es m (open_call w (text_of f) k labels s window).answer
    (at_end w (text_of f) k labels s window cs)

-- So does every watch of k processes, however it was opened, on a window of m frontiers or more: as it was lent to
-- open, or with zeros appended at the first take.
abbrev pub DayIsTaken : Type 0
DayIsTaken =
    (v : ℕ) → 2 ≤ v → (k n : ℕ) (events : List ℕ) (m : ℕ) → Gives v k n events m
    → (w : ℕ) → 2 ≤ w → (text labels : List ℕ) → EightBytes labels
    → (s window : List ℕ) → Accepts w text k labels s window
    → (room : ℕ) → m ≤ room → room ≤ most_frontiers
    → (more : ℕ) → length window + more ≡ room * frontier_length w
    → (scratch : List ℕ) → length scratch ≡ room * frontier_length w
    → let es = listed v k n events in
    let cs = day_calls more scratch es in
    AllPassed w cs
    × ((f : Formula) × (i : ℕ) × (read_rule text k ≡ formed i f) × (text_of f ≡ text)
    × DayTaken k f (at labels) es m (open_call w text k labels s window).answer (at_end w text k labels s window cs))

-- ---- Any calls with its events

-- A list of offers of these events, of takes and of finds, where the watch's window has so many bytes before them. Each
-- take is under a cap of m or more and is lent a window with room for m frontiers; the scratch is of any length.
pub data DayList (w m : ℕ) (es : List Event) : ℕ → List Call → Type 0 where
  ends : (long : ℕ) → DayList w m es long []
  offers-one : (long mask : ℕ) (clock labels : List ℕ) (cs : List Call) → Memᴰ (offered_event mask clock labels) es
      → DayList w m es long cs → DayList w m es long (offers mask clock labels ∷ cs)
  takes-some : (long cap more : ℕ) (scratch : List ℕ) (cs : List Call) → m ≤ cap → m * frontier_length w ≤ long + more
      → DayList w m es (long + more) cs → DayList w m es long (takes cap more scratch ∷ cs)
  finds-line : (long line : ℕ) (cs : List Call) → DayList w m es long cs → DayList w m es long (finds line ∷ cs)

-- In whatever order, and however often an event is offered: no answer is 36.
abbrev pub DayMeetsNo36 : Type 0
DayMeetsNo36 =
    (v : ℕ) → 2 ≤ v → (k n : ℕ) (events : List ℕ) (m : ℕ) → Gives v k n events m
    → (w : ℕ) → 0 < w → (text labels : List ℕ) → EightBytes labels
    → (s window : List ℕ) → Accepts w text k labels s window
    → (cs : List Call) → AllPassed w cs → DayList w m (listed v k n events) (length window) cs
    → Memᴰ (turned_back no_room_number 0) (at_end w text k labels s window cs).answers → ⊥
