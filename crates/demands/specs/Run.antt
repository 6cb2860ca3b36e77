-- Lists of calls after an accepted open (01, The calls: demand 3): each gets the record and the window as the one
-- before left them.
use Rattle.std.specs.Prelude.{ℕ, ◌^◌, ◌<◌, ◌≡◌, cond, List, [], ◌∷◌, ◌++◌, length, replicate}
use Rattle.clocks.specs.declared.Event.{Event}
use Rattle.frontiers.specs.Bytes.{frontiers}
use Rattle.clocks.specs.Counts.{at}
use Rattle.call_find.specs.Find.{find_call}
use Rattle.trial.specs.Trial.{Decision, undecided, false_clock, chosen, trial}
use Rattle.call_take.specs.Take.{Taken, allowed_of, take_capped}
use Rattle.records.specs.Record.{kept_count, pending_at, pending_events}
use Rattle.call_close.specs.Close.{Closed, closing, close_call}
use Rattle.call_open.specs.Open.{Opened}
use Rattle.answers.specs.Answer.{Answer}
use Rattle.call_offer.specs.Offer.{place_among, offered_event, offer_call}
use Rattle.answers.specs.Kinds.{is_held, is_state, is_false_clock, is_closed}
use Rattle.demands.specs.Ledger.{Ledger}
use Rattle.demands.specs.Mislent.{Mislent, TurnedAway, answer_to}
use Rattle.demands.specs.Status.{insert_at, remove_at}

-- A call: an offer of an event by its mask, clock and labels; a take under a cap (watch_take has 1,024), lent the
-- window with so many zeros appended, and a scratch of any length and content; a find of a line; a close of a process;
-- or one of these that was lent other buffers, of a wrong length say, and turned back for them.
pub data Call : Type 0 where
  offers : (mask : ℕ) (clock labels : List ℕ) → Call
  takes : (cap more : ℕ) (scratch : List ℕ) → Call
  finds : (line : ℕ) → Call
  closes : (p : ℕ) → Call
  mislends : (m : Mislent) → Call

-- The arguments are such as the machine passes: a mask of 64 bits, eight counts of w bytes, eight label bytes. Other
-- buffers are such as 6 or 34 turns back.
abbrev pub Passed : (w : ℕ) (c : Call) → Type 0
Passed w (offers mask clock labels) =
    (mask < 2 ^ 64) × (length clock ≡ 8) × ((p : ℕ) → at clock p < 256 ^ w)
    × (length labels ≡ 8) × ((p : ℕ) → at labels p < 256)
Passed w (takes cap more scratch) = Unit {0}
Passed w (finds line) = Unit {0}
Passed w (closes p) = Unit {0}
Passed w (mislends m) = TurnedAway w m

-- A watch between two calls: record and window, the ledger of the accepted events and of the closed processes, those
-- events, and the answers so far, open's own among them, newest first.
pub record Watch : Type 0 where
  pub bytes : List ℕ
  pub window : List ℕ
  pub ledger : Ledger
  pub accepted : List Event
  pub answers : List Answer

-- With one answer more, and the same in all else.
abbrev pub answered_by : (a : Answer) (W : Watch) → Watch
answered_by a W = record {
  bytes = W.bytes;
  window = W.window;
  ledger = W.ledger;
  accepted = W.accepted;
  answers = a ∷ W.answers;
}

-- ---- What a call does

-- The trial of the pending events that a take makes (call_take Take: take_within), and the number of the event at
-- which it stopped.
unfoldable pub trial_of : (w cap : ℕ) (s window : List ℕ) → Decision
trial_of w cap s window = trial w s (allowed_of w cap window) (frontiers w window (kept_count s))

unfoldable pub stopped_at : (d : Decision) → ℕ
stopped_at (undecided seen) = 0
stopped_at (false_clock i) = i
stopped_at (chosen i) = i

-- The ledger after a take's answer: by a state pending event i was taken, by 35 it left with a false clock.
unfoldable pub taken_ledger : (w : ℕ) (s : List ℕ) (i : ℕ) (L : Ledger) (a : Answer) → Ledger
taken_ledger w s i L a =
    cond (is_state a)
    (record {
      history = pending_at w s i ∷ L.history;
      pending = remove_at i L.pending;
      falsified = L.falsified;
      closed = L.closed;
    })
    (cond (is_false_clock a)
    (record {
      history = L.history;
      pending = remove_at i L.pending;
      falsified = pending_at w s i ∷ L.falsified;
      closed = L.closed;
    })
    L)

-- The ledger and the accepted events after an offer's answer: "again" is none that accepts.
unfoldable pub offered_ledger : (w : ℕ) (s : List ℕ) (e : Event) (L : Ledger) (a : Answer) → Ledger
offered_ledger w s e L a =
    cond (is_held a)
    (record {
      history = L.history;
      pending = insert_at (place_among e (pending_events w s)) e L.pending;
      falsified = L.falsified;
      closed = L.closed;
    })
    L

unfoldable pub accepted_by : (e : Event) (es : List Event) (a : Answer) → List Event
accepted_by e es a = cond (is_held a) (e ∷ es) es

-- The ledger after a close's answer: accepted, process p is closed.
unfoldable pub closed_ledger : (p : ℕ) (L : Ledger) (a : Answer) → Ledger
closed_ledger p L a =
    cond (is_closed a)
    (record {
      history = L.history;
      pending = L.pending;
      falsified = L.falsified;
      closed = closing L.closed p;
    })
    L

-- The watch after a take, by what it answered and left and by its trial.
abbrev pub after_take : (w : ℕ) (r : Taken) (d : Decision) (W : Watch) → Watch
after_take w r d W = record {
  bytes = r.bytes;
  window = r.window;
  ledger = taken_ledger w W.bytes (stopped_at d) W.ledger r.answer;
  accepted = W.accepted;
  answers = r.answer ∷ W.answers;
}

-- The watch after a close, by what it answered and left.
abbrev pub after_close : (p : ℕ) (r : Closed) (W : Watch) → Watch
after_close p r W = record {
  bytes = r.bytes;
  window = r.window;
  ledger = closed_ledger p W.ledger r.answer;
  accepted = W.accepted;
  answers = r.answer ∷ W.answers;
}

unfoldable pub after : (w : ℕ) (c : Call) (W : Watch) → Watch
after w (offers mask clock labels) W =
    let r = offer_call w mask clock labels W.bytes in
    let e = offered_event mask clock labels in
    record {
      bytes = r.bytes;
      window = W.window;
      ledger = offered_ledger w W.bytes e W.ledger r.answer;
      accepted = accepted_by e W.accepted r.answer;
      answers = r.answer ∷ W.answers;
    }
after w (takes cap more scratch) W =
    let lent = W.window ++ replicate more 0 in
    after_take w (take_capped w cap W.bytes lent scratch) (trial_of w cap W.bytes lent) W
after w (finds line) W = answered_by (find_call w line W.bytes W.window) W
after w (closes p) W = after_close p (close_call w p W.bytes W.window) W
after w (mislends m) W = answered_by (answer_to w m) W

-- The calls of a list, one after the other.
unfoldable pub run : (w : ℕ) (cs : List Call) (W : Watch) → Watch
run w [] W = W
run w (c ∷ cs) W = run w cs (after w c W)

-- The watch that an open left.
abbrev pub opened : (o : Opened) → Watch
opened o = record {
  bytes = o.bytes;
  window = o.window;
  ledger = record { history = []; pending = []; falsified = []; closed = 0 };
  accepted = [];
  answers = o.answer ∷ [];
}
