-- What an offer to a watch written by calls only answers and leaves in the ledger, said of the ledger alone: neither
-- the bytes nor the width of a count stands in it.
use Rattle.std.specs.Prelude.{ℕ, ◌+◌, ◌≡◌, refl, Bool, true, false, cond, List, leb, length}
use Rattle.std.proofs.Common.{eq-eqb}
use Rattle.pactl.specs.declared.Line.{Line}
use Rattle.clocks.specs.declared.Event.{Event}
use Rattle.clocks.specs.Event.{Cut}
use Rattle.clocks.specs.History.{taken}
use Rattle.clocks.specs.Refusal.{bad_mask, bad_clock, bad_labels}
use Rattle.records.specs.Record.{record_length, pending_events}
use Rattle.refusals.specs.Refusals.{bad_record_length, names_closed, already_taken, conflicting}
use Rattle.repeats.specs.Repeats.{repeated}
use Rattle.answers.specs.Answer.{Answer, turned_back, state, nothing_ready, held, again, found, absent, process_closed}
use Rattle.call_offer.specs.Offer.{Offered, offered_event, offer_call}
use Rattle.demands.specs.Ledger.{Ledger}
use Rattle.demands.specs.Run.{offered_ledger}
use Rattle.demands.specs.Watching.{Rule, Watching}
use Rattle.demands.specs.calls.WatchingLaws.{bytes_long, says_processes, says_many, says_closed, says_pending, says_taken, never_34}

-- ---- Definition

abbrev pub offer_answer : ℕ → Ledger → ℕ → List ℕ → List ℕ → Answer
offer_answer k L mask clock labels =
    let e = offered_event mask clock labels in
    cond (bad_mask k mask) (turned_back 7 0)
    (cond (bad_clock k mask clock) (turned_back 8 0)
    (cond (bad_labels mask labels) (turned_back 9 0)
    (cond (names_closed L.closed e) (turned_back 42 0)
    (cond (already_taken e (taken L.history)) (turned_back 31 0)
    (cond (repeated e L.pending) again
    (cond (conflicting e L.pending) (turned_back 32 0)
    (cond (leb 32 (length L.pending)) (turned_back 33 0)
    (held (length L.pending + 1)))))))))

-- ---- Laws

answer_cond : (b : Bool) (x y : Offered) → (cond b x y).answer ≡ cond b x.answer y.answer
answer_cond true x y = refl
answer_cond false x y = refl

module _ (w k : ℕ) (table : List Line) (start : Cut) (R : Rule w k table start) (L : Ledger) (bytes window : List ℕ)
    (X : Watching w k table start L bytes window) (mask : ℕ) (clock labels : List ℕ) where
  long : bad_record_length w (length bytes) ≡ false
  unfolding bad_record_length
  long = rw (eq-eqb (length bytes) (record_length w) (bytes_long w k table start R L bytes window X))

  pub offer_by_ledger : (offer_call w mask clock labels bytes).answer ≡ offer_answer k L mask clock labels
  unfolding offer_call
  offer_by_ledger =
      rw (
        long,
        never_34 w k table start R L bytes window X 1024 X.few,
        says_processes w k table start R L bytes window X,
        says_closed w k table start R L bytes window X,
        says_taken w k table start R L bytes window X,
        says_pending w k table start R L bytes window X,
        says_many w k table start R L bytes window X,
      )
      (simp answer_cond)

-- Where the pending events are the same in two records, so is the ledger that an answer leaves.
pub offered_alike : (v w : ℕ) (s t : List ℕ) → pending_events v s ≡ pending_events w t → (e : Event) (L : Ledger)
    (a : Answer) → offered_ledger v s e L a ≡ offered_ledger w t e L a
unfolding offered_ledger
offered_alike v w s t q e L (held n) = rw q
offered_alike v w s t q e L again = refl
offered_alike v w s t q e L (turned_back n i) = refl
offered_alike v w s t q e L (state c u k) = refl
offered_alike v w s t q e L nothing_ready = refl
offered_alike v w s t q e L (found i) = refl
offered_alike v w s t q e L absent = refl
offered_alike v w s t q e L (process_closed n) = refl
