-- What the code of offer keeps to: the reply word of an offer that is not accepted.
use Rattle.std.specs.Prelude.{ℕ, cond, List, leb, eqb, length}
use Rattle.clocks.specs.Counts.{at}
use Rattle.clocks.specs.RefusalCode.{event_fault}
use Rattle.records.specs.Record.{process_count, pending_count, closed_mask, taken_counts, pending_events}
use Rattle.refusals.specs.Refusals.{bad_record_length, bad_state, names_closed, already_taken, conflicting}
use Rattle.repeats.specs.Repeats.{repeated}
use Rattle.clocks.specs.declared.Event.{Event}
use Rattle.call_offer.specs.Offer.{offered_event}

-- The reply word that the pending events give an offer, in their order: again, or a refusal; 0 for neither.
abbrev pub pending_word : ℕ → Event → List ℕ → ℕ
pending_word w e s =
    cond (repeated e (pending_events w s)) 256
    (cond (conflicting e (pending_events w s)) 32
    (cond (leb 32 (pending_count s)) 33 0))

-- The reply word of an offer that is not accepted, a refusal or again; 0 for one that is.
unfoldable pub unaccepted_word : ℕ → ℕ → List ℕ → List ℕ → List ℕ → ℕ
unaccepted_word w mask clock labels s =
    cond (bad_record_length w (length s)) 6
    (cond (bad_state w 1024 s) 34
    (cond (eqb (event_fault (process_count s) mask clock labels) 0)
    (cond (names_closed (closed_mask s) (offered_event mask clock labels)) 42
    (cond (already_taken (offered_event mask clock labels) (at (taken_counts w s))) 31
    (pending_word w (offered_event mask clock labels) s)))
    (event_fault (process_count s) mask clock labels)))
