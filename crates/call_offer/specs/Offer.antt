-- Offer (01, The calls; 02 [1], [5]): an event is added to the pending ones, in its place by lowest process and count;
-- or it is one of them already, or turned back.
use Rattle.std.specs.Prelude.{ℕ, suc, ◌+◌, ◌%◌, cond, List, [], ◌∷◌, leb, length}
use Rattle.clocks.specs.declared.Event.{Event}
use Rattle.clocks.specs.Key.{key_of, key_before}
use Rattle.clocks.specs.Counts.{at}
use Rattle.clocks.specs.Refusal.{bad_mask, bad_clock, bad_labels}
use Rattle.records.specs.Record.{process_count, pending_count, closed_mask, taken_counts, pending_events, inserted}
use Rattle.refusals.specs.Refusals.{bad_record_length, bad_state, names_closed, already_taken, conflicting}
use Rattle.repeats.specs.Repeats.{repeated}
use Rattle.answers.specs.Answer.{Answer, turned_back, held, again}
use Rattle.numbers.specs.Refusal.{clock_number, conflict_number, full_number, labels_number, length_number, mask_number, named_number, state_number, taken_number}

-- What a call that is lent the record answers and leaves there.
pub record Offered : Type 0 where
  pub answer : Answer
  pub bytes : List ℕ

-- The place of an event among the pending ones: behind those whose key is before its own.
unfoldable pub place_among : (e : Event) (es : List Event) → ℕ
place_among e [] = 0
place_among e (f ∷ fs) = cond (key_before (key_of f) (key_of e)) (suc (place_among e fs)) 0

-- The event that an offer brings: of its mask's word the eight bits that can be set.
abbrev pub offered_event : (mask : ℕ) (clock labels : List ℕ) → Event
offered_event mask clock labels = record { mask = mask % 256; clock = clock; labels = labels }

unfoldable pub offer_call : (w mask : ℕ) (clock labels s : List ℕ) → Offered
offer_call w mask clock labels s =
    let e = offered_event mask clock labels in
    let turned : ℕ → Offered = λ n. record { answer = turned_back n 0; bytes = s } in
    cond (bad_record_length w (length s)) (turned length_number)
    (cond (bad_state w 1024 s) (turned state_number)
    (cond (bad_mask (process_count s) mask) (turned mask_number)
    (cond (bad_clock (process_count s) mask clock) (turned clock_number)
    (cond (bad_labels mask labels) (turned labels_number)
    (cond (names_closed (closed_mask s) e) (turned named_number)
    (cond (already_taken e (at (taken_counts w s))) (turned taken_number)
    (cond (repeated e (pending_events w s)) (record { answer = again; bytes = s })
    (cond (conflicting e (pending_events w s)) (turned conflict_number)
    (cond (leb 32 (pending_count s)) (turned full_number)
    (record { answer = held (pending_count s + 1); bytes = inserted w s (place_among e (pending_events w s)) e }))))))))))
