-- Turned back by the number found, or accepted: the law `offer_by`.
use Prim.Native.Nat.{◌<◌}
use native.Mathlib.Omega.{arith}
use mathlib.Core.Path.{◌≡◌, sym, ◌∙◌}
use lib.ListN.{length}
use Rattle.records.specs.Record.{record_length, pending_count}
use Rattle.call_offer.proofs.OfferSteps.{some_word, offer_passed, offer_turned, offer_accepted}
use Rattle.call_offer.specs.Unaccepted.{word_of}
use Rattle.call_offer.proofs.offer.Goals as goal
use Rattle.call_offer.proofs.offer.Goals.{In_default}

pub returns-in-Err : goal.returns-in-Err
returns-in-Err c =
    let a = c.args in
    let answer = c.in-Err.answer in
    let both = offer_turned a.w a.mask a.clock a.labels a.«record».now (word_of answer) c.in-Err.ensures (some_word answer) in
    record { reply = c.into.ensures ∙ both.0; bytes = both.1 }

-- What is known of an accepted offer's record.
within : (c : In_default)
    → let a = c.args in
    (length a.«record».now ≡ record_length a.w) × (pending_count a.«record».now < 32)
within c =
    let a = c.args in
    offer_passed a.w a.mask a.clock a.labels a.«record».now
    (sym c.in_default.ensures)

pub pending_count-n-requires : goal.pending_count-n-requires
pending_count-n-requires c = omega (arith, (within (goal.at.pending_count-n-requires c).In_default).0)

pub place_among-i-requires-clause-record_len : goal.place_among-i-requires-clause-record_len
place_among-i-requires-clause-record_len c =
    rw c.of-width.ensures (within (goal.at.place_among-i-requires-clause-record_len c).In_default).0

pub place_among-i-requires-clause-record_bound : goal.place_among-i-requires-clause-record_bound
place_among-i-requires-clause-record_bound c = omega (arith, (within (goal.at.place_among-i-requires-clause-record_bound c).In_default).1)

pub insert_event-requires-clause-record_len : goal.insert_event-requires-clause-record_len
insert_event-requires-clause-record_len c =
    rw c.of-width.ensures (within (goal.at.insert_event-requires-clause-record_len c).In_default).0

pub insert_event-requires-clause-i_bound : goal.insert_event-requires-clause-i_bound
insert_event-requires-clause-i_bound c =
    let place = c.place_among-i in
    place.ensures.1

pub insert_event-requires-clause-record_bound : goal.insert_event-requires-clause-record_bound
insert_event-requires-clause-record_bound c = (within (goal.at.insert_event-requires-clause-record_bound c).In_default).1

pub insert_event-requires-clause-by_index : goal.insert_event-requires-clause-by_index
insert_event-requires-clause-by_index c =
    let counts = c.requires.by_index in
    λ p. rw (c.offered_event-e.ensures, c.of-width.ensures) (counts p)

-- The steps' own equations turn these into the code's words; few names here, since each is one more for them.
pub returns-clause-reply : goal.returns-clause-reply
returns-clause-reply c =
    let a = c.args in
    let both = offer_accepted a.w a.mask a.clock a.labels a.«record».now
    (sym c.in_default.ensures) in
    cc both.0

pub returns-clause-bytes : goal.returns-clause-bytes
returns-clause-bytes c =
    let a = c.args in
    let both = offer_accepted a.w a.mask a.clock a.labels a.«record».now
    (sym c.in_default.ensures) in
    cc both.1
