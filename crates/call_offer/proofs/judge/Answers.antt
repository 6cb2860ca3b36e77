-- Each return is a number's turn: the tests before it are passed, and its own holds.
use Prim.Native.Nat.{ℕ, ◌<◌, ◌^◌}
use native.Mathlib.Omega.{arith}
use mathlib.Core.Path.{refl, ◌≡◌, sym, ◌∙◌, ap}
use mathlib.Core.Bool.{false, cond}
use mathlib.Core.List.{List}
use lib.Dec.{leb}
use lib.ListN.{length}
use borrow.Author.Tests.{eq-eqb, ne_eqb}
use Rattle.clocks.specs.Counts.{at}
use Rattle.clocks.specs.RefusalCode.{event_fault}
use Rattle.clocks.specs.declared.Event.{Event}
use Rattle.refusals.specs.RefusalLaws.{right_length, state-within}
use Rattle.records.specs.Record.{record_length, process_count, closed_mask, taken_counts, pending_events}
use Rattle.refusals.specs.Refusals.{bad_record_length, bad_state, names_closed, already_taken, conflicting}
use Rattle.repeats.specs.Repeats.{repeated}
use Rattle.call_offer.proofs.OfferSteps.{some_process, processes_turn, processes_pass}
use Rattle.call_offer.specs.Offer.{offered_event}
use Rattle.call_offer.specs.OfferCode.{pending_word, unaccepted_word}
use Rattle.std.proofs.Common.{rules}
use Rattle.numbers.specs.RefusalNumber.{number_of}
use Rattle.numbers.specs.RefusalLaws.{some_number}
use Rattle.call_offer.specs.Unaccepted.{unaccepted}
use Rattle.call_offer.proofs.judge.Goals as goal
use Rattle.call_offer.proofs.judge.Goals.{After-already_taken-taken, After-names_closed-closed, After-conflicting-conflict, After-sent_again-again, Else-bad_record_length, Else-bad_state, In_err-event_fault, In_ok-event_fault, Start}

-- ---- The offered event and the record, as the definition has them

abbrev event : Start → Event
event c = offered_event c.args.mask c.args.clock c.args.labels

abbrev bytes : Start → List ℕ
bytes c = c.args.«record».now

-- ---- The tests that let the offer pass, each with what its call answered

length_passed : (c : Else-bad_record_length) → bad_record_length c.of-width.result (length (bytes (goal.at.Else-bad_record_length c).Start)) ≡ false
length_passed c = sym c.bad_record_length.ensures ∙ c.if-bad_record_length.false

-- ... and so the record has its length, and the mask is a word.
right : (c : Else-bad_record_length) → length (bytes (goal.at.Else-bad_record_length c).Start) ≡ record_length c.of-width.result
right c = right_length c.of-width.result (length (bytes (goal.at.Else-bad_record_length c).Start)) (length_passed c)

mask_word : (c : Else-bad_record_length) → c.args.mask < 2 ^ 64
mask_word c = search rules

state_passed : (c : Else-bad_state) → bad_state c.of-width.result 1024 (bytes (goal.at.Else-bad_state c).Start) ≡ false
state_passed c = sym c.bad_state.ensures ∙ c.if-bad_state.false

-- The number of 7, 8 and 9 is that of the record's processes.
event_turned : (c : In_err-event_fault) → let a = c.args in
    event_fault (process_count (bytes (goal.at.In_err-event_fault c).Start)) a.mask a.clock a.labels
    ≡ number_of c.in_err-event_fault.field-0.0
event_turned c =
    let a = c.args in
    sym (c.in_err-event_fault.ensures
    ∙ ap (λ (k : ℕ). event_fault k a.mask a.clock a.labels) c.process_count.ensures.0)

event_passed : (c : In_ok-event_fault) → let a = c.args in
    event_fault (process_count (bytes (goal.at.In_ok-event_fault c).Start)) a.mask a.clock a.labels ≡ 0
event_passed c =
    let a = c.args in
    sym (c.in_ok-event_fault.ensures
    ∙ ap (λ (k : ℕ). event_fault k a.mask a.clock a.labels) c.process_count.ensures.0)

-- What the record says of the event's processes.
closed_read : (c : After-names_closed-closed)
    → names_closed (closed_mask (bytes (goal.at.After-names_closed-closed c).Start)) (event (goal.at.After-names_closed-closed c).Start) ≡ c.names_closed-closed.result
closed_read c = cc

taken_read : (c : After-already_taken-taken)
    → already_taken (event (goal.at.After-already_taken-taken c).Start) (at (taken_counts c.of-width.result (bytes (goal.at.After-already_taken-taken c).Start))) ≡ c.already_taken-taken.result
taken_read c =
    let offered = c.offered_event-e in
    let counts = c.taken_counts in
    sym (
    c.already_taken-taken.ensures
    ∙ ap (λ (l : List ℕ). already_taken offered.result (at l)) counts.ensures
    ∙ ap (λ (e : Event). already_taken e (at (taken_counts c.of-width.result (bytes (goal.at.After-already_taken-taken c).Start)))) offered.ensures
    )

-- What the pending events say of the offered one.
conflict_read : (c : After-conflicting-conflict)
    → conflicting (event (goal.at.After-conflicting-conflict c).Start) (pending_events c.of-width.result (bytes (goal.at.After-conflicting-conflict c).Start)) ≡ c.conflicting-conflict.result
conflict_read c = cc

again_read : (c : After-sent_again-again)
    → repeated (event (goal.at.After-sent_again-again c).Start) (pending_events c.of-width.result (bytes (goal.at.After-sent_again-again c).Start)) ≡ c.sent_again-again.result
again_read c = cc

-- ---- The goals

pub returns-then-bad_record_length : goal.returns-then-bad_record_length
unfolding unaccepted_word
returns-then-bad_record_length c =
    rw (← c.of-width.ensures, ← c.bad_record_length.ensures, c.if-bad_record_length.true)

pub bad_state-requires : goal.bad_state-requires
bad_state-requires c = record { record_len = right (goal.at.bad_state-requires c).Else-bad_record_length }

pub returns-then-bad_state : goal.returns-then-bad_state
unfolding unaccepted_word
returns-then-bad_state c =
    rw (
      ← c.of-width.ensures,
      length_passed (goal.at.returns-then-bad_state c).Else-bad_record_length,
      ← c.bad_state.ensures,
      c.if-bad_state.true,
    )

pub process_count-requires : goal.process_count-requires
process_count-requires c = omega (arith, right (goal.at.process_count-requires c).Else-bad_record_length)

pub event_fault-requires : goal.event_fault-requires
event_fault-requires c =
    omega (arith, (state-within c.of-width.result 1024 (bytes (goal.at.event_fault-requires c).Start) (state_passed (goal.at.event_fault-requires c).Else-bad_state)).0)

pub returns-in_err-event_fault : goal.returns-in_err-event_fault
unfolding unaccepted_word
returns-in_err-event_fault c =
    let refusal = c.in_err-event_fault.field-0.0 in
    let same : unaccepted c.from_residual.result ≡ number_of refusal = search rules in
    rw (
      ← c.of-width.ensures,
      length_passed (goal.at.returns-in_err-event_fault c).Else-bad_record_length,
      state_passed (goal.at.returns-in_err-event_fault c).Else-bad_state,
      event_turned (goal.at.returns-in_err-event_fault c).In_err-event_fault,
      ne_eqb (number_of refusal) 0 (λ z. omega (arith, some_number refusal)),
    )
    same

pub closed_mask-requires : goal.closed_mask-requires
closed_mask-requires c = omega (arith, right (goal.at.closed_mask-requires c).Else-bad_record_length)

pub taken_counts-requires : goal.taken_counts-requires
taken_counts-requires c = omega (arith, right (goal.at.taken_counts-requires c).Else-bad_record_length)

pub returns-in_err-judge_processes : goal.returns-in_err-judge_processes
unfolding unaccepted_word
returns-in_err-judge_processes c =
    let refusal = c.in_err-judge_processes.field-0.0 in
    let same : unaccepted c.from_residual-in_err-judge_processes.result ≡ number_of refusal = search rules in
    rw (
      ← c.of-width.ensures,
      length_passed (goal.at.returns-in_err-judge_processes c).Else-bad_record_length,
      state_passed (goal.at.returns-in_err-judge_processes c).Else-bad_state,
      eq-eqb _ 0 (event_passed (goal.at.returns-in_err-judge_processes c).In_ok-event_fault),
      closed_read (goal.at.returns-in_err-judge_processes c).After-names_closed-closed,
      taken_read (goal.at.returns-in_err-judge_processes c).After-already_taken-taken,
    )
    (same
    ∙ processes_turn c.names_closed-closed.result c.already_taken-taken.result
    (pending_word c.of-width.result (event (goal.at.returns-in_err-judge_processes c).Start) (bytes (goal.at.returns-in_err-judge_processes c).Start))
    (number_of refusal) c.in_err-judge_processes.ensures (some_number refusal))

pub conflicting-conflict-requires-clause-record_len : goal.conflicting-conflict-requires-clause-record_len
conflicting-conflict-requires-clause-record_len c = right (goal.at.conflicting-conflict-requires-clause-record_len c).Else-bad_record_length

pub conflicting-conflict-requires-clause-record_bound : goal.conflicting-conflict-requires-clause-record_bound
conflicting-conflict-requires-clause-record_bound c = (state-within c.of-width.result 1024 (bytes (goal.at.conflicting-conflict-requires-clause-record_bound c).Start) (state_passed (goal.at.conflicting-conflict-requires-clause-record_bound c).Else-bad_state)).1

pub sent_again-again-requires-clause-record_len : goal.sent_again-again-requires-clause-record_len
sent_again-again-requires-clause-record_len c = right (goal.at.sent_again-again-requires-clause-record_len c).Else-bad_record_length

pub sent_again-again-requires-clause-record_bound : goal.sent_again-again-requires-clause-record_bound
sent_again-again-requires-clause-record_bound c =
    let within = state-within c.of-width.result 1024 (bytes (goal.at.sent_again-again-requires-clause-record_bound c).Start) (state_passed (goal.at.sent_again-again-requires-clause-record_bound c).Else-bad_state) in
    within.1

pub sent_again-again-requires-clause-mask_nonzero : goal.sent_again-again-requires-clause-mask_nonzero
sent_again-again-requires-clause-mask_nonzero c =
    let a = c.args in
    let within = state-within c.of-width.result 1024 (bytes (goal.at.sent_again-again-requires-clause-mask_nonzero c).Start) (state_passed (goal.at.sent_again-again-requires-clause-mask_nonzero c).Else-bad_state) in
    let some = some_process (process_count (bytes (goal.at.sent_again-again-requires-clause-mask_nonzero c).Start)) a.mask a.clock a.labels within.0
    (mask_word (goal.at.sent_again-again-requires-clause-mask_nonzero c).Else-bad_record_length) (event_passed (goal.at.sent_again-again-requires-clause-mask_nonzero c).In_ok-event_fault) in
    rw c.offered_event-e.ensures some

pub sent_again-again-requires-clause-suspected_value : goal.sent_again-again-requires-clause-suspected_value
sent_again-again-requires-clause-suspected_value c = c.conflicting-conflict.ensures

pub pending_count-full-requires : goal.pending_count-full-requires
pending_count-full-requires c = omega (arith, right (goal.at.pending_count-full-requires c).Else-bad_record_length)

pub returns : goal.returns
unfolding unaccepted_word
returns c =
    rw (
      ← c.of-width.ensures,
      length_passed (goal.at.returns c).Else-bad_record_length,
      state_passed (goal.at.returns c).Else-bad_state,
      eq-eqb _ 0 (event_passed (goal.at.returns c).In_ok-event_fault),
      closed_read (goal.at.returns c).After-names_closed-closed,
      taken_read (goal.at.returns c).After-already_taken-taken,
      processes_pass c.names_closed-closed.result c.already_taken-taken.result _ _ c.in_ok-judge_processes.ensures refl,
      again_read (goal.at.returns c).After-sent_again-again,
      conflict_read (goal.at.returns c).After-conflicting-conflict,
    )
    (c.judge_pending.ensures
    ∙ ap
    (λ (n : ℕ). cond c.sent_again-again.result 256
    (cond c.conflicting-conflict.result 32 (cond (leb 32 n) 33 0)))
    c.pending_count-full.ensures.0)
