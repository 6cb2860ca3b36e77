-- An offer comes, on all bytes, to one of three things: it is turned back, a repeat of a pending event, or accepted.
use Rattle.std.specs.Prelude.{ℕ, ◌+◌, ◌<◌, ◌≡◌, refl, true, false, List, leb, eqb, length}
use Rattle.std.proofs.Common.{arith}
use Rattle.std.proofs.lemmas.Bool.{eqb-false}
use Rattle.clocks.specs.Counts.{at}
use Rattle.clocks.specs.Refusal.{bad_mask, bad_clock, bad_labels}
use Rattle.records.specs.Record.{process_count, pending_count, closed_mask, taken_counts, pending_events, inserted}
use Rattle.refusals.specs.Refusals.{bad_record_length, bad_state, names_closed, already_taken, conflicting}
use Rattle.repeats.specs.Repeats.{repeated}
use Rattle.answers.specs.Answer.{turned_back, held, again}
use Rattle.answers.specs.Turns.{by_test}
use Rattle.call_offer.specs.Offer.{Offered, place_among, offered_event, offer_call}

-- What it answers and leaves then.
pub data Case (w mask : ℕ) (clock labels s : List ℕ) (o : Offered) : Type 0 where
  -- ... by a number below 43 that is not take's 35
  turned : (n : ℕ) → 0 < n → n < 43 → eqb n 35 ≡ false → o ≡ record { answer = turned_back n 0; bytes = s }
      → Case w mask clock labels s o
  repeats : bad_mask (process_count s) mask ≡ false → repeated (offered_event mask clock labels) (pending_events w s) ≡ true
      → o ≡ record { answer = again; bytes = s } → Case w mask clock labels s o
  accepted : bad_mask (process_count s) mask ≡ false → bad_clock (process_count s) mask clock ≡ false
      → bad_labels mask labels ≡ false → names_closed (closed_mask s) (offered_event mask clock labels) ≡ false
      → already_taken (offered_event mask clock labels) (at (taken_counts w s)) ≡ false
      → conflicting (offered_event mask clock labels) (pending_events w s) ≡ false → leb 32 (pending_count s) ≡ false
      → o ≡ record {
        answer = held (pending_count s + 1);
        bytes = inserted w s (place_among (offered_event mask clock labels) (pending_events w s))
            (offered_event mask clock labels);
      }
      → Case w mask clock labels s o

abbrev pub OfferCase : ℕ → ℕ → List ℕ → List ℕ → List ℕ → Type 0
OfferCase w mask clock labels s = Case w mask clock labels s (offer_call w mask clock labels s)

pub offer_case : (w mask : ℕ) (clock labels s : List ℕ) → OfferCase w mask clock labels s
unfolding offer_call
offer_case w mask clock labels s =
    let by = by_test (Case w mask clock labels s) in
    let back : ℕ → Offered = λ n. record { answer = turned_back n 0; bytes = s } in
    let e = offered_event mask clock labels in
    by (bad_record_length w (length s)) (back 6) _ (λ _. turned 6 (omega arith) (omega arith) refl refl) λ _.
    by (bad_state w 1024 s) (back 34) _ (λ _. turned 34 (omega arith) (omega arith) refl refl) λ _.
    by (bad_mask (process_count s) mask) (back 7) _ (λ _. turned 7 (omega arith) (omega arith) refl refl) λ h7.
    by (bad_clock (process_count s) mask clock) (back 8) _ (λ _. turned 8 (omega arith) (omega arith) refl refl) λ h8.
    by (bad_labels mask labels) (back 9) _ (λ _. turned 9 (omega arith) (omega arith) refl refl) λ h9.
    by (names_closed (closed_mask s) e) (back 42) _ (λ _. turned 42 (omega arith) (omega arith) refl refl) λ h42.
    by (already_taken e (at (taken_counts w s))) (back 31) _ (λ _. turned 31 (omega arith) (omega arith) refl refl) λ h31.
    by (repeated e (pending_events w s)) (record { answer = again; bytes = s }) _ (λ h. repeats h7 h refl) λ _.
    by (conflicting e (pending_events w s)) (back 32) _ (λ _. turned 32 (omega arith) (omega arith) refl refl) λ h32.
    by (leb 32 (pending_count s)) (back 33) _ (λ _. turned 33 (omega arith) (omega arith) refl refl) λ h33.
    accepted h7 h8 h9 h42 h31 h32 h33 refl

-- What is known of an offer that is turned back by 42: nothing before it turned it back, and its own condition holds.
pub record Named (w mask : ℕ) (clock labels s : List ℕ) : Type 0 where
  pub h7 : bad_mask (process_count s) mask ≡ false
  pub h8 : bad_clock (process_count s) mask clock ≡ false
  pub h9 : bad_labels mask labels ≡ false
  pub h42 : names_closed (closed_mask s) (offered_event mask clock labels) ≡ true

-- An answer that is 42 says so; every other answer says nothing.
abbrev Says : ℕ → ℕ → List ℕ → List ℕ → List ℕ → Offered → Type 0
Says w mask clock labels s o = o.answer ≡ turned_back 42 0 → Named w mask clock labels s

pub named_case : (w mask : ℕ) (clock labels s : List ℕ) → Says w mask clock labels s (offer_call w mask clock labels s)
unfolding offer_call
named_case w mask clock labels s =
    let by = by_test (Says w mask clock labels s) in
    let back : ℕ → Offered = λ n. record { answer = turned_back n 0; bytes = s } in
    let e = offered_event mask clock labels in
    by (bad_record_length w (length s)) (back 6) _ (λ _ q. other 6 refl q) λ _.
    by (bad_state w 1024 s) (back 34) _ (λ _ q. other 34 refl q) λ _.
    by (bad_mask (process_count s) mask) (back 7) _ (λ _ q. other 7 refl q) λ h7.
    by (bad_clock (process_count s) mask clock) (back 8) _ (λ _ q. other 8 refl q) λ h8.
    by (bad_labels mask labels) (back 9) _ (λ _ q. other 9 refl q) λ h9.
    by (names_closed (closed_mask s) e) (back 42) _ (λ h42 q. record { h7 = h7; h8 = h8; h9 = h9; h42 = h42 }) λ _.
    by (already_taken e (at (taken_counts w s))) (back 31) _ (λ _ q. other 31 refl q) λ _.
    by (repeated e (pending_events w s)) (record { answer = again; bytes = s }) _ (λ _ q. none q) λ _.
    by (conflicting e (pending_events w s)) (back 32) _ (λ _ q. other 32 refl q) λ _.
    by (leb 32 (pending_count s)) (back 33) _ (λ _ q. other 33 refl q) λ _.
    λ q. let z : ◌≡◌ {A = ℕ} 0 1 = cc in absurd (omega arith)
  where
    other : (n : ℕ) → eqb n 42 ≡ false → turned_back n 0 ≡ turned_back 42 0 → Named w mask clock labels s
    other n h q = let z : n ≡ 42 = cc in absurd (eqb-false n 42 h z)

    none : again ≡ turned_back 42 0 → Named w mask clock labels s
    none q = let z : ◌≡◌ {A = ℕ} 0 1 = cc in absurd (omega arith)
