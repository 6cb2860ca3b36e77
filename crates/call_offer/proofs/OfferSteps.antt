-- Offer, test by test, as its functions go through it.
use Prim.Native.Nat.{ℕ, zero, suc, ◌+◌, ◌≤◌, ◌<◌, ◌*◌, ◌^◌}
use native.Mathlib.Omega.{arith}
use native.Mathlib.Nat.{add-zero, zero-add, le_refl}
use mathlib.Core.Path.{◌≡◌, refl, sym, ap, subst, ◌∙◌}
use Rattle.std.proofs.Common.{Option, None, Some}
use Rattle.std.specs.Option.{MatchOption, unwrap_or}
use Rattle.numbers.specs.RefusalLaws.{some_number}
use Rattle.call_offer.specs.declared.unaccepted.Unaccepted.{Unaccepted}
use Rattle.call_offer.specs.declared.unaccepted.Unaccepted.TheVariants.{Again, Refused}
use Rattle.call_offer.specs.Unaccepted.{word_of}
use mathlib.Core.Bool.{Bool, true, false, cond, ◌&&◌}
use mathlib.Core.List.{List}
use lib.Dec.{leb, eqb, lit<, T, eqb→eq}
use lib.ListN.{length, drop}
use borrow.Author.Tests.{leb-false, eqb-true, eqb-false, eq-eqb, ne_eqb}
use Rattle.clocks.specs.declared.Event.{Event}
use Rattle.codec.specs.Bit.{bit}
use Rattle.clocks.specs.Event.{count, involved}
use Rattle.clocks.specs.Key.{key_of, key_before, lowest}
use Rattle.clocks.specs.SameEvent.{same_at, same_event}
use Rattle.clocks.specs.Bounded.{all_below, any_of}
use Rattle.clocks.specs.cuts.EventLaws.{true-T}
use lib.Pow.{pow_mono}
use Rattle.clocks.specs.stored.RefusalLaws.{mask_fine, fault_0}
use Rattle.clocks.specs.stored.KeyLaws.{lowest-lt, lowest-involved}
use Rattle.clocks.specs.stored.BoundedLaws.{and_l, and_r, all_e, any_i, any_of_i, any_of_e}
use Rattle.clocks.specs.Counts.{at}
use Rattle.clocks.specs.Refusal.{bad_mask, bad_clock, bad_labels}
use Rattle.clocks.specs.RefusalCode.{event_fault}
use Rattle.records.specs.Record.{process_count, pending_count, closed_mask, taken_counts, pending_at, pending_events, inserted, record_length}
use Rattle.refusals.specs.Refusals.{bad_record_length, bad_state, names_closed, already_taken, conflicts, conflicting}
use Rattle.answers.specs.Answer.{turned_back, held, again, reply_word}
use Rattle.call_offer.specs.Offer.{Offered, place_among, offered_event, offer_call}
use Rattle.refusals.specs.RefusalLaws.{right_length}
use Rattle.answers.specs.Turns.{Turns, chosen_by, passed, end, turn}
use Rattle.clocks.specs.stored.CountsLaws.{rest_next, rest_end}
use Rattle.call_offer.specs.OfferCode.{pending_word, unaccepted_word}
use Rattle.repeats.specs.Repeats.{repeated}

-- ---- The refusals in their order

-- The numbers of 7, 8 and 9 apart, or as one.
event-first : (b7 b8 b9 : Bool) (x : ℕ)
    → cond b7 7 (cond b8 8 (cond b9 9 x))
    ≡ cond (eqb (cond b7 7 (cond b8 8 (cond b9 9 0))) 0) x (cond b7 7 (cond b8 8 (cond b9 9 0)))
event-first true b8 b9 x = refl
event-first false true b9 x = refl
event-first false false true x = refl
event-first false false false x = refl

-- The number of 42 and 31, where the event is turned back by one of them, and where it is not.
pub processes_turn : (b42 b31 : Bool) (x n : ℕ) → n ≡ cond b42 42 (cond b31 31 0) → 0 < n
    → n ≡ cond b42 42 (cond b31 31 x)
processes_turn true b31 x n e h = e
processes_turn false true x n e h = e
processes_turn false false x n e h = absurd (omega arith)

pub processes_pass : (b42 b31 : Bool) (x n : ℕ) → n ≡ cond b42 42 (cond b31 31 0) → n ≡ 0
    → cond b42 42 (cond b31 31 x) ≡ x
processes_pass true b31 x n e h = absurd (omega arith)
processes_pass false true x n e h = absurd (omega arith)
processes_pass false false x n e h = refl

-- What an offer answers and leaves where it is turned back or is a repeat, by the reply word, and where it is accepted.
pub turned : List ℕ → ℕ → Offered
turned s n = record { answer = cond (eqb n 256) again (turned_back n 0); bytes = s }

pub accepted : ℕ → Event → List ℕ → Offered
accepted w e s = record {
  answer = held (pending_count s + 1);
  bytes = inserted w s (place_among e (pending_events w s)) e;
}

-- The conditions of an offer, in their order.
abbrev turns : ℕ → ℕ → List ℕ → List ℕ → List ℕ → Turns
turns w mask clock labels s =
    let e = offered_event mask clock labels in
    let k = process_count s in
    turn (bad_record_length w (length s)) 6
    (turn (bad_state w 1024 s) 34
    (turn (bad_mask k mask) 7
    (turn (bad_clock k mask clock) 8
    (turn (bad_labels mask labels) 9
    (turn (names_closed (closed_mask s) e) 42
    (turn (already_taken e (at (taken_counts w s))) 31
    (turn (repeated e (pending_events w s)) 256
    (turn (conflicting e (pending_events w s)) 32
    (turn (leb 32 (pending_count s)) 33 end)))))))))

pub offer_by : (w mask : ℕ) (clock labels s : List ℕ)
    → offer_call w mask clock labels s
    ≡ cond (eqb (unaccepted_word w mask clock labels s) 0) (accepted w (offered_event mask clock labels) s)
    (turned s (unaccepted_word w mask clock labels s))
unfolding offer_call unaccepted_word event_fault turned accepted
offer_by w mask clock labels s =
    let e = offered_event mask clock labels in
    let k = process_count s in
    rw (← event-first (bad_mask k mask) (bad_clock k mask clock) (bad_labels mask labels)
    (cond (names_closed (closed_mask s) e) 42 (cond (already_taken e (at (taken_counts w s))) 31 (pending_word w e s))))
    (chosen_by (turns w mask clock labels s) (turned s) (accepted w e s)
    (lit< tt, (lit< tt, (lit< tt, (lit< tt, (lit< tt, (lit< tt, (lit< tt, (lit< tt, (lit< tt, (lit< tt, tt)))))))))))

-- No answer's word is 0.
pub some_word : (answer : Unaccepted) → 0 < word_of answer
some_word Again = lit< tt
some_word (Refused refusal) = some_number refusal

-- ---- A repeat conflicts

-- An event that passed 7 to 9 has a process that takes part.
pub some_process : (k mask : ℕ) (clock labels : List ℕ) → k ≤ 8 → mask < 2 ^ 64 → event_fault k mask clock labels ≡ 0
    → 0 < (offered_event mask clock labels).mask
some_process k mask clock labels eight word h =
    let m = (mask_fine k mask word).0 ((fault_0 k mask clock labels).0 h).0 in
    omega (arith, m.0, m.1, pow_mono eight)

-- Two events that are the same have the same counts at the processes that take part, of which there is one.
same-conflicts : (e f : Event) → 0 < e.mask → e.mask < 256 → T (same_event e f) → T (conflicts e f)
unfolding same_event conflicts count involved
same-conflicts e f some small t =
    let p = lowest e in
    let below : p < 8 = lowest-lt e some small in
    let mask : e.mask ≡ f.mask =
    eqb→eq e.mask f.mask (and_l (eqb e.mask f.mask) (all_below 8 (same_at e f)) t) in
    let both = all_e 8 (same_at e f) (and_r (eqb e.mask f.mask) (all_below 8 (same_at e f)) t) p below in
    let equal = and_l (eqb (at e.clock p) (at f.clock p)) (eqb (at e.labels p) (at f.labels p)) both in
    let part : bit e.mask p ≡ true = lowest-involved e below in
    any_i 8 (λ q. (bit e.mask q && bit f.mask q) && eqb (at e.clock q) (at f.clock q)) p below
    (rw (← mask, part) equal)

pub repeat_conflicts : (e : Event) (fs : List Event) → 0 < e.mask → e.mask < 256 → conflicting e fs ≡ false
    → repeated e fs ≡ false
unfolding conflicting repeated
repeat_conflicts e fs some small h = none (any_of (same_event e) fs) refl
  where
    none : (b : Bool) → any_of (same_event e) fs ≡ b → any_of (same_event e) fs ≡ false
    none false q = q
    none true q =
        let f = any_of_e (same_event e) fs (true-T q) in
        absurd (subst T h (any_of_i (conflicts e) fs f.0 f.1 (same-conflicts e f.0 some small f.2)))

-- ---- Among the pending events

-- The place among those from number i on, and those before.
abbrev pub place_from : ℕ → List ℕ → Event → ℕ → ℕ
place_from w s e i = i + place_among e (drop i (pending_events w s))

module _ (w : ℕ) (s : List ℕ) (e : Event) (i : ℕ) where
  pub place_here : i < pending_count s → key_before (key_of (pending_at w s i)) (key_of e) ≡ false → place_from w s e i ≡ i
  unfolding place_among pending_events
  place_here l h = rw (rest_next (pending_count s) (pending_at w s) i l, h, add-zero)

  pub place_further : i < pending_count s → key_before (key_of (pending_at w s i)) (key_of e) ≡ true
      → place_from w s e i ≡ place_from w s e (i + 1)
  unfolding place_among pending_events
  place_further l h = rw (rest_next (pending_count s) (pending_at w s) i l, h) (omega arith)

  pub place-last : pending_count s ≤ i → place_from w s e i ≡ i
  unfolding place_among pending_events
  place-last l = rw (rest_end (pending_count s) (pending_at w s) i l, add-zero)

-- The library's search for the first whose key is not before the event's ends at the event's place.
abbrev pub Before : ℕ → List ℕ → Event → ℕ → Type 0
Before w s e i = key_before (key_of (pending_at w s i)) (key_of e) ≡ true

abbrev pub NotBefore : ℕ → List ℕ → Event → ℕ → Type 0
NotBefore w s e i = key_before (key_of (pending_at w s i)) (key_of e) ≡ false

module _ (w : ℕ) (s : List ℕ) (e : Event) (n : ℕ) (all : n ≡ pending_count s) where
  place_along : (i : ℕ) → i ≤ n → ((k : ℕ) → k < i → Before w s e k) → place_from w s e 0 ≡ place_from w s e i
  place_along zero l before = refl
  place_along (suc i) l before =
      place_along i (omega arith) (λ k m. before k (omega arith))
      ∙ place_further w s e i (omega arith) (before i (omega arith))
      ∙ ap (place_from w s e) (omega arith)

  pub place_found : (r : Option ℕ) → MatchOption r ((k : ℕ) → 0 ≤ k → k < n → Before w s e k)
      (λ i. (0 ≤ i) × (i < n) × NotBefore w s e i × ((k : ℕ) → 0 ≤ k → k < i → Before w s e k))
      → (unwrap_or r n ≡ place_among e (pending_events w s)) × (unwrap_or r n ≤ pending_count s)
  place_found None none =
      let along = place_along n (le_refl _) (λ k l. none k (omega arith) l) in
      (sym (sym (zero-add _) ∙ along ∙ place-last w s e n (omega arith)), omega arith)
  place_found (Some i) found =
      let along = place_along i (omega (arith, found.1)) (λ k l. found.3 k (omega arith) l) in (
        sym (sym (zero-add _) ∙ along ∙ place_here w s e i (omega (arith, found.1)) found.2),
        omega (arith, found.1),
      )

-- ---- What is known where an offer is accepted

passed_event : (f x : ℕ) → cond (eqb f 0) x f ≡ 0 → x ≡ 0
passed_event f x = go (eqb f 0) refl
  where
    go : (b : Bool) → eqb f 0 ≡ b → cond b x f ≡ 0 → x ≡ 0
    go true e h = h
    go false e h = absurd (eqb-false f 0 e h)

pub offer_passed : (w mask : ℕ) (clock labels s : List ℕ) → unaccepted_word w mask clock labels s ≡ 0
    → (length s ≡ record_length w) × (pending_count s < 32)
unfolding unaccepted_word
offer_passed w mask clock labels s h =
    let e = offered_event mask clock labels in
    let full : ℕ = cond (leb 32 (pending_count s)) 33 0 in
    let conflict : ℕ = cond (conflicting e (pending_events w s)) 32 full in
    let taken : ℕ = cond (already_taken e (at (taken_counts w s))) 31 (pending_word w e s) in
    let named : ℕ = cond (names_closed (closed_mask s) e) 42 taken in
    let fault : ℕ = event_fault (process_count s) mask clock labels in
    let p = passed (bad_record_length w (length s)) 6 (cond (bad_state w 1024 s) 34 (cond (eqb fault 0) named fault))
    (lit< tt) h in
    let q = passed (bad_state w 1024 s) 34 (cond (eqb fault 0) named fault) (lit< tt) p.1 in
    let o = passed (names_closed (closed_mask s) e) 42 taken (lit< tt) (passed_event fault named q.1) in
    let r = passed (already_taken e (at (taken_counts w s))) 31 (pending_word w e s) (lit< tt) o.1 in
    let t = passed (repeated e (pending_events w s)) 256 conflict (lit< tt) r.1 in
    let u = passed (conflicting e (pending_events w s)) 32 full (lit< tt) t.1 in (
      right_length w (length s) p.0,
      leb-false 32 (pending_count s) (passed (leb 32 (pending_count s)) 33 0 (lit< tt) u.1).0,
    )

-- ---- The reply and the bytes, in the two cases

pub offer_turned : (w mask : ℕ) (clock labels s : List ℕ) (n : ℕ) → n ≡ unaccepted_word w mask clock labels s → 0 < n
    → (n ≡ reply_word (offer_call w mask clock labels s).answer) × (s ≡ (offer_call w mask clock labels s).bytes)
unfolding turned reply_word
offer_turned w mask clock labels s n e h =
    let whole : offer_call w mask clock labels s ≡ turned s n =
    offer_by w mask clock labels s ∙ rw (← e, ne_eqb n 0 (λ z. omega arith)) in
    (rw whole (word (eqb n 256) refl), rw whole)
  where
    word : (b : Bool) → eqb n 256 ≡ b → n ≡ reply_word (cond b again (turned_back n 0))
    word true q = eqb-true n 256 q
    word false q = omega arith

pub offer_accepted : (w mask : ℕ) (clock labels s : List ℕ) → unaccepted_word w mask clock labels s ≡ 0
    → let e = offered_event mask clock labels in
    (65536 * (pending_count s + 1) ≡ reply_word (offer_call w mask clock labels s).answer)
    × (inserted w s (place_among e (pending_events w s)) e ≡ (offer_call w mask clock labels s).bytes)
unfolding accepted reply_word
offer_accepted w mask clock labels s h =
    let whole : offer_call w mask clock labels s ≡ accepted w (offered_event mask clock labels) s =
    offer_by w mask clock labels s ∙ rw (eq-eqb (unaccepted_word w mask clock labels s) 0 h) in
    (rw whole, rw whole)
