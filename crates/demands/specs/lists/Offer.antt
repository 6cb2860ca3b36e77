-- Each answer of the next offer, exactly if: its tests are those of the ledger (calls/OfferByLedger), and each of them
-- says what its sentence says of the events.
use Prim.Native.Nat.{ℕ, suc, ◌+◌, ◌%◌, ◌^◌, ◌≤◌, ◌<◌}
use native.Mathlib.Omega.{arith}
use Rattle.std.proofs.Math.Decide.{dec_lt}
use Rattle.std.proofs.Math.Nat.{lt_of_not-le}
use Rattle.std.specs.Prelude.{◌≡◌, true, false, not, ◌&&◌, List, ◌⊎◌, ◌↔◌, ◌≢◌, T}
use Rattle.std.proofs.Math.Path.{refl, ap}
use Rattle.std.proofs.Common.{sym, ◌∙◌, true≢false, inl, inr, ⊎_elim, eqb→eq, T_not, eq-eqb, le-leb}
use Rattle.std.proofs.Math.Bool.{Bool}
use Rattle.std.proofs.Math.Dec.{leb, eqb, leb→le, not_T}
use Rattle.std.proofs.Math.ListN.{length}
use Rattle.codec.specs.Bit.{bit}
use Rattle.codec.specs.BitLaws.{bit_above}
use Rattle.clocks.specs.declared.Event.{Event}
use Rattle.clocks.specs.Event.{Cut, count, involved}
use Rattle.clocks.specs.History.{taken}
use Rattle.clocks.specs.Counts.{at}
use Rattle.clocks.specs.Bounded.{any_below}
use Rattle.clocks.specs.Refusal.{bad_mask, bad_count, bad_clock, bad_label, bad_labels}
use Rattle.clocks.specs.cuts.EventLaws.{T_true, true-T}
use Rattle.clocks.specs.stored.BoundedLaws.{and_i, and_l, and_r, or_l, or_r, or_e, any_i, any_e, any_of_i, any_of_e}
use Rattle.rules.specs.Line.{lines_at}
use Rattle.rules.specs.Formula.{Formula}
use Rattle.refusals.specs.Refusals.{names_closed, already_taken, conflicts, conflicting}
use Rattle.repeats.specs.Repeats.{repeated}
use Rattle.repeats.specs.RepeatLaws.{repeated_exactly}
use Rattle.answers.specs.Answer.{turned_back, held, again}
use Rattle.call_offer.specs.Offer.{offered_event}
use Rattle.demands.specs.Ledger.{Ledger}
use Rattle.demands.specs.Run.{Passed, offers, Watch}
use Rattle.demands.specs.EveryList.{NamesClosed}
use Rattle.demands.specs.calls.OfferByLedger.{offer_by_ledger}
use Rattle.demands.specs.calls.Tests.{Tests, else, test, result, answer_of, test_of, Failed, within, mark, lacks, distinct, first_decides, marked, failed_next, never}
use Rattle.demands.specs.lists.SoundRun.{Sound, every-list}
use Rattle.demands.specs.statements.Offer.{BadMask, BadClock, BadLabels, IsTaken, IsPending, IsContradicted, Formed, Admissible, New, Unknown, Uncontradicted, next_offer, OfferAnswers, OfferExact, OfferIsExact}

-- ---- A test that says something

record Says (b : Bool) (C : Type 0) : Type 0 where
  holds : (b ≡ true) ↔ C
  fails : (b ≡ false) ↔ (C → ⊥)

says : (b : Bool) (C : Type 0) → (T b → C) → (C → T b) → Says b C
says true C i e = record {
  holds = ((λ _. i tt), λ _. refl);
  fails = (
    (λ h. absurd (true≢false h)),
    λ n. absurd (n (i tt)),
  );
}
says false C i e = record {
  holds = ((λ h. absurd (true≢false (sym h))), λ c. absurd (e c));
  fails = (
    (λ _ c. e c),
    λ _. refl,
  );
}

-- ---- 7, 8, 9

mask_says : (k mask : ℕ) → mask < 2 ^ 64 → Says (bad_mask k mask) (BadMask k mask)
unfolding bad_mask
mask_says k mask l = says (bad_mask k mask) (BadMask k mask) there back
  where
    high : ℕ → Bool
    high p = leb k p && bit mask p

    of_bit : T (any_below 64 high) → BadMask k mask
    of_bit t =
        let x = any_e 64 high t in
        inr (
          x.0,
          leb→le k x.0 (and_l (leb k x.0) (bit mask x.0) x.2),
          T_true (bit mask x.0) (and_r (leb k x.0) (bit mask x.0) x.2),
        )

    there : T (bad_mask k mask) → BadMask k mask
    there t = ⊎_elim (λ z. inl (eqb→eq mask 0 z)) of_bit (or_e (eqb mask 0) (any_below 64 high) t)

    below : (p : ℕ) → bit mask p ≡ true → Dec (p < 64) → p < 64
    below p h (yes j) = j
    below p h (no j) = absurd (true≢false (sym h ∙ bit_above mask 64 p l (omega arith)))

    back : BadMask k mask → T (bad_mask k mask)
    back (inl z) = or_l (eqb mask 0) (any_below 64 high) (true-T (eq-eqb mask 0 z))
    back (inr (p, m, h)) =
        or_r (eqb mask 0) (any_below 64 high)
        (any_i 64 high p (below p h (dec_lt p 64)) (and_i (leb k p) (bit mask p) (true-T (le-leb k p m)) (true-T h)))

clock_says : (k mask : ℕ) (clock : List ℕ) → Says (bad_clock k mask clock) (BadClock k mask clock)
unfolding bad_clock
clock_says k mask clock = says (bad_clock k mask clock) (BadClock k mask clock) there back
  where
    there : T (bad_clock k mask clock) → BadClock k mask clock
    there t =
        let x = any_e 8 (bad_count k mask clock) t in
        let p : ℕ = x.0 in (
          p,
          x.1,
          ⊎_elim
              (λ a. inl (
                T_true (bit mask p) (and_l (bit mask p) (eqb (at clock p) 0) a),
                eqb→eq (at clock p) 0 (and_r (bit mask p) (eqb (at clock p) 0) a),
              ))
              (λ a. inr (
                leb→le k p (and_l (leb k p) (not (eqb (at clock p) 0)) a),
                λ z. T_not (eqb (at clock p) 0) (and_r (leb k p) (not (eqb (at clock p) 0)) a)
                    (true-T (eq-eqb (at clock p) 0 z)),
              ))
              (or_e (bit mask p && eqb (at clock p) 0) (leb k p && not (eqb (at clock p) 0)) x.2),
        )

    here : (p : ℕ) → ((bit mask p ≡ true) × (at clock p ≡ 0)) ⊎ ((k ≤ p) × (at clock p ≢ 0))
        → T (bad_count k mask clock p)
    here p (inl (b, z)) = or_l (bit mask p && eqb (at clock p) 0) (leb k p && not (eqb (at clock p) 0))
        (and_i (bit mask p) (eqb (at clock p) 0) (true-T b) (true-T (eq-eqb (at clock p) 0 z)))
    here p (inr (l, n)) =
        or_r (bit mask p && eqb (at clock p) 0) (leb k p && not (eqb (at clock p) 0))
        (and_i (leb k p) (not (eqb (at clock p) 0)) (true-T (le-leb k p l))
        (not_T (eqb (at clock p) 0) (λ t. n (eqb→eq (at clock p) 0 t))))

    back : BadClock k mask clock → T (bad_clock k mask clock)
    back (p, l, c) = any_i 8 (bad_count k mask clock) p l (here p c)

labels_say : (mask : ℕ) (labels : List ℕ) → Says (bad_labels mask labels) (BadLabels mask labels)
unfolding bad_labels
labels_say mask labels = says (bad_labels mask labels) (BadLabels mask labels) there back
  where
    unset : (b : Bool) → T (not b) → b ≡ false
    unset true t = absurd t
    unset false t = refl

    there : T (bad_labels mask labels) → BadLabels mask labels
    there t =
        let x = any_e 8 (bad_label mask labels) t in
        let p : ℕ = x.0 in (
          p,
          x.1,
          unset (bit mask p) (and_l (not (bit mask p)) (not (eqb (at labels p) 0)) x.2),
          λ z. T_not (eqb (at labels p) 0) (and_r (not (bit mask p)) (not (eqb (at labels p) 0)) x.2)
              (true-T (eq-eqb (at labels p) 0 z)),
        )

    back : BadLabels mask labels → T (bad_labels mask labels)
    back (p, l, b, n) =
        any_i 8 (bad_label mask labels) p l
        (and_i (not (bit mask p)) (not (eqb (at labels p) 0)) (rw b tt)
        (not_T (eqb (at labels p) 0) (λ t. n (eqb→eq (at labels p) 0 t))))

-- ---- 42, 31, again, 32

module _ (w k : ℕ) (f : Formula) (start : Cut) (Z : Watch) (S : Sound w k f start Z)
    (mask : ℕ) (clock labels : List ℕ) (passed : Passed w (offers mask clock labels)) where
  abbrev e : Event
  e = offered_event mask clock labels

  abbrev L : Ledger
  L = Z.ledger

  -- a process that takes part is one of the eight
  among_eight : (p : ℕ) → involved e p ≡ true → Dec (p < 8) → p < 8
  unfolding involved
  among_eight p h (yes l) = l
  among_eight p h (no l) = absurd (true≢false (sym h ∙ bit_above (mask % 256) 8 p (omega arith) (omega arith)))

  closed_says : Says (names_closed L.closed e) (NamesClosed Z e)
  unfolding names_closed
  closed_says = says (names_closed L.closed e) (NamesClosed Z e)
      (λ t. let x = any_e 8 (λ p. involved e p && bit L.closed p) t in (
        x.0,
        T_true (involved e x.0) (and_l (involved e x.0) (bit L.closed x.0) x.2),
        T_true (bit L.closed x.0) (and_r (involved e x.0) (bit L.closed x.0) x.2),
      ))
      (λ x. any_i 8 (λ p. involved e p && bit L.closed p) x.0 (among_eight x.0 x.1 (dec_lt x.0 8))
      (and_i (involved e x.0) (bit L.closed x.0) (true-T x.1) (true-T x.2)))

  taken_says : Says (already_taken e (taken L.history)) (IsTaken Z e)
  unfolding already_taken
  taken_says = says (already_taken e (taken L.history)) (IsTaken Z e)
      (λ t. let x = any_e 8 (λ p. involved e p && leb (count e p) (taken L.history p)) t in (
        x.0,
        T_true (involved e x.0) (and_l (involved e x.0) (leb (count e x.0) (taken L.history x.0))
            x.2),
        leb→le (count e x.0) (taken L.history x.0) (and_r (involved e x.0)
            (leb (count e x.0) (taken L.history x.0)) x.2),
      ))
      (λ x. any_i 8 (λ p. involved e p && leb (count e p) (taken L.history p)) x.0
      (among_eight x.0 x.1 (dec_lt x.0 8))
      (and_i (involved e x.0) (leb (count e x.0) (taken L.history x.0)) (true-T x.1)
      (true-T (le-leb (count e x.0) (taken L.history x.0) x.2))))

  pending_says : Says (repeated e L.pending) (IsPending Z e)
  pending_says =
      let x = repeated_exactly e L.pending (passed.1, passed.3)
      (λ g m. let eight = S.right.right.eight g (inr (inl m)) in (eight.counts, eight.labels)) in
      says (repeated e L.pending) (IsPending Z e) x.0 x.1

  conflict_says : Says (conflicting e L.pending) (IsContradicted Z e)
  unfolding conflicting conflicts
  conflict_says = says (conflicting e L.pending) (IsContradicted Z e) there back
    where
      common : Event → ℕ → Bool
      common g p = (involved e p && involved g p) && eqb (count e p) (count g p)

      there : T (conflicting e L.pending) → IsContradicted Z e
      there t =
          let x = any_of_e (conflicts e) L.pending t in
          let g : Event = x.0 in
          let y = any_e 8 (common g) x.2 in
          let p : ℕ = y.0 in
          let both : T (involved e p && involved g p) =
          and_l (involved e p && involved g p) (eqb (count e p) (count g p)) y.2 in (
            g,
            x.1,
            (
              p,
              T_true (involved e p) (and_l (involved e p) (involved g p) both),
              T_true (involved g p) (and_r (involved e p) (involved g p) both),
              eqb→eq (count e p) (count g p) (and_r (involved e p && involved g p) (eqb (count e p) (count g p))
                  y.2),
            ),
          )

      back : IsContradicted Z e → T (conflicting e L.pending)
      back (g, m, (p, a, b, c)) =
          any_of_i (conflicts e) L.pending g m
          (any_i 8 (common g) p (among_eight p a (dec_lt p 8))
          (and_i (involved e p && involved g p) (eqb (count e p) (count g p))
          (and_i (involved e p) (involved g p) (true-T a) (true-T b)) (true-T (eq-eqb (count e p) (count g p) c))))

  full_says : Says (leb 32 (length L.pending)) (32 ≤ length L.pending)
  full_says = says (leb 32 (length L.pending)) (32 ≤ length L.pending) (leb→le 32 (length L.pending))
      (λ l. true-T (le-leb 32 (length L.pending) l))

  -- ---- The tests in their order
  abbrev tests : Tests
  tests =
      test (bad_mask k mask) (turned_back 7 0)
      (test (bad_clock k mask clock) (turned_back 8 0)
      (test (bad_labels mask labels) (turned_back 9 0)
      (test (names_closed L.closed e) (turned_back 42 0)
      (test (already_taken e (taken L.history)) (turned_back 31 0)
      (test (repeated e L.pending) again
      (test (conflicting e L.pending) (turned_back 32 0)
      (test (leb 32 (length L.pending)) (turned_back 33 0)
      (else (held (length L.pending + 1))))))))))

  by_tests : next_offer w Z mask clock labels ≡ result tests
  unfolding result
  by_tests =
      offer_by_ledger w k (lines_at 0 f) start S.rule L Z.bytes Z.window S.right mask clock labels

  -- ---- What each test says, in turn

  -- an answer comes exactly if what was passed before, and its own test, say so
  turn_is : {F C : Type 0} (n : ℕ) → within tests n ≡ true → Failed tests n ↔ F → Says (test_of tests n) C
      → (next_offer w Z mask clock labels ≡ answer_of tests n) ↔ (F × C)
  unfolding distinct lacks mark
  turn_is n i x y =
      let d = first_decides tests refl n i in (
        (λ q. let h = d.0 (sym by_tests ∙ q) in (x.0 h.0, y.holds.0 h.1)),
        λ h. by_tests ∙ d.1 (x.1 h.0, y.holds.1 h.1),
      )

  past : {F C : Type 0} (n : ℕ) → Failed tests n ↔ F → Says (test_of tests n) C → Failed tests (suc n) ↔ (F × (C → ⊥))
  past n x y =
      let d = failed_next tests n in (
        (λ h. let g = d.0 h in (x.0 g.0, y.fails.0 g.1)),
        λ h. d.1 (x.1 h.0, y.fails.1 h.1),
      )

  past_mask : Failed tests 1 ↔ (BadMask k mask → ⊥)
  unfolding Failed
  past_mask =
      let m = mask_says k mask passed.0 in
      ((λ h. m.fails.0 h.0), λ h. (m.fails.1 h, tt))

  past_clock : Failed tests 2 ↔ ((BadMask k mask → ⊥) × (BadClock k mask clock → ⊥))
  unfolding test_of
  past_clock = past 1 past_mask (clock_says k mask clock)

  past_labels : Failed tests 3 ↔ Formed k mask clock labels
  unfolding test_of
  past_labels = past 2 past_clock (labels_say mask labels)

  past_closed : Failed tests 4 ↔ Admissible k Z mask clock labels
  unfolding test_of
  past_closed = past 3 past_labels closed_says

  past_taken : Failed tests 5 ↔ New k Z mask clock labels
  unfolding test_of
  past_taken = past 4 past_closed taken_says

  past_again : Failed tests 6 ↔ Unknown k Z mask clock labels
  unfolding test_of
  past_again = past 5 past_taken pending_says

  past_conflict : Failed tests 7 ↔ Uncontradicted k Z mask clock labels
  unfolding test_of
  past_conflict = past 6 past_again conflict_says

  -- ---- Theorem

  held-there : (n : ℕ) → next_offer w Z mask clock labels ≡ held n
      → Uncontradicted k Z mask clock labels × (length L.pending < 32) × (n ≡ length L.pending + 1)
  unfolding distinct lacks mark answer_of test_of within
  held-there n q =
      let h = marked tests refl 8 refl (held n) refl (sym by_tests ∙ q) in
      let same : held n ≡ held (length L.pending + 1) = h.1 in
      let few = (past 7 past_conflict full_says).0 h.0 in
      let number : n ≡ length L.pending + 1 = cc in
      (few.0, lt_of_not-le few.1, number)

  held_back : (n : ℕ)
      → Uncontradicted k Z mask clock labels × (length L.pending < 32) × (n ≡ length L.pending + 1)
      → next_offer w Z mask clock labels ≡ held n
  unfolding distinct lacks mark answer_of test_of within
  held_back n (u, few, number) =
      let none : 32 ≤ length L.pending → ⊥ = λ l. omega arith in
      by_tests
      ∙ (first_decides tests refl 8 refl).1 ((past 7 past_conflict full_says).1 (u, none), refl)
      ∙ ap held (sym number)

  pub offer_answers : OfferAnswers w k Z mask clock labels
  unfolding answer_of test_of within Failed distinct lacks mark
  offer_answers =
      let first = turn_is 0 refl ((λ _. tt {0}), λ _. tt) (mask_says k mask passed.0) in
      record {
        bad_mask = ((λ q. (first.0 q).1), λ h. first.1 (tt, h));
        bad_clock = turn_is 1 refl past_mask (clock_says k mask clock);
        bad_labels = turn_is 2 refl past_clock (labels_say mask labels);
        names_closed = turn_is 3 refl past_labels closed_says;
        is_taken = turn_is 4 refl past_closed taken_says;
        is_again = turn_is 5 refl past_taken pending_says;
        contradicted = turn_is 6 refl past_again conflict_says;
        full = turn_is 7 refl past_conflict full_says;
        is_held = λ n. (held-there n, held_back n);
        never_6 = λ q. never tests (turned_back 6 0) refl (sym by_tests ∙ q);
        never_34 = λ q. never tests (turned_back 34 0) refl (sym by_tests ∙ q);
      }

pub offer_exact_of : (w k : ℕ) (f : Formula) (start : Cut) (Z : Watch) → Sound w k f start Z → OfferExact w k f start Z
offer_exact_of w k f start Z S mask clock labels passed = offer_answers w k f start Z S mask clock labels passed

pub offer_exact : OfferIsExact
offer_exact = every-list _ offer_exact_of
