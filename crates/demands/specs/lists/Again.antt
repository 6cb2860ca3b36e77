-- What the next offer after a list of calls is answered with, where it repeats an event.
use Prim.Native.Nat.{ℕ, ◌+◌, ◌%◌, ◌≤◌, ◌<◌}
use native.Mathlib.Omega.{arith}
use Rattle.std.specs.Prelude.{◌≡◌, Bool, cond, ◌&&◌, ◌↔◌, eqb, T}
use Rattle.std.proofs.Math.Path.{refl}
use Rattle.std.proofs.Common.{sym, ap, ◌∙◌, inl, inr, pow_mono}
use Rattle.std.proofs.Math.Bool.{true, false}
use mathlib.Core.List.{List, Memᴰ}
use Rattle.std.proofs.Math.Dec.{leb}
use borrow.Author.Tests.{eq-eqb, le-leb, lt-leb}
use Rattle.codec.specs.Bit.{bit}
use Rattle.clocks.specs.declared.Event.{Event}
use Rattle.clocks.specs.Event.{Cut, count, involved}
use Rattle.clocks.specs.History.{In, taken}
use Rattle.clocks.specs.Refusal.{bad_mask, bad_clock, bad_labels, Faultless}
use Rattle.clocks.specs.Counts.{at}
use Rattle.clocks.specs.cuts.EventLaws.{T_true, true-T}
use Rattle.clocks.specs.cuts.CausalLaws.{count-within}
use Rattle.clocks.specs.stored.BoundedLaws.{any_i, any_of_i}
use Rattle.clocks.specs.stored.BoundedTurns.{any-false_i}
use Rattle.clocks.specs.stored.RefusalLaws.{mask_fine, fault_0, no_fault}
use Rattle.clocks.specs.stored.TestedLaws.{involved_below}
use Rattle.rules.specs.Line.{lines_at}
use Rattle.rules.specs.Formula.{Formula}
use Rattle.records.specs.Record.{pending_count, pending_events, inserted}
use Rattle.refusals.specs.Refusals.{bad_record_length, names_closed, already_taken, conflicts, conflicting}
use Rattle.repeats.specs.Repeats.{repeated}
use Rattle.repeats.specs.RepeatLaws.{repeated_exactly}
use Rattle.answers.specs.Answer.{turned_back, held, again}
use Rattle.call_offer.specs.Offer.{Offered, place_among, offered_event, offer_call}
use Rattle.call_offer.specs.OfferCases.{OfferCase, offer_case, turned, repeats, accepted}
use Rattle.demands.specs.Ledger.{Ledger}
use Rattle.demands.specs.Run.{Passed, offers, Watch}
use Rattle.demands.specs.EveryList.{NamesOpen}
use Rattle.demands.specs.calls.PendingOrder.{clear_apart}
use Rattle.demands.specs.calls.StoredFits.{causal_history}
use Rattle.demands.specs.calls.WatchingLaws.{bytes_long, says_processes, says_closed, says_pending, says_taken, never_34}
use Rattle.demands.specs.lists.SoundRun.{Sound, every-list}
use Rattle.demands.specs.lists.WithoutAgains.{offer_idle}
use Rattle.demands.specs.statements.Again.{Contradicts, AgainExact, AgainIsExact}

module _ (w k : ℕ) (f : Formula) (start : Cut) (Z : Watch) (S : Sound w k f start Z)
    (mask : ℕ) (clock labels : List ℕ) (passed : Passed w (offers mask clock labels)) where
  abbrev e : Event
  e = offered_event mask clock labels

  abbrev L : Ledger
  L = Z.ledger

  says : pending_events w Z.bytes ≡ L.pending
  says = says_pending w k (lines_at 0 f) start S.rule L Z.bytes Z.window S.right

  -- It is the same as a pending event exactly if it is pending.
  repeated-here : T (repeated e L.pending) ↔ Memᴰ e L.pending
  repeated-here = repeated_exactly e L.pending (passed.1, passed.3)
      (λ g m. let eight = S.right.right.eight g (inr (inl m)) in (eight.counts, eight.labels))

  -- ---- An event that nothing before 31 turns back
  module _ (small : mask < 256) (fine : Faultless k e) where
    back : ℕ → Offered
    back n = record { answer = turned_back n 0; bytes = Z.bytes }

    -- What offer comes to by the ledger.
    unfoldable judged : Offered
    judged =
        cond (names_closed L.closed e) (back 42)
        (cond (already_taken e (taken L.history)) (back 31)
        (cond (repeated e L.pending) (record { answer = again; bytes = Z.bytes })
        (cond (conflicting e L.pending) (back 32)
        (cond (leb 32 (pending_count Z.bytes)) (back 33)
        (record {
          answer = held (pending_count Z.bytes + 1);
          bytes = inserted w Z.bytes (place_among e L.pending) e;
        })))))

    offer_judged : offer_call w mask clock labels Z.bytes ≡ judged
    unfolding offer_call judged bad_record_length back
    offer_judged =
        let X = S.right in
        let R = S.rule in
        let table = lines_at 0 f in
        let long = eq-eqb _ _ (bytes_long w k table start R L Z.bytes Z.window X) in
        let state = never_34 w k table start R L Z.bytes Z.window X 1024 X.few in
        let whole : mask % 256 ≡ mask = omega arith in
        let none = (fault_0 k (mask % 256) clock labels).0
        ((no_fault k e R.eight_processes (omega arith) passed.1 passed.3).1 fine) in
        let h7 : bad_mask k mask ≡ false = rw whole at none.0 in
        let h8 : bad_clock k mask clock ≡ false = rw whole at none.1 in
        let h9 : bad_labels mask labels ≡ false = rw whole at none.2 in
        rw (
          long,
          state,
          says_processes w k table start R L Z.bytes Z.window X,
          h7,
          h8,
          h9,
          says_closed w k table start R L Z.bytes Z.window X,
          says_taken w k table start R L Z.bytes Z.window X,
          says,
        )

    -- ---- ... that names a closed process
    pub is_closed_lem : (p : ℕ) → involved e p ≡ true → bit L.closed p ≡ true
        → (offer_call w mask clock labels Z.bytes).answer ≡ turned_back 42 0
    unfolding judged back names_closed
    is_closed_lem p b h = rw offer_judged (rw known)
      where
        below : p < 8
        below = omega (arith, S.rule.eight_processes, involved_below k e fine.formed p b)

        known : names_closed L.closed e ≡ true
        known = T_true (names_closed L.closed e)
            (any_i 8 (λ q. involved e q && bit L.closed q) p below (rw (b, h) tt))

    -- ---- ... that names open processes alone
    unclosed : NamesOpen Z e → names_closed L.closed e ≡ false
    unfolding names_closed
    unclosed opens = any-false_i 8 (λ p. involved e p && bit L.closed p) (λ p l. at_process p (involved e p) refl)
      where
        at_process : (p : ℕ) (b : Bool) → involved e p ≡ b → (involved e p && bit L.closed p) ≡ false
        at_process p true h = rw (h, opens p h)
        at_process p false h = rw h

    -- ---- ... and whose counts are not taken yet
    module _ (opens : NamesOpen Z e) (new : (p : ℕ) → involved e p ≡ true → taken L.history p < count e p) where
      untaken : already_taken e (taken L.history) ≡ false
      unfolding already_taken
      untaken = any-false_i 8 (λ p. involved e p && leb (count e p) (taken L.history p))
          (λ p l. at_process p (involved e p) refl)
        where
          at_process : (p : ℕ) (b : Bool) → involved e p ≡ b
              → (involved e p && leb (count e p) (taken L.history p)) ≡ false
          at_process p true h = rw (h, lt-leb (count e p) (taken L.history p) (new p h))
          at_process p false h = rw h

      is_again : Memᴰ e L.pending → (offer_call w mask clock labels Z.bytes).answer ≡ again
      unfolding judged
      is_again m =
          let r : repeated e L.pending ≡ true = T_true (repeated e L.pending) (repeated-here.1 m) in
          rw offer_judged (rw (unclosed opens, untaken, r))

      is_other : (g : Event) → Memᴰ g L.pending → Contradicts e g
          → (offer_call w mask clock labels Z.bytes).answer ≡ turned_back 32 0
      unfolding judged back conflicting conflicts
      is_other g m q = rw offer_judged (rw (unclosed opens, untaken, alone (repeated e L.pending) refl, conflict))
        where
          alone : (b : Bool) → repeated e L.pending ≡ b → repeated e L.pending ≡ false
          alone false h = h
          alone true h = absurd
              (clear_apart L.pending S.right.clear e g (repeated-here.0 (true-T h)) m q.other q.process
              q.involves q.involves_other q.same_count)

          p : ℕ
          p = q.process

          below : p < 8
          below = omega (arith, S.rule.eight_processes, involved_below k e fine.formed p q.involves)

          conflict : conflicting e L.pending ≡ true
          conflict = T_true (conflicting e L.pending) (any_of_i (conflicts e) L.pending g m
              (any_i 8 (λ o. (involved e o && involved g o) && eqb (count e o) (count g o)) p below
              (rw (q.involves, q.involves_other, eq-eqb (count e p) (count g p) q.same_count) tt)))

    -- ---- ... which is taken
    is_taken : NamesOpen Z e → In e L.history → (offer_call w mask clock labels Z.bytes).answer ≡ turned_back 31 0
    unfolding judged back already_taken
    is_taken opens m = rw offer_judged (rw (unclosed opens, known))
      where
        p : ℕ
        p = fine.formed.occupied.0

        part : involved e p ≡ true
        part = T_true (involved e p) fine.formed.occupied.1

        below : p < 8
        below = omega (arith, S.rule.eight_processes, involved_below k e fine.formed p part)

        within : count e p ≤ taken L.history p
        within = count-within L.history
            (causal_history w k (lines_at 0 f) start S.rule L Z.bytes Z.window S.right) e m p

        known : already_taken e (taken L.history) ≡ true
        known = T_true (already_taken e (taken L.history))
            (any_i 8 (λ q. involved e q && leb (count e q) (taken L.history q)) p below
            (rw (part, le-leb (count e p) (taken L.history p) within) tt))

  -- ---- "Again" comes of a pending event alone
  then_pending : (offer_call w mask clock labels Z.bytes).answer ≡ again → (mask < 256) × Memᴰ e L.pending
  then_pending h = go (offer_case w mask clock labels Z.bytes)
    where
      go : OfferCase w mask clock labels Z.bytes → (mask < 256) × Memᴰ e L.pending
      go (turned n some small other q) =
          let x : turned_back n 0 ≡ again = sym (ap (λ (o : Offered). o.answer) q) ∙ h in
          let z : ◌≡◌ {A = ℕ} 0 1 = cc in absurd (omega arith)
      go (accepted h7 h8 h9 h42 h31 h32 h33 q) =
          let x : held (pending_count Z.bytes + 1) ≡ again = sym (ap (λ (o : Offered). o.answer) q) ∙ h in
          let z : ◌≡◌ {A = ℕ} 0 1 = cc in absurd (omega arith)
      go (repeats h7 r q) =
          let k_is = says_processes w k (lines_at 0 f) start S.rule L Z.bytes Z.window S.right in
          let l = ((mask_fine k mask passed.0).0 (rw k_is at h7)).1 in
          (omega (arith, l, pow_mono S.rule.eight_processes), repeated-here.0 (true-T (rw says at r)))

-- ---- Theorem
pub again_exact_of : (w k : ℕ) (f : Formula) (start : Cut) (Z : Watch) → Sound w k f start Z → AgainExact w k f start Z
again_exact_of w k f start Z S =
    let X = S.right in
    record {
      again_exactly = λ mask clock labels p. (
        then_pending w k f start Z S mask clock labels p,
        λ x. is_again w k f start Z S mask clock labels p x.0 (X.faultless _ (inr x.1))
            (X.names_open _ x.1) (X.right.untaken _ x.1) x.1,
      );
      again_idle = λ mask clock labels h. offer_idle w mask clock labels Z (rw h);
      taken_again = λ mask clock labels p m opens. is_taken w k f start Z S mask clock labels p.0 p.1
          (X.faultless _ (inl m)) opens m;
      other_event = λ mask clock labels p fine opens new g m q. is_other w k f start Z S mask clock labels p.0
          p.1 fine opens new g m q;
    }

pub again_exact : AgainIsExact
again_exact = every-list _ again_exact_of
