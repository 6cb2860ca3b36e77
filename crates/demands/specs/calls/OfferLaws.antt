-- What an accepted offer does to a watch written by calls only: it adds the event to the pending ones.
use Rattle.std.specs.Prelude.{ℕ, ◌%◌, ◌^◌, ◌<◌, zero, suc, ◌≤◌, ◌≡◌, ◌&&◌, length}
use Rattle.std.proofs.Common.{arith, ◌∙◌, inl, inr, ⊎_elim, pow_mono}
use Rattle.std.proofs.Math.Path.{sym, ap, subst}
use Rattle.std.proofs.Math.Bool.{true, false}
use mathlib.Core.List.{List, Memᴰ}
use Rattle.std.proofs.Math.Dec.{leb, T, eqb}
use borrow.Author.Tests.{leb-false, eq-eqb}
use Rattle.clocks.specs.declared.Event.{Event}
use Rattle.clocks.specs.Counts.{at}
use Rattle.clocks.specs.Refusal.{bad_mask, bad_clock, bad_labels, Faultless}
use Rattle.pactl.specs.declared.Line.{Line}
use Rattle.clocks.specs.Event.{Cut, involved, count}
use Rattle.clocks.specs.History.{taken}
use Rattle.clocks.specs.Key.{key_of, lowest}
use Rattle.clocks.specs.stored.BoundedTurns.{any-false_e}
use Rattle.clocks.specs.stored.RefusalLaws.{mask_fine, fault_0, no_fault}
use Rattle.clocks.specs.declared.Key.{Key}
use Rattle.codec.specs.Bit.{bit}
use Rattle.codec.specs.BitLaws.{bit-zero}
use Rattle.clocks.specs.Bounded.{any_below}
use Rattle.clocks.specs.stored.KeyLaws.{lowest-lt, lowest-involved}
use Rattle.clocks.specs.stored.BoundedLaws.{any_i, any_of_i}
use Rattle.clocks.specs.stored.TestedLaws.{involved_below}
use Rattle.clocks.specs.Valid.{WellFormed}
use Rattle.records.specs.Record.{process_count, pending_count, closed_mask, taken_counts, pending_events, inserted}
use Rattle.refusals.specs.Refusals.{names_closed, already_taken, conflicting, conflicts}
use Rattle.call_offer.specs.Offer.{place_among, offered_event}
use Rattle.demands.specs.Watching.{Rule, Watching, Eight}
use Rattle.demands.specs.Ledger.{Ledger, NoClash}
use Rattle.demands.specs.Run.{Passed, offers}
use Rattle.demands.specs.Status.{insert_at}
use Rattle.demands.specs.calls.PendingOrder.{place-within, insert_ordered, clear_insert}
use Rattle.demands.specs.calls.WatchingLaws.{says_processes, says_many, says_closed, says_pending, says_taken}
use Rattle.demands.specs.bytes.InsertLaws.{length-insert_at, member_insert_at}
use Rattle.demands.specs.bytes.PendingLaws.{inserted-record_bytes}
use Rattle.demands.specs.calls.StoredFits.{sized}
use Rattle.demands.specs.World.{status_of, Open}
use Rattle.demands.specs.bytes.Sized.{Storable}

-- ---- the lowest process of a well formed event
lowest_below : (k : ℕ) (e : Event) → WellFormed k e → e.mask < 256 → lowest e < 8
unfolding involved
lowest_below k e f l = lowest-lt e (positive e.mask f.occupied.0 f.occupied.1) l
  where
    positive : (m p : ℕ) → T (bit m p) → 0 < m
    positive zero p t = absurd (rw (bit-zero p) at t)
    positive (suc m) p t = omega arith

-- ---- An event that was accepted
module _ (w k : ℕ) (table : List Line) (start : Cut) (R : Rule w k table start) (L : Ledger) (bytes window : List ℕ)
    (X : Watching w k table start L bytes window) (mask : ℕ) (clock labels : List ℕ)
    (passed : Passed w (offers mask clock labels)) where
  abbrev e : Event
  e = offered_event mask clock labels

  offered_storable : Storable w e
  offered_storable = record {
    mask_fits = omega arith;
    eight_counts = passed.1;
    counts_fit = passed.2;
    eight_labels = passed.3;
    labels_fit = passed.4;
  }

  pub offered_faultless : bad_mask k mask ≡ false → bad_clock k mask clock ≡ false → bad_labels mask labels ≡ false
      → Faultless k e
  offered_faultless h7 h8 h9 =
      let m : mask < 2 ^ k = ((mask_fine k mask passed.0).0 h7).1 in
      let q : mask % 256 ≡ mask = omega (arith, m, pow_mono R.eight_processes) in
      (no_fault k e R.eight_processes (omega arith) passed.1 passed.3).0
      (rw q ((fault_0 k mask clock labels).1 (h7, h8, h9)))

  offered_untaken : already_taken e (taken L.history) ≡ false → (p : ℕ) → p < 8 → involved e p ≡ true
      → taken L.history p < count e p
  unfolding already_taken
  offered_untaken h p l b =
      let q : involved e p && leb (count e p) (taken L.history p) ≡ false =
      any-false_e 8 (λ x. involved e x && leb (count e x) (taken L.history x)) h p l in
      leb-false (count e p) (taken L.history p) (rw b at q)

  offered_open : names_closed L.closed e ≡ false → (p : ℕ) → p < 8 → involved e p ≡ true → Open L.closed p
  unfolding names_closed
  offered_open h p l b =
      let q : involved e p && bit L.closed p ≡ false =
      any-false_e 8 (λ x. involved e x && bit L.closed x) h p l in
      rw b at q

  -- an event with a pending one's key has its count at a common process
  offered_key : Faultless k e → conflicting e L.pending ≡ false → (f : Event) → Memᴰ f L.pending
      → key_of f ≡ key_of e → ⊥
  unfolding key_of conflicting conflicts count
  offered_key g h f m q =
      let x : lowest e < 8 = lowest_below k e g.formed offered_storable.mask_fits in
      let y : lowest f < 8 = lowest_below k f (X.faultless f (inr m)).formed (X.storable f (inr m)).mask_fits in
      let p : lowest f ≡ lowest e = ap (λ (c : Key). c.process) q in
      let c : at f.clock (lowest f) ≡ at e.clock (lowest e) = ap (λ (c : Key). c.count) q in
      let be : involved e (lowest e) ≡ true = lowest-involved e x in
      let bf : involved f (lowest e) ≡ true = rw p at (lowest-involved f y) in
      let same : at e.clock (lowest e) ≡ at f.clock (lowest e) = sym c ∙ ap (at f.clock) p in
      let meets : T (any_below 8 (λ o. (involved e o && involved f o) && eqb (at e.clock o) (at f.clock o))) =
      any_i 8 (λ o. (involved e o && involved f o) && eqb (at e.clock o) (at f.clock o)) (lowest e) x
      (rw (be, bf, eq-eqb (at e.clock (lowest e)) (at f.clock (lowest e)) same) tt) in
      subst T h (any_of_i (conflicts e) L.pending f m meets)

  -- ... and no pending event has one of its counts
  offered_clear : conflicting e L.pending ≡ false → (f : Event) → Memᴰ f L.pending → Faultless k e
      → NoClash e f
  unfolding conflicting conflicts
  offered_clear h f m g p a b q =
      let meets : T (conflicts e f) = any_i 8 (λ o. (involved e o && involved f o) && eqb (count e o) (count f o)) p
      (omega (arith, R.eight_processes, involved_below k e g.formed p a))
      (rw (a, b, eq-eqb (count e p) (count f p) q) tt) in
      subst T h (any_of_i (conflicts e) L.pending f m meets)

  -- ---- the watch with it
  module _ (h7 : bad_mask (process_count bytes) mask ≡ false) (h8 : bad_clock (process_count bytes) mask clock ≡ false)
      (h9 : bad_labels mask labels ≡ false) (h42 : names_closed (closed_mask bytes) e ≡ false)
      (h31 : already_taken e (at (taken_counts w bytes)) ≡ false) (h32 : conflicting e (pending_events w bytes) ≡ false)
      (h33 : leb 32 (pending_count bytes) ≡ false) where
    g : Faultless k e
    g = let p = says_processes w k table start R L bytes window X in offered_faultless (rw p at h7) (rw p at h8) h9

    abbrev i : ℕ
    i = place_among e L.pending

    abbrev with_event : Ledger
    with_event = record {
      history = L.history;
      pending = insert_at i e L.pending;
      falsified = L.falsified;
      closed = L.closed;
    }

    free : length L.pending < 32
    free = leb-false 32 (length L.pending) (rw (says_many w k table start R L bytes window X) at h33)

    inside : i ≤ length L.pending
    inside = place-within e L.pending

    eight_e : Eight e
    eight_e = record { counts = passed.1; labels = passed.3 }

    untaken_e : (p : ℕ) → involved e p ≡ true → taken L.history p < count e p
    untaken_e p b =
        offered_untaken (rw (says_taken w k table start R L bytes window X) at h31) p
        (omega (arith, R.eight_processes, involved_below k e g.formed p b)) b

    open_e : (p : ℕ) → involved e p ≡ true → Open L.closed p
    open_e p b =
        offered_open (rw (says_closed w k table start R L bytes window X) at h42) p
        (omega (arith, R.eight_processes, involved_below k e g.formed p b)) b

    -- of each pending event, the new one or an old one
    pub accepted_watching : Watching w k table start with_event
        (inserted w bytes (place_among e (pending_events w bytes)) e) window
    accepted_watching = record {
      kept = X.kept;
      bytes_are =
          rw (says_pending w k table start R L bytes window X) (ap (λ (s : List ℕ). inserted w s i e) X.bytes_are
          ∙ inserted-record_bytes w (status_of k table (length X.kept) L)
          (sized w k table start R L bytes window X) i e inside free offered_storable);
      window_is = X.window_is;
      room = X.room;
      few = X.few;
      represents = X.represents;
      right = record {
        by_rule = X.right.by_rule;
        formed = λ f m. ⊎_elim (λ q. rw q g.formed) (X.right.formed f) ((member_insert_at i e L.pending f).0 m);
        untaken = λ f m. ⊎_elim (λ q. rw q untaken_e) (X.right.untaken f) ((member_insert_at i e L.pending f).0 m);
        was_ready = X.right.was_ready;
        eight = λ f.
            ⊎_elim (λ m. X.right.eight f (inl m))
            (⊎_elim (λ m. ⊎_elim (λ q. rw q eight_e) (λ n. X.right.eight f (inr (inl n)))
            ((member_insert_at i e L.pending f).0 m))
            (λ m. X.right.eight f (inr (inr m))));
      };
      ordered =
          insert_ordered e L.pending X.ordered
          (offered_key g (rw (says_pending w k table start R L bytes window X) at h32));
      clear =
          clear_insert i e L.pending X.clear
          (λ f m. offered_clear (rw (says_pending w k table start R L bytes window X) at h32) f m g);
      faultless = λ f.
          ⊎_elim (λ m. X.faultless f (inl m))
          (λ m. ⊎_elim (λ q. rw q g) (λ n. X.faultless f (inr n)) ((member_insert_at i e L.pending f).0 m));
      storable = λ f.
          ⊎_elim (λ m. X.storable f (inl m))
          (λ m. ⊎_elim (λ q. rw q offered_storable) (λ n. X.storable f (inr n))
          ((member_insert_at i e L.pending f).0 m));
      many = omega (arith, free, length-insert_at i e L.pending);
      closed_below = X.closed_below;
      names_open = λ f m. ⊎_elim (λ q. rw q open_e) (X.names_open f) ((member_insert_at i e L.pending f).0 m);
    }
