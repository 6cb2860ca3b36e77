-- Events of single processes without messages, offered and taken one after the other: each is held, and each take takes
-- it, where the window has room for the frontiers that they keep.
use Rattle.std.specs.Prelude.{ℕ, ◌+◌, ◌*◌, ◌%◌, ◌≤◌, ◌<◌, ◌≡◌, Bool, ◌&&◌, replicate}
use native.Mathlib.Omega.{arith}
use Rattle.std.proofs.Math.Path.{refl, ap}
use Rattle.std.proofs.Common.{sym, ◌∙◌, ⊎_elim}
use Rattle.std.proofs.Math.Bool.{true, false}
use mathlib.Core.List.Memᴰ
use mathlib.Core.List.{List, [], ◌∷◌, ◌++◌, reverse_aux, Memᴰ}
use Rattle.std.proofs.Math.Dec.{leb}
use Rattle.std.proofs.Math.ListN.{length, length-append, length-reverse_aux}
use Rattle.std.proofs.lemmas.List.{length-replicate}
use borrow.Author.Tests.{lt-leb, le-ltb}
use Rattle.codec.specs.Bit.{bit}
use Rattle.codec.specs.BitLaws.{bit-zero}
use Rattle.clocks.specs.declared.Event.{Event}
use Rattle.clocks.specs.Event.{Cut, involved, count}
use Rattle.clocks.specs.History.{taken}
use Rattle.clocks.specs.Valid.{Takeable, History}
use Rattle.clocks.specs.Counts.{list_of}
use Rattle.clocks.specs.Bounded.{any_of}
use Rattle.clocks.specs.Refusal.{Faultless}
use Rattle.clocks.specs.cuts.EventLaws.{ready_next}
use Rattle.clocks.specs.stored.BoundedTurns.{any-false_i}
use Rattle.clocks.specs.stored.RefusalLaws.{fault_0, no_fault}
use Rattle.pactl.specs.Truth.{holds}
use Rattle.rules.specs.Line.{lines_at}
use Rattle.rules.specs.Formula.{Formula, meaning}
use Rattle.frontiers.specs.Bytes.{frontier_length}
use Rattle.refusals.specs.Refusals.{names_closed, already_taken, conflicting}
use Rattle.repeats.specs.Repeats.{repeated}
use Rattle.answers.specs.Answer.{Answer, held}
use Rattle.call_offer.specs.Offer.{place_among, offered_event, offer_call}
use Rattle.call_busiest.specs.Sharing.{shares, sharing_keeps}
use Rattle.sharing_laws.specs.Alone.{AllAlone}
use Rattle.demands.specs.Ledger.{Ledger}
use Rattle.demands.specs.Status.{insert_at}
use Rattle.demands.specs.Run.{Call, offers, takes, Passed, Watch, offered_ledger, after, run}
use Rattle.demands.specs.World.{Valid, model_after}
use Rattle.demands.specs.EveryList.{AllPassed, lent_window, RightLengths}
use Rattle.demands.specs.bytes.Sized.{Storable}
use Rattle.demands.specs.calls.OfferByLedger.{offer_answer, offer_by_ledger}
use Rattle.demands.specs.calls.WatchingLaws.{says_pending}
use Rattle.demands.specs.calls.WindowRooms.{room_of_lem, bad_length, length_taken}
use Rattle.demands.specs.lists.SoundRun.{Sound, after_sound}
use Rattle.demands.specs.lists.TakeAnswers.{take_exact_of}
use Rattle.demands.specs.lists.Busiest.{alone_number, alone_most}
use Rattle.demands.specs.statements.TakeAnswers.{Takes, AnswersExact, allowed_next}
use Rattle.demands.specs.statements.BusiestTaken.{day_calls, day_answers}

-- The ledger where these events were taken, and no other came; and with one more that is pending.
abbrev pub took_all : List Event → Ledger
took_all ts = record { history = ts; pending = []; falsified = []; closed = 0 }

abbrev held_one : List Event → Event → Ledger
held_one ts e = record { history = ts; pending = e ∷ []; falsified = []; closed = 0 }

-- A watch that took these events and got no other, over the answers of before; with so many zeros its window is one of
-- so many frontiers.
pub record Took (w k : ℕ) (f : Formula) (start : Cut) (room : ℕ) (rest : List Answer) (ts : List Event) (more : ℕ)
    (Z : Watch) : Type 0 where
  pub sound : Sound w k f start Z
  pub ledger_is : Z.ledger ≡ took_all ts
  pub answers_are : Z.answers ≡ day_answers k f start ts ++ rest
  pub lent : length Z.window + more ≡ room * frontier_length w

-- An event that an offer may bring: without fault, and such as the machine passes.
pub record Sendable (w k : ℕ) (e : Event) : Type 0 where
  pub fine : Faultless k e
  pub fits : Storable w e

-- ---- An event that may be taken next is held, where none is pending

module _ (w k : ℕ) (eight : k ≤ 8) (ts : List Event) (e : Event) (o : Sendable w k e)
    (next : Takeable k Valid ts e) where
  no_closed : names_closed 0 e ≡ false
  unfolding names_closed
  no_closed = any-false_i 8 (λ p. involved e p && bit 0 p) (λ p l. rw (bit-zero p) (neither (involved e p)))
    where
      neither : (b : Bool) → (b && false) ≡ false
      neither true = refl
      neither false = refl

  not_taken : already_taken e (taken ts) ≡ false
  unfolding already_taken
  not_taken = any-false_i 8 (λ p. involved e p && leb (count e p) (taken ts p))
      (λ p l. at_process p (involved e p) refl)
    where
      at_process : (p : ℕ) (b : Bool) → involved e p ≡ b → (involved e p && leb (count e p) (taken ts p)) ≡ false
      at_process p true h =
          rw (h, lt-leb (count e p) (taken ts p) (omega (arith, ready_next e (taken ts) next.ready p h)))
      at_process p false h = rw h

  whole : offered_event e.mask e.clock e.labels ≡ e
  whole = let q : e.mask % 256 ≡ e.mask = omega (arith, o.fits.mask_fits) in rw q

  held_one_lem : offer_answer k (took_all ts) e.mask e.clock e.labels ≡ held 1
  unfolding repeated conflicting any_of
  held_one_lem =
      let fits = o.fits in
      let none = (fault_0 k e.mask e.clock e.labels).0
      ((no_fault k e eight (omega (arith, fits.mask_fits)) fits.eight_counts fits.eight_labels).1 o.fine) in
      rw (none.0, none.1, none.2, whole, no_closed, not_taken)

-- ---- One event, offered and taken

offer_passes : (w k : ℕ) (e : Event) → Sendable w k e → Passed w (offers e.mask e.clock e.labels)
offer_passes w k e o =
    let fits = o.fits in
    (omega (arith, fits.mask_fits), fits.eight_counts, fits.counts_fit, fits.eight_labels, fits.labels_fit)

module _ (w k : ℕ) (f : Formula) (start : Cut) (room : ℕ) (some : 1 ≤ room) (few : room ≤ 1024) (rest : List Answer)
    (scratch : List ℕ) (even : length scratch ≡ room * frontier_length w) (ts : List Event) (e : Event)
    (o : Sendable w k e) (past : History k Valid (e ∷ ts)) (alone : AllAlone (e ∷ ts))
    (enough : sharing_keeps (list_of k (taken (e ∷ ts))) ≤ room) (more : ℕ) (Z : Watch)
    (T : Took w k f start room rest ts more Z) where
  S : Sound w k f start Z
  S = T.sound

  -- The watch after the offer.
  abbrev offering : Call
  offering = offers e.mask e.clock e.labels

  abbrev Y : Watch
  Y = after w offering Z

  sound_then : Sound w k f start Y
  sound_then = after_sound w k f start Z offering (offer_passes w k e o) S

  is_held : (offer_call w e.mask e.clock e.labels Z.bytes).answer ≡ held 1
  is_held =
      offer_by_ledger w k (lines_at 0 f) start S.rule Z.ledger Z.bytes Z.window S.right e.mask
      e.clock e.labels
      ∙ rw T.ledger_is (held_one_lem w k S.rule.eight_processes ts e o past.0)

  offered : Y.ledger ≡ held_one ts e
  unfolding after offered_ledger insert_at place_among
  offered =
      let says = says_pending w k (lines_at 0 f) start S.rule Z.ledger Z.bytes Z.window S.right in
      rw (is_held, says, T.ledger_is, whole w k S.rule.eight_processes ts e o past.0)

  -- The take after it.
  lent_long : length (lent_window Y more) ≡ room * frontier_length w
  unfolding after
  lent_long =
      length-append Z.window (replicate more 0)
      ∙ ap (λ (n : ℕ). length Z.window + n) (length-replicate more 0) ∙ T.lent

  right : RightLengths w Y more scratch
  right = (
    rw lent_long (bad_length w room ∙ rw (le-ltb room 1 some, le-ltb 1024 room few)),
    even ∙ sym lent_long,
  )

  allowed : allowed_next w Y 1024 more ≡ room
  allowed = rw lent_long (rw (room_of_lem w room) (omega arith))

  exact : AnswersExact w k f start Y 1024 more scratch
  exact = (take_exact_of w k f start Y sound_then).right_lengths 1024 more scratch right

  abbrev takes_it : Takes k (allowed_next w Y 1024 more) f start Y.ledger (list_of 8 (taken (e ∷ ts)))
      (holds (model_after k f start (e ∷ ts)) (meaning f) (taken (e ∷ ts))) (sharing_keeps (list_of k (taken (e ∷ ts))))
  takes_it = record {
    event = e;
    stops = record {
      earlier = [];
      later = [];
      pending_are = ap (λ (L : Ledger). L.pending) offered;
      ready = rw offered past.0.ready;
      passed = λ x m. absurd (Memᴰ.not-nil m);
    };
    true_clock = rw offered past.0.true_clock;
    kept_are = rw offered (alone_number k S.rule.some_process S.rule.eight_processes (e ∷ ts) past alone);
    fits = rw allowed enough;
    counts_are = rw offered;
    truth_is = rw offered;
  }

  one_took : Took w k f start room rest (e ∷ ts) 0 (after w (takes 1024 more scratch) Y)
  unfolding after
  one_took = record {
    sound = after_sound w k f start Y (takes 1024 more scratch) tt sound_then;
    ledger_is = exact.ledger_state _ _ _ takes_it ∙ rw offered;
    answers_are = rw ((exact.state_exactly _ _ _).1 takes_it, is_held, T.answers_are);
    lent = omega (arith, length_taken w 1024 Y.bytes (lent_window Y more) scratch, lent_long);
  }

-- ---- Events of a history, in their order, one after the other

-- What came before them all.
earlier : (k : ℕ) (es ts : List Event) → History k Valid (reverse_aux es ts) → History k Valid ts
earlier k [] ts h = h
earlier k (e ∷ es) ts h = (earlier k es (e ∷ ts) h).1

among : (es ts : List Event) (x : Event) → Memᴰ x ts → Memᴰ x (reverse_aux es ts)
among [] ts x m = m
among (e ∷ es) ts x m = among es (e ∷ ts) x (Memᴰ.tail m)

module _ (w k : ℕ) (f : Formula) (start : Cut) (some_process : 0 < k) (eight_processes : k ≤ 8) (room : ℕ)
    (some : 1 ≤ room) (few : room ≤ 1024) (n : ℕ) (enough : sharing_keeps (shares k n) ≤ room) (scratch : List ℕ)
    (even : length scratch ≡ room * frontier_length w) (rest : List Answer) where
  pub all_took : (es ts : List Event) → History k Valid (reverse_aux es ts) → AllAlone (reverse_aux es ts)
      → length (reverse_aux es ts) ≤ n → ((x : Event) → Memᴰ x es → Sendable w k x)
      → (more : ℕ) (Z : Watch) → Took w k f start room rest ts more Z
      → (left : ℕ) × Took w k f start room rest (reverse_aux es ts) left (run w (day_calls more scratch es) Z)
  unfolding run
  all_took [] ts h alone l fine more Z T = (more, T)
  all_took (e ∷ es) ts h alone l fine more Z T =
      let past : History k Valid (e ∷ ts) = earlier k es (e ∷ ts) h in
      let only : AllAlone (e ∷ ts) = λ x m. alone x (among es (e ∷ ts) x m) in
      let most : sharing_keeps (list_of k (taken (e ∷ ts))) ≤ room =
      omega (
        arith,
        enough,
        alone_most k some_process eight_processes (e ∷ ts) past only n
            (omega (arith, l, length-reverse_aux es (e ∷ ts))),
      ) in
      all_took es (e ∷ ts) h alone l (λ x m. fine x (Memᴰ.tail m)) 0 _
      (one_took w k f start room some few rest scratch even ts e (fine e (Memᴰ.head refl)) past only most more Z T)

-- All of these calls are such as the machine passes.
pub all_passed : (w k : ℕ) (scratch : List ℕ) (es : List Event) → ((x : Event) → Memᴰ x es → Sendable w k x)
    → (more : ℕ) → AllPassed w (day_calls more scratch es)
all_passed w k scratch [] fine more c m = absurd (Memᴰ.not-nil m)
all_passed w k scratch (e ∷ es) fine more c m =
    ⊎_elim (λ q. rw q (offer_passes w k e (fine e (Memᴰ.head refl))))
    (λ i.
    ⊎_elim (λ q. rw q tt) (all_passed w k scratch es (λ x j. fine x (Memᴰ.tail j)) 0 c)
    (Memᴰ.cases_cons i))
    (Memᴰ.cases_cons m)
