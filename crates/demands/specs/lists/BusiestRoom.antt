-- No call of a busiest day's offers, takes and finds answers 36: the taken events are of the day, so that there is room
-- for each that is ready.
use Rattle.std.specs.Prelude.{ℕ, zero, suc, ◌+◌, ◌*◌, ◌≤◌, ◌<◌, ◌≡◌, refl, false, ◌||◌, leb, eqb, length, replicate}
use Rattle.std.proofs.Common.{arith, sym, ◌∙◌, inl, inr, ⊎_elim, length-append}
use mathlib.Core.List.Memᴰ
use mathlib.Core.List.{List, [], ◌∷◌, reverse, Memᴰ}
use Rattle.std.proofs.lemmas.List.{length-replicate, length-reverse}
use Rattle.std.proofs.lemmas.Bool.{eqb-false}
use Rattle.codec.specs.Bit.{bit}
use Rattle.clocks.specs.declared.Event.{Event}
use Rattle.clocks.specs.Event.{Cut, Ready}
use Rattle.clocks.specs.History.{taken, In}
use Rattle.clocks.specs.Valid.{History}
use Rattle.clocks.specs.Counts.{at, list_of}
use Rattle.clocks.specs.Refusal.{bad_mask, bad_clock, bad_labels}
use Rattle.clocks.specs.validity.ClockRule.{history_causal}
use Rattle.rules.specs.Formula.{Formula}
use Rattle.frontiers.specs.declared.Frontier.{Frontier}
use Rattle.frontiers.specs.Bytes.{frontier_length, frontiers}
use Rattle.records.specs.Record.{line_total, kept_count, process_count, pending_count, closed_mask, taken_counts, pending_events}
use Rattle.refusals.specs.Refusals.{room_of, bad_record_length, bad_window_length, bad_state, names_closed, already_taken, conflicting}
use Rattle.repeats.specs.Repeats.{repeated}
use Rattle.answers.specs.Answer.{Answer, turned_back, state, nothing_ready, held, again, found, absent, process_closed}
use Rattle.answers.specs.Turns.{by_test}
use Rattle.call_open.specs.Open.{open_call}
use Rattle.call_offer.specs.Offer.{Offered, offered_event, offer_call}
use Rattle.call_offer.specs.OfferCases.{OfferCase, offer_case, turned, repeats, accepted}
use Rattle.call_find.specs.Find.{find_from, find_call}
use Rattle.call_busiest.specs.Sharing.{total}
use Rattle.sharing_laws.specs.Alone.{AllAlone}
use Rattle.sharing_laws.specs.AloneLaws.{alone_total}
use Rattle.demands.specs.Ledger.{Ledger, occurrences}
use Rattle.demands.specs.Run.{Call, offers, takes, finds, Passed, Watch, taken_ledger, offered_ledger, accepted_by, after, run, opened}
use Rattle.demands.specs.World.{Valid}
use Rattle.demands.specs.Watching.{Eight}
use Rattle.demands.specs.EveryList.{AllPassed, lent_window, RightLengths, next_take}
use Rattle.demands.specs.calls.AfterCall.{room_iff}
use Rattle.demands.specs.calls.ValidRule.{valid_rule}
use Rattle.demands.specs.calls.WindowRooms.{length_taken}
use Rattle.demands.specs.lists.SoundRun.{Sound, after_sound, sound_run}
use Rattle.demands.specs.lists.Delivery.{occurs_i, occurs_e, taken-within}
use Rattle.demands.specs.lists.TakeAnswers.{take_exact_of}
use Rattle.demands.specs.lists.DayListed.{in_reverse, day_is_listed}
use Rattle.demands.specs.lists.Busiest.{busiest_kept_of}
use Rattle.demands.specs.lists.BusiestTaken.{listed_many, listed_storable, open_long}
use Rattle.demands.specs.statements.TakeAnswers.{TakeExact, allowed_next}
use Rattle.demands.specs.statements.Busiest.{Gives, listed, DayListed, Plain}
use Rattle.demands.specs.statements.BusiestTaken.{DayList, ends, offers-one, takes-some, finds-line, DayMeetsNo36}

-- ---- Only takes answer 36

abbrev Other : Answer → Type 0
Other a = a ≡ turned_back 36 0 → ⊥

other_number : (n : ℕ) → eqb n 36 ≡ false → Other (turned_back n 0)
other_number n h q = let z : n ≡ 36 = cc in eqb-false n 36 h z

offer_other : (w mask : ℕ) (clock labels s : List ℕ) → Other (offer_call w mask clock labels s).answer
unfolding offer_call
offer_other w mask clock labels s =
    let by = by_test (λ (o : Offered). Other o.answer) in
    let back : ℕ → Offered = λ n. record { answer = turned_back n 0; bytes = s } in
    let e = offered_event mask clock labels in
    by (bad_record_length w (length s)) (back 6) _ (λ _. other_number 6 refl) λ _.
    by (bad_state w 1024 s) (back 34) _ (λ _. other_number 34 refl) λ _.
    by (bad_mask (process_count s) mask) (back 7) _ (λ _. other_number 7 refl) λ _.
    by (bad_clock (process_count s) mask clock) (back 8) _ (λ _. other_number 8 refl) λ _.
    by (bad_labels mask labels) (back 9) _ (λ _. other_number 9 refl) λ _.
    by (names_closed (closed_mask s) e) (back 42) _ (λ _. other_number 42 refl) λ _.
    by (already_taken e (at (taken_counts w s))) (back 31) _ (λ _. other_number 31 refl) λ _.
    by (repeated e (pending_events w s)) (record { answer = again; bytes = s }) _
    (λ _ q. let z : ◌≡◌ {A = ℕ} 0 1 = cc in omega arith) λ _.
    by (conflicting e (pending_events w s)) (back 32) _ (λ _. other_number 32 refl) λ _.
    by (leb 32 (pending_count s)) (back 33) _ (λ _. other_number 33 refl) λ _.
    λ q. let z : ◌≡◌ {A = ℕ} 0 1 = cc in omega arith

found_other : (line i : ℕ) (fs : List Frontier) → Other (find_from line i fs)
unfolding find_from
found_other line i [] = λ q. let z : ◌≡◌ {A = ℕ} 0 1 = cc in omega arith
found_other line i (f ∷ fs) =
    by_test Other (bit f.values line) (found i) (find_from line (i + 1) fs)
    (λ _ q. let z : ◌≡◌ {A = ℕ} 0 1 = cc in omega arith) (λ _. found_other line (i + 1) fs)

find_other : (w line : ℕ) (s window : List ℕ) → Other (find_call w line s window)
unfolding find_call
find_other w line s window =
    let by = by_test Other in
    by (bad_record_length w (length s) || bad_window_length w (length window)) (turned_back 6 0) _
    (λ _. other_number 6 refl) λ _.
    by (bad_state w (room_of w (length window)) s) (turned_back 34 0) _ (λ _. other_number 34 refl) λ _.
    by (leb (line_total s) line) (turned_back 11 0) _ (λ _. other_number 11 refl) λ _.
    found_other line 0 (frontiers w window (kept_count s))

-- ---- No take closes a process

take-closes : (w : ℕ) (s : List ℕ) (i : ℕ) (L : Ledger) (a : Answer) → (taken_ledger w s i L a).closed ≡ L.closed
unfolding taken_ledger
take-closes w s i L (state c t k) = refl
take-closes w s i L (turned_back n j) =
    by_test (λ (M : Ledger). M.closed ≡ L.closed) (eqb n 35) _ L (λ _. refl) (λ _. refl)
take-closes w s i L nothing_ready = refl
take-closes w s i L (held n) = refl
take-closes w s i L again = refl
take-closes w s i L (found j) = refl
take-closes w s i L absent = refl
take-closes w s i L (process_closed n) = refl

-- ---- A history of events of the day is no longer than it

total-le : (k : ℕ) (f g : ℕ → ℕ) → ((p : ℕ) → f p ≤ g p) → total (list_of k f) ≤ total (list_of k g)
unfolding total list_of
total-le zero f g h = omega arith
total-le (suc k) f g h = omega (arith, h 0, total-le k (λ p. f (suc p)) (λ p. g (suc p)) (λ p. h (suc p)))

history_within : (k : ℕ) (ts us : List Event) → History k Valid ts → History k Valid us → AllAlone us
    → ((e : Event) → In e ts → In e us) → length ts ≤ length us
history_within k ts us h g alone inside =
    omega (
      arith,
      alone_total k Valid ts h (λ e i. alone e (inside e i)),
      alone_total k Valid us g alone,
      total-le k (taken ts) (taken us)
          (taken-within ts us (history_causal k Valid (valid_rule k) ts h) (history_causal k Valid (valid_rule k) us g)
          inside),
    )

-- ---- Call by call

module _ (w k : ℕ) (f : Formula) (start : Cut) (v : ℕ) (wide : 2 ≤ v) (n : ℕ) (events : List ℕ) (m : ℕ)
    (given : Gives v k n events m) where
  abbrev es : List Event
  es = listed v k n events

  record OnDay (long : ℕ) (Z : Watch) : Type 0 where
    sound : Sound w k f start Z
    none : Z.ledger.closed ≡ 0
    came : (e : Event) → Memᴰ e Z.accepted → Memᴰ e es
    lent : length Z.window ≡ long
    no_36 : Memᴰ (turned_back 36 0) Z.answers → ⊥

  -- One answer more that is not 36.
  still : (a : Answer) (prior : List Answer) → Other a → (Memᴰ (turned_back 36 0) prior → ⊥)
      → Memᴰ (turned_back 36 0) (a ∷ prior) → ⊥
  still a prior o none i = ⊎_elim (λ q. o (sym q)) none (Memᴰ.cases_cons i)

  module _ (long : ℕ) (Z : Watch) (D : OnDay long Z) where
    S : Sound w k f start Z
    S = D.sound

    eight-listed : (e : Event) → Memᴰ e es → Eight e
    eight-listed e i =
        let x = listed_storable v wide k n events m given v wide e i in
        record { counts = x.eight_counts; labels = x.eight_labels }

    -- Its taken and its pending events are of the day.
    counted : (e : Event) → 0 < occurrences e Z.ledger.history + occurrences e Z.ledger.pending → Eight e
        → Memᴰ e es
    counted e l x =
        D.came e (occurs_e e Z.accepted x (λ g i. eight-listed g (D.came g i))
        (omega (arith, l, S.balanced.each e)))

    of_history : (e : Event) → In e Z.ledger.history → Memᴰ e es
    of_history e i =
        counted e (omega (arith, occurs_i e Z.ledger.history i)) (S.right.right.eight e (inl i))

    of_pending : (e : Event) → Memᴰ e Z.ledger.pending → Memᴰ e es
    of_pending e i =
        counted e (omega (arith, occurs_i e Z.ledger.pending i)) (S.right.right.eight e (inr (inl i)))

    -- With one more that is ready there are no more than n.
    next_short : (e : Event) → Memᴰ e Z.ledger.pending → Ready e (taken Z.ledger.history)
        → Valid Z.ledger.history e → length (e ∷ Z.ledger.history) ≤ n
    next_short e i ready valid =
        let day = day_is_listed v wide k n events m given in
        let next : History k Valid (e ∷ Z.ledger.history) = (
          record { formed = S.right.right.formed e i; ready = ready; true_clock = valid },
          S.right.right.by_rule,
        ) in
        let short = history_within k (e ∷ Z.ledger.history) (reverse es) next day.history
        (λ x j. day.alone x ((in_reverse x es).1 j))
        (λ x j. (in_reverse x es).0
        (⊎_elim (λ q. rw q (of_pending e i)) (of_history x) (Memᴰ.cases_cons j))) in
        omega (arith, short, length-reverse es, listed_many v wide k n events m given)

    lent_long : (more : ℕ) → length (lent_window Z more) ≡ long + more
    lent_long more =
        omega (arith, length-append Z.window (replicate more 0), length-replicate {A = ℕ} more 0, D.lent)

    take-fits : (limit more : ℕ) (scratch : List ℕ) → m ≤ limit → m * frontier_length w ≤ long + more
        → Other (next_take w Z limit more scratch).answer
    take-fits limit more scratch enough wide_enough q =
        let six : (next_take w Z limit more scratch).answer ≡ turned_back 6 0 =
        (exact.wrong_lengths limit more scratch).1 wrong in
        let z : ◌≡◌ {A = ℕ} 6 36 = cc in omega arith
      where
        exact : TakeExact w k f start Z
        exact = take_exact_of w k f start Z S

        day : DayListed v k n events
        day = day_is_listed v wide k n events m given

        plain : Plain Z
        plain = record { none_closed = D.none; taken_alone = λ e i. day.alone e (of_history e i) }

        allowed : m ≤ allowed_next w Z limit more
        allowed =
            omega (
              arith,
              enough,
              (room_iff w m (length (lent_window Z more))).1 (omega (arith, wide_enough, lent_long more)),
            )

        wrong : RightLengths w Z more scratch → ⊥
        wrong r =
            let full = (exact.right_lengths limit more scratch r).full_exactly.0 q in
            let over = full.1 full.0.0 full.0.1 full.0.2 in
            (busiest_kept_of w k f start Z S).room_enough plain (λ e i. day.alone e (of_pending e i)) v n events m given
            (next_short full.0.0 full.0.1 full.0.2 over.0) limit more scratch r allowed q

    -- ---- The watch after a call
    after_offer : (mask : ℕ) (clock labels : List ℕ) → Memᴰ (offered_event mask clock labels) es
        → Passed w (offers mask clock labels) → OnDay long (after w (offers mask clock labels) Z)
    unfolding after offered_ledger accepted_by
    after_offer mask clock labels i p =
        record {
          sound = after_sound w k f start Z (offers mask clock labels) p S;
          none = closes-none (offer_case w mask clock labels Z.bytes);
          came = came_then (offer_case w mask clock labels Z.bytes);
          lent = D.lent;
          no_36 = still _ Z.answers (offer_other w mask clock labels Z.bytes) D.no_36;
        }
      where
        Y : Watch
        Y = after w (offers mask clock labels) Z

        closes-none : OfferCase w mask clock labels Z.bytes → Y.ledger.closed ≡ 0
        closes-none (turned x some small other q) = rw q D.none
        closes-none (repeats h7 r q) = rw q D.none
        closes-none (accepted h7 h8 h9 h42 h31 h32 h33 q) = rw q D.none

        came_then : OfferCase w mask clock labels Z.bytes → (e : Event) → Memᴰ e Y.accepted
            → Memᴰ e es
        came_then (turned x some small other q) = rw q D.came
        came_then (repeats h7 r q) = rw q D.came
        came_then (accepted h7 h8 h9 h42 h31 h32 h33 q) =
            rw q (λ e j. ⊎_elim (λ x. rw x i) (D.came e) (Memᴰ.cases_cons j))

    after-take : (limit more : ℕ) (scratch : List ℕ) → m ≤ limit → m * frontier_length w ≤ long + more
        → OnDay (long + more) (after w (takes limit more scratch) Z)
    unfolding after
    after-take limit more scratch enough wide_enough = record {
      sound = after_sound w k f start Z (takes limit more scratch) tt S;
      none = take-closes w Z.bytes _ Z.ledger _ ∙ D.none;
      came = D.came;
      lent = length_taken w limit Z.bytes (lent_window Z more) scratch ∙ lent_long more;
      no_36 = still _ Z.answers (take-fits limit more scratch enough wide_enough) D.no_36;
    }

    after_find : (line : ℕ) → OnDay long (after w (finds line) Z)
    unfolding after
    after_find line = record {
      sound = after_sound w k f start Z (finds line) tt S;
      none = D.none;
      came = D.came;
      lent = D.lent;
      no_36 = still _ Z.answers (find_other w line Z.bytes Z.window) D.no_36;
    }

  run-day : (long : ℕ) (cs : List Call) → DayList w m es long cs → AllPassed w cs → (Z : Watch) → OnDay long Z
      → Memᴰ (turned_back 36 0) (run w cs Z).answers → ⊥
  unfolding run
  run-day _ _ (ends long) p Z D = D.no_36
  run-day _ _ (offers-one long mask clock labels cs i rest) p Z D =
      run-day long cs rest (λ c j. p c (Memᴰ.tail j)) (after w (offers mask clock labels) Z)
      (after_offer long Z D mask clock labels i (p (offers mask clock labels) (Memᴰ.head refl)))
  run-day _ _ (takes-some long limit more scratch cs l r rest) p Z D =
      run-day (long + more) cs rest (λ c j. p c (Memᴰ.tail j)) (after w (takes limit more scratch) Z)
      (after-take long Z D limit more scratch l r)
  run-day _ _ (finds-line long line cs rest) p Z D =
      run-day long cs rest (λ c j. p c (Memᴰ.tail j)) (after w (finds line) Z) (after_find long Z D line)

-- ---- Theorem

pub day_meets_no_36 : DayMeetsNo36
unfolding run
day_meets_no_36 v wide k n events m given w pos text labels eight s window a cs p calls =
    let x = sound_run w pos text k labels eight s window a [] (λ c i. absurd (Memᴰ.not-nil i)) in
    run-day w k x.0 (at labels) v wide n events m given (length window) cs calls p
    (opened (open_call w text k labels s window))
    (record {
      sound = x.3;
      none = refl;
      came = λ e i. absurd (Memᴰ.not-nil i);
      lent = open_long w pos text k labels eight s window;
      no_36 = λ i.
          ⊎_elim
          (λ q. let y : turned_back 36 0 ≡ state a.0 a.1 a.2 = q ∙ a.3 in
          let z : ◌≡◌ {A = ℕ} 0 1 = cc in omega arith)
          Memᴰ.not-nil (Memᴰ.cases_cons i);
    })
