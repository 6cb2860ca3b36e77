-- The invariant goes through every call.
use Rattle.std.specs.Prelude.{ℕ, ◌+◌, ◌*◌, ◌≤◌, ◌<◌, ◌≡◌, true, ◌||◌, ◌&&◌, ◌↔◌, replicate, eqb, ltb}
use native.Mathlib.Omega.{arith}
use Rattle.std.proofs.Common.{le-div_iff_mul-le, sym, ap, ◌∙◌, subst, length-append, leb→le}
use Rattle.std.proofs.Math.Nat.{le_trans, min-le_right}
use Rattle.std.proofs.Math.Path.{refl, ap₂}
use mathlib.Core.List.{List, ◌++◌, [], ◌∷◌, Memᴰ}
use Rattle.std.proofs.Math.Bool.{Bool, false, not}
use Rattle.std.proofs.Math.ListN.{length, get_or}
use Rattle.std.proofs.lemmas.List.{length-replicate}
use Rattle.std.proofs.Math.Dec.{T, leb}
use Rattle.pactl.specs.declared.Line.{Line}
use Rattle.clocks.specs.declared.Event.{Event}
use Rattle.frontiers.specs.Bytes.{window_bytes, frontier_length, frontiers}
use Rattle.clocks.specs.Event.{Cut, Ready}
use Rattle.clocks.specs.Counts.{at}
use Rattle.frontiers.specs.declared.Frontier.{Frontier}
use Rattle.window.specs.SteppedCount.{stepped_many}
use Rattle.window.specs.Step.{Setting, stepped, kept_after, fits}
use Rattle.window_laws.specs.Represents.{setting_of}
use Rattle.frontiers.specs.ListLaws.{place_member}
use Rattle.clocks.specs.History.{taken}
use Rattle.clocks.specs.stored.BoundedLaws.{and_r, or-false_e}
use Rattle.clocks.specs.Valid.{WellFormed}
use Rattle.demands.specs.Watching.{Rule, Watching}
use Rattle.demands.specs.calls.WatchingLaws.{says_pending, lent_longer, never_34, says_frontiers, says_event, ready_in_lem, valid_in, setting_in_lem}
use Rattle.call_offer.specs.Offer.{offered_event}
use Rattle.demands.specs.Ledger.{Ledger}
use Rattle.demands.specs.Run.{Passed, Watch, offered_ledger, closed_ledger, after, offers, Call, run, takes, finds, closes, mislends, taken_ledger, stopped_at, trial_of}
use Rattle.call_offer.specs.OfferCases.{OfferCase, offer_case, turned, repeats, accepted}
use Rattle.demands.specs.calls.OfferLaws.{accepted_watching}
use Rattle.call_close.specs.CloseCases as closing
use Rattle.call_close.specs.CloseCases.{CloseCase, close_case}
use Rattle.demands.specs.calls.CloseLaws.{closed_are, closed_watching}
use Rattle.trial.specs.Trial.{valid_among, Decision, setting_in}
use Rattle.call_take.specs.Take as take
use Rattle.call_take.specs.Take.{decided, allowed_of, take_capped, Taken}
use Rattle.records.specs.Record.{ready_in, kept_count, removed}
use Rattle.refusals.specs.Refusals.{bad_record_length, bad_window_length, room_of, bad_state}
use Rattle.answers.specs.Answer.{turned_back}
use Rattle.trial.specs.TrialLaws.{walked, as_they_stand, Outcome, outcome, none_decides, falsifies, chooses}
use Rattle.demands.specs.calls.PendingOrder.{ordered_ascends}
use Rattle.demands.specs.calls.TakeLaws.{falsified_watching, taken_watching, taken_window}
use Rattle.demands.specs.Status.{remove_at}
use Rattle.refusals.specs.RefusalLaws.{room_few}
use Rattle.demands.specs.World.{world_of, Valid}
use Rattle.demands.specs.calls.TakeLedger.{ledger_after, ledger_follows, within-trial}

-- ---- A watch and its ledger
abbrev pub WatchRight : ℕ → ℕ → List Line → Cut → Watch → Type 0
WatchRight w k table start W = Watching w k table start W.ledger W.bytes W.window

-- Stands for an event that is not there.
abbrev pub no_event : Event
no_event = record { mask = 0; clock = []; labels = [] }

-- the room of a window, in frontiers and in bytes
pub room_iff : (w n total : ℕ) → (n ≤ room_of w total) ↔ (n * frontier_length w ≤ total)
unfolding room_of frontier_length
room_iff w n total = le-div_iff_mul-le (omega arith)

module _ (w k : ℕ) (table : List Line) (start : Cut) (R : Rule w k table start) where
  -- ---- a window lent longer
  pub lengthened : (L : Ledger) (bytes window : List ℕ) → Watching w k table start L bytes window → (zeros : ℕ)
      → Watching w k table start L bytes (window ++ replicate zeros 0)
  lengthened L bytes window X zeros = record {
    kept = X.kept;
    bytes_are = X.bytes_are;
    window_is =
        lent_longer w k table start R L bytes window X zeros ∙ ap (λ (t : ℕ). window_bytes w t X.kept) (sym long);
    room = omega (arith, long, X.room);
    few = X.few;
    represents = X.represents;
    right = X.right;
    ordered = X.ordered;
    clear = X.clear;
    faultless = X.faultless;
    storable = X.storable;
    many = X.many;
    closed_below = X.closed_below;
    names_open = X.names_open;
  }
    where
      long : length (window ++ replicate zeros 0) ≡ length window + zeros
      long = length-append window (replicate zeros 0) ∙ ap (λ (n : ℕ). length window + n) (length-replicate zeros 0)

  -- ---- offer
  offer_right : (W : Watch) → WatchRight w k table start W → (mask : ℕ) (clock labels : List ℕ)
      → Passed w (offers mask clock labels) → WatchRight w k table start (after w (offers mask clock labels) W)
  unfolding after offered_ledger
  offer_right W X mask clock labels p = go (offer_case w mask clock labels W.bytes)
    where
      e : Event
      e = offered_event mask clock labels

      go : OfferCase w mask clock labels W.bytes → WatchRight w k table start (after w (offers mask clock labels) W)
      go (turned n some small other q) = rw q X
      go (repeats h7 h q) = rw q X
      go (accepted h7 h8 h9 h42 h31 h32 h33 q) =
          let says = says_pending w k table start R W.ledger W.bytes W.window X in
          let watched = accepted_watching w k table start R W.ledger W.bytes W.window X mask clock labels p
          h7 h8 h9 h42 h31 h32 h33 in
          rw (q, says) (rw says at watched)

  -- ---- close
  close_right : (W : Watch) → WatchRight w k table start W → (p : ℕ) → WatchRight w k table start (after w (closes p) W)
  unfolding after closed_ledger
  close_right W X p = go (close_case w p W.bytes W.window)
    where
      go : CloseCase w p W.bytes W.window → WatchRight w k table start (after w (closes p) W)
      go (closing.turned n some small other q) = rw q X
      go (closing.accepted h41 h42 q) =
          rw (q, closed_are w k table start R W.ledger W.bytes W.window X p h41 h42)
          (closed_watching w k table start R W.ledger W.bytes W.window X p h41 h42)

  -- ---- take, lent a window of whatever length
  module _ (L : Ledger) (bytes lent : List ℕ) (X : Watching w k table start L bytes lent) (cap : ℕ)
      (scratch : List ℕ) where
    -- 6, of the three lent buffers
    unfoldable pub bad_lengths : Bool
    bad_lengths = take.bad_lengths w (length bytes) (length lent) (length scratch)

    -- the ledger after the take
    abbrev pub ledger_then : Ledger
    ledger_then =
        taken_ledger w bytes (stopped_at (trial_of w cap bytes lent)) L (take_capped w cap bytes lent scratch).answer

    pub take_6 : bad_lengths ≡ true
        → (take_capped w cap bytes lent scratch
        ≡ record { answer = turned_back 6 0; bytes = bytes; window = lent; scratch = scratch }) × (ledger_then ≡ L)
    unfolding take_capped taken_ledger bad_lengths
    take_6 h = (rw h, rw h)

    -- else it goes through the pending events, which stand in the order in which they are tried
    abbrev pub decision : Decision
    decision = walked w bytes (valid_among X.kept) (allowed_of w cap lent) X.kept 0 false L.pending

    read : frontiers w lent (kept_count bytes) ≡ X.kept
    read =
        ap (λ (s : List ℕ). frontiers w s (kept_count bytes)) X.window_is
        ∙ says_frontiers w k table start R L bytes lent X (length lent)

    pub take-else : bad_lengths ≡ false
        → (take_capped w cap bytes lent scratch ≡ decided w bytes lent X.kept decision)
        × (ledger_then ≡ ledger_after w bytes L decision)
    unfolding take_capped bad_lengths trial_of
    take-else h = (
      whole,
      ap₂ (λ (d : Decision) (x : Taken). taken_ledger w bytes (stopped_at d) L x.answer) same whole
          ∙ ledger_follows w bytes lent X.kept L decision,
    )
      where
        same : trial_of w cap bytes lent ≡ decision
        same =
            let pending = says_pending w k table start R L bytes lent X in
            as_they_stand w bytes _ _ _ (rw pending (ordered_ascends L.pending X.ordered)) ∙ rw (read, pending)

        n : bad_state w (room_of w (length lent)) bytes ≡ false
        n =
            never_34 w k table start R L bytes lent X (room_of w (length lent))
            ((room_iff w (length X.kept) (length lent)).1 X.room)

        whole : take_capped w cap bytes lent scratch ≡ decided w bytes lent X.kept decision
        whole = rw (h, n) (within-trial w cap bytes lent ∙ ap₂ (decided w bytes lent) read same)

    -- what the trial comes to
    pub trial : Outcome w bytes (valid_among X.kept) (allowed_of w cap lent) X.kept 0 false L.pending no_event
    trial = outcome w bytes (valid_among X.kept) (allowed_of w cap lent) X.kept no_event 0 false L.pending

    -- of a pending event, by the taken events
    module _ (j : ℕ) (l : j < length L.pending) where
      abbrev e : Event
      e = get_or L.pending j no_event

      member : Memᴰ e L.pending
      member = place_member L.pending j no_event l

      formed : WellFormed k e
      formed = X.right.formed e member

      pub is_ready : T (ready_in w bytes e) → Ready e (taken L.history)
      is_ready = (ready_in_lem w k table start R L bytes lent X e formed).0

      pub is_valid : T (ready_in w bytes e) → T (valid_among X.kept e) → Valid L.history e
      is_valid r = (valid_in w k table start R L bytes lent X e formed (X.names_open e member) (is_ready r)).0

      is_false : T (ready_in w bytes e) → valid_among X.kept e ≡ false → Valid L.history e → ⊥
      is_false r h t =
          subst T h ((valid_in w k table start R L bytes lent X e formed (X.names_open e member) (is_ready r)).1 t)

      abbrev gs : List Frontier
      gs = stepped (setting_of (world_of k L.closed table start) L.history e) X.kept

      -- it fits exactly if the stepped window does
      fits_allowed : T (fits (setting_in w bytes e) (allowed_of w cap lent) X.kept) → length gs ≤ allowed_of w cap lent
      unfolding fits
      fits_allowed t =
          let s : Setting = setting_of (world_of k L.closed table start) L.history e in
          let q : setting_in w bytes e ≡ s = setting_in_lem w k table start R L bytes lent X e in
          let u : T (ltb 0 (kept_after s X.kept) && leb (kept_after s X.kept) (allowed_of w cap lent)) = rw q at t in
          rw (stepped_many s X.kept)
          (leb→le (kept_after s X.kept) (allowed_of w cap lent)
          (and_r (ltb 0 (kept_after s X.kept)) (leb (kept_after s X.kept) (allowed_of w cap lent)) u))

    -- ---- the watch after it
    room_1024 : bad_lengths ≡ false → room_of w (length lent) ≤ 1024
    unfolding bad_lengths
    room_1024 h =
        let uneven : Bool = not (eqb (length scratch) (length lent)) in
        let windows = (or-false_e (bad_record_length w (length bytes)) (bad_window_length w (length lent) || uneven) h).1 in
        room_few w (length lent) (or-false_e (bad_window_length w (length lent)) uneven windows).0

    pub take_right : bad_lengths ≡ false
        → Watching w k table start (ledger_after w bytes L decision) (decided w bytes lent X.kept decision).bytes
        (decided w bytes lent X.kept decision).window
    unfolding ledger_after decided
    take_right h = go trial
      where
        go : Outcome w bytes (valid_among X.kept) (allowed_of w cap lent) X.kept 0 false L.pending no_event
            → Watching w k table start (ledger_after w bytes L decision) (decided w bytes lent X.kept decision).bytes
            (decided w bytes lent X.kept decision).window
        go (none_decides b q u o) = rw q X
        go (falsifies j l q r n x) =
            let i : 0 + j ≡ j = omega arith in
            let without : Ledger = record {
              history = L.history;
              pending = remove_at j L.pending;
              falsified = get_or L.pending j no_event ∷ L.falsified;
              closed = L.closed;
            } in
            rw (q, i, says_event w k table start R L bytes lent X j no_event l)
            (subst (Watching w k table start without (removed w bytes j)) (sym X.window_is)
            (falsified_watching w k table start R L bytes lent X j no_event l (is_ready j l r) (is_false j l r n)
            (length lent) (omega arith)))
        go (chooses j l q r v f x) =
            let i : 0 + j ≡ j = omega arith in
            let many : length (gs j l) ≤ room_of w (length lent) =
            le_trans (fits_allowed j l f) (min-le_right cap (room_of w (length lent))) in
            let fit = (room_iff w (length (gs j l)) (length lent)).0 many in
            rw (
              q,
              i,
              says_event w k table start R L bytes lent X j no_event l,
              setting_in_lem w k table start R L bytes lent X (get_or L.pending j no_event),
              taken_window w k table start R L bytes lent X j no_event l (is_ready j l r) (is_valid j l r v) fit,
            )
            (taken_watching w k table start R L bytes lent X j no_event l (is_ready j l r) (is_valid j l r v)
            (length lent) fit (le_trans many (room_1024 h)))

  -- ---- Theorem
  pub after_right : (W : Watch) → WatchRight w k table start W → (c : Call) → Passed w c
      → WatchRight w k table start (after w c W)
  unfolding after ledger_after
  after_right W X (offers mask clock labels) p = offer_right W X mask clock labels p
  after_right W X (finds line) p = X
  after_right W X (mislends m) p = X
  after_right W X (closes p) q = close_right W X p
  after_right W X (takes cap zeros scratch) p = go (bad_lengths L bytes lent X' cap scratch) refl
    where
      L : Ledger
      L = W.ledger

      bytes : List ℕ
      bytes = W.bytes

      lent : List ℕ
      lent = W.window ++ replicate zeros 0

      X' : Watching w k table start L bytes lent
      X' = lengthened L bytes W.window X zeros

      go : (b : Bool) → bad_lengths L bytes lent X' cap scratch ≡ b
          → WatchRight w k table start (after w (takes cap zeros scratch) W)
      go true h = let t = take_6 L bytes lent X' cap scratch h in rw (t.1, t.0) X'
      go false h =
          let t = take-else L bytes lent X' cap scratch h in
          rw (t.1, t.0) (take_right L bytes lent X' cap scratch h)

  pub run_right : (W : Watch) → WatchRight w k table start W → (cs : List Call)
      → ((c : Call) → Memᴰ c cs → Passed w c) → WatchRight w k table start (run w cs W)
  unfolding run
  run_right W X [] p = X
  run_right W X (c ∷ cs) p =
      run_right (after w c W) (after_right W X c (p c (Memᴰ.head refl))) cs (λ d m. p d (Memᴰ.tail m))
