-- What the next take of a watch written by calls comes to: its trial of the pending events as the bytes have it, said
-- of the taken events; and that a take stops at one event.
use Rattle.std.specs.Prelude.{ℕ, ◌<◌, ◌+◌, ◌-◌, suc, ◌≡◌, refl, Bool, false, true, ◌↔◌, leb, T, length, get_or, take, drop}
use Rattle.std.proofs.Common.{arith, sym, ap, subst, ◌∙◌, inr, ⊎_elim, leb→le}
use Rattle.std.proofs.Math.Path.{subst⁻¹}
use mathlib.Core.List.Memᴰ
use mathlib.Core.List.{List, ◌∷◌, Memᴰ, map, ◌++◌}
use borrow.Author.Tests.{leb-false, lt-ltb}
use Rattle.frontiers.specs.declared.Frontier.{Frontier}
use Rattle.pactl.specs.declared.Line.{Line}
use Rattle.clocks.specs.declared.Event.{Event}
use Rattle.window.specs.Step.{stepped, fits, Setting}
use Rattle.window_laws.specs.Represents.{setting_of, Represents}
use Rattle.clocks.specs.History.{taken}
use Rattle.clocks.specs.Event.{Cut, Ready, apply}
use Rattle.clocks.specs.Counts.{at, list_of}
use Rattle.codec.specs.Bit.{bit}
use Rattle.window.specs.SteppedCount.{stepped_many}
use Rattle.frontiers.specs.ListLaws.{place_member, member_place}
use Rattle.demands.specs.Watching.{Rule, Watching}
use Rattle.trial.specs.Trial.{valid_among, setting_in, Decision, undecided, false_clock, chosen}
use Rattle.call_take.specs.Take.{allowed_of, take_capped, Taken, decided}
use Rattle.records.specs.Record.{ready_in}
use Rattle.answers.specs.Answer.{turned_back, state, nothing_ready, state_of}
use Rattle.trial.specs.TrialLaws.{Indecisive, Outcome, none_decides, falsifies, chooses}
use Rattle.demands.specs.calls.WatchingLaws.{ready_in_lem, valid_in, setting_in_lem, says_lines, says_event, says_taken}
use Rattle.demands.specs.Ledger.{Ledger, Settled}
use Rattle.demands.specs.calls.AfterCall.{no_event, bad_lengths, decision, take-else, trial, ledger_then}
use Rattle.demands.specs.calls.TakeLaws.{stepped-some, stepped_right}
use Rattle.demands.specs.World.{world_of, Valid, KeptNumber}
use Rattle.std.proofs.Math.Seq.{split_at}
use Rattle.rules.specs.Formula.{Formula}
use Rattle.rules.specs.Line.{lines_at}
use Rattle.clocks.specs.Valid.{History}
use Rattle.demands.specs.statements.TakeAnswers.{PassedOver, StopsAt, NoRoom, FalseClock, Takes, falsified_ledger, chosen_ledger}
use Rattle.demands.specs.calls.KeptCutsLaws.{number_unique, represented_number}
use Rattle.demands.specs.lists.Verdicts.{state-holds}
use Rattle.demands.specs.calls.ListPlaces.{member_take, which_first}
use Rattle.demands.specs.calls.TakeLedger.{ledger_after}
use Rattle.demands.specs.Status.{remove_at}

-- ---- A take stops at one event
module _ (k allowed : ℕ) (L : Ledger) where
  pub stops_pending : (e : Event) → StopsAt k allowed L e → Memᴰ e L.pending
  stops_pending e s = rw s.pending_are (Memᴰ.append_right s.earlier (Memᴰ.head refl))

  -- an event that is not passed over: there a take stops, if it comes so far
  abbrev pub Stopping : Event → Type 0
  Stopping e = PassedOver k L.closed allowed L.history e → ⊥

  pub one_stop : (e f : Event) (s : StopsAt k allowed L e) → Stopping e → (t : StopsAt k allowed L f) → Stopping f
      → (s.earlier ≡ t.earlier) × (e ≡ f) × (s.later ≡ t.later)
  one_stop e f s a t b = ⊎_elim (λ q. q) (⊎_elim (λ m. absurd (a (t.passed e m))) (λ m. absurd (b (s.passed f m))))
      (which_first s.earlier s.later t.earlier t.later e f (sym s.pending_are ∙ t.pending_are))

  pub false_stopping : (x : FalseClock k allowed L) → Stopping x.0
  false_stopping x p = x.2 (p x.1.ready).0

  module _ (f : Formula) (start : Cut) (counts : List ℕ) (truth : Bool) (kept : ℕ)
      (x : Takes k allowed f start L counts truth kept) where
    pub takes_stopping : Stopping x.event
    takes_stopping p =
        let n = (p x.stops.ready).1 in
        omega (
          arith,
          n.2,
          x.fits,
          number_unique k L.closed (x.event ∷ L.history) n.0 kept n.1 x.kept_are,
        )

    pub not-both : FalseClock k allowed L → ⊥
    not-both y =
        y.2 (rw (one_stop y.0 x.event y.1 (false_stopping y) x.stops takes_stopping).1 x.true_clock)

-- ---- What the trial comes to
module _ (w k : ℕ) (f : Formula) (start : Cut) (R : Rule w k (lines_at 0 f) start) (L : Ledger) (bytes lent : List ℕ)
    (X : Watching w k (lines_at 0 f) start L bytes lent) (cap : ℕ) (scratch : List ℕ)
    (h : bad_lengths w k (lines_at 0 f) start R L bytes lent X cap scratch ≡ false) where
  abbrev pub table : List Line
  table = lines_at 0 f

  abbrev pub allowed : ℕ
  allowed = allowed_of w cap lent

  -- the frontiers with one more event
  abbrev kept_with : Event → List Frontier
  kept_with e = stepped (setting_of (world_of k L.closed table start) L.history e) X.kept

  abbrev pending_event : ℕ → Event
  pending_event j = get_or L.pending j no_event

  -- the ledger after it
  abbrev pub then : Ledger
  then = ledger_then w k table start R L bytes lent X cap scratch

  pub data Answered : Type 0 where
    nothing : (take_capped w cap bytes lent scratch).answer ≡ nothing_ready → Settled L → Answered
    full : (take_capped w cap bytes lent scratch).answer ≡ turned_back 36 0 → NoRoom k allowed L → Answered
    falsified : (take_capped w cap bytes lent scratch).answer ≡ turned_back 35 0 → (x : FalseClock k allowed L)
        → then ≡ falsified_ledger L x.0 (x.1.earlier ++ x.1.later) → Answered
    took : (counts : List ℕ) (truth : Bool) (kept : ℕ)
        → (take_capped w cap bytes lent scratch).answer ≡ state counts truth kept
        → (x : Takes k allowed f start L counts truth kept)
        → then ≡ chosen_ledger L x.event (x.stops.earlier ++ x.stops.later) → Answered

  ready_at : (j : ℕ) → j < length L.pending
      → T (ready_in w bytes (pending_event j)) ↔ Ready (pending_event j) (taken L.history)
  ready_at j l =
      ready_in_lem w k table start R L bytes lent X (pending_event j)
      (X.right.formed (pending_event j) (place_member L.pending j no_event l))

  valid_at : (j : ℕ) → j < length L.pending → Ready (pending_event j) (taken L.history)
      → T (valid_among X.kept (pending_event j)) ↔ Valid L.history (pending_event j)
  valid_at j l =
      let m = place_member L.pending j no_event l in
      let e = pending_event j in
      valid_in w k table start R L bytes lent X e (X.right.formed e m) (X.names_open e m)

  -- of a ready pending event with a true clock
  module _ (j : ℕ) (l : j < length L.pending) (r : Ready (pending_event j) (taken L.history))
      (v : Valid L.history (pending_event j)) where
    kept_right : Represents (world_of k L.closed table start) (pending_event j ∷ L.history)
        (kept_with (pending_event j))
    kept_right = stepped_right w k table start R L bytes lent X j no_event l r v

    kept_number : KeptNumber k L.closed (pending_event j ∷ L.history) (length (kept_with (pending_event j)))
    kept_number =
        represented_number k L.closed (pending_event j ∷ L.history) table start (kept_with (pending_event j))
        kept_right

    later : History k Valid (pending_event j ∷ L.history)
    later =
        let formed = X.right.formed (pending_event j) (place_member L.pending j no_event l) in
        (record { formed = formed; ready = r; true_clock = v }, X.right.by_rule)

    -- some cut is kept then, so it fits exactly if there is room
    fits_is : fits (setting_in w bytes (pending_event j)) allowed X.kept
        ≡ leb (length (kept_with (pending_event j))) allowed
    unfolding fits
    fits_is =
        let s : Setting = setting_of (world_of k L.closed table start) L.history (pending_event j) in
        rw (
          setting_in_lem w k table start R L bytes lent X (pending_event j),
          ← stepped_many s X.kept,
          lt-ltb 0 (length (kept_with (pending_event j))) (stepped-some w k table start R L bytes lent X j no_event l r v),
        )

  over : (j : ℕ) → j < length L.pending
      → Indecisive w bytes (valid_among X.kept) allowed X.kept (pending_event j)
      → PassedOver k L.closed allowed L.history (pending_event j)
  over j l d r =
      let x = d ((ready_at j l).1 r) in
      let v : Valid L.history (pending_event j) = (valid_at j l r).0 x.0 in
      let n : ℕ = length (kept_with (pending_event j)) in
      (v, (n, kept_number j l r v, leb-false n allowed (sym (fits_is j l r v) ∙ x.1)))

  over_member : (e : Event) → Memᴰ e L.pending → Indecisive w bytes (valid_among X.kept) allowed X.kept e
      → PassedOver k L.closed allowed L.history e
  over_member e m d = go (member_place L.pending e no_event m)
    where
      go : (j : ℕ) × (j < length L.pending) × (pending_event j ≡ e) → PassedOver k L.closed allowed L.history e
      go p =
          subst (PassedOver k L.closed allowed L.history) p.2
          (over p.0 p.1 (subst⁻¹ (Indecisive w bytes (valid_among X.kept) allowed X.kept) p.2 d))

  stops : (j : ℕ) (l : j < length L.pending) → Ready (pending_event j) (taken L.history)
      → ((i : ℕ) → i < j → Indecisive w bytes (valid_among X.kept) allowed X.kept (pending_event i))
      → StopsAt k allowed L (pending_event j)
  stops j l r u = record {
    earlier = take j L.pending;
    later = drop (suc j) L.pending;
    pending_are = split_at L.pending j no_event l;
    ready = r;
    passed = λ e m.
        let p = member_take L.pending j no_event e m in
        subst (PassedOver k L.closed allowed L.history) p.3 (over p.0 p.2 (u p.0 p.1));
  }

  pub answered : Answered
  unfolding decided state_of taken apply ledger_after remove_at stops
  answered = go (trial w k table start R L bytes lent X cap scratch)
    where
      t : take_capped w cap bytes lent scratch
          ≡ decided w bytes lent X.kept (decision w k table start R L bytes lent X cap scratch)
      t = (take-else w k table start R L bytes lent X cap scratch h).0

      answers : (d : Decision) → decision w k table start R L bytes lent X cap scratch ≡ d
          → (take_capped w cap bytes lent scratch).answer ≡ (decided w bytes lent X.kept d).answer
      answers d q = ap (λ (x : Taken). x.answer) (t ∙ ap (decided w bytes lent X.kept) q)

      ledgers : (d : Decision) → decision w k table start R L bytes lent X cap scratch ≡ d
          → then ≡ ledger_after w bytes L d
      ledgers d q = (take-else w k table start R L bytes lent X cap scratch h).1 ∙ ap (ledger_after w bytes L) q

      go : Outcome w bytes (valid_among X.kept) allowed X.kept 0 false L.pending no_event → Answered
      go (none_decides false q u o) =
          nothing (answers (undecided false) q)
          (λ e m r. o.1 (inr (e, m, (ready_in_lem w k table start R L bytes lent X e (X.right.formed e m)).1 r)))
      go (none_decides true q u o) = ⊎_elim (λ x. absurd x)
          (λ x.
          let r = (ready_in_lem w k table start R L bytes lent X x.0 (X.right.formed x.0 x.1)).0 x.2 in
          full (answers (undecided true) q) ((x.0, x.1, r), λ e m. over_member e m (u e m)))
          (o.0 tt)
      go (falsifies j l q r n u) =
          let i : 0 + j ≡ j = omega arith in
          falsified (answers (false_clock (0 + j)) q)
          (pending_event j, stops j l ((ready_at j l).0 r) u, λ v. subst T n ((valid_at j l ((ready_at j l).0 r)).1 v))
          (ledgers (false_clock (0 + j)) q ∙ rw (i, says_event w k table start R L bytes lent X j no_event l))
      go (chooses j l q r v g u) =
          let i : 0 + j ≡ j = omega arith in
          let e : Event = pending_event j in
          let R' : Ready e (taken L.history) = (ready_at j l).0 r in
          let J : Valid L.history e = (valid_at j l R').0 v in
          took (list_of 8 (taken (e ∷ L.history)))
          (bit (get_or (map (λ g. g.values) (kept_with e)) (length (kept_with e) - 1) 0) (length table - 1))
          (length (kept_with e))
          (answers (chosen (0 + j)) q
          ∙ rw (
            i,
            says_event w k table start R L bytes lent X j no_event l,
            setting_in_lem w k table start R L bytes lent X e,
            says_lines w k table start R L bytes lent X,
            says_taken w k table start R L bytes lent X,
          ))
          (record {
            event = e;
            stops = stops j l R' u;
            true_clock = J;
            kept_are = kept_number j l R' J;
            fits = leb→le (length (kept_with e)) allowed (rw (fits_is j l R' J) at g);
            counts_are = refl;
            truth_is =
                state-holds k f start w L.closed R (e ∷ L.history) (later j l R' J) (kept_with e)
                (kept_right j l R' J);
          })
          (ledgers (chosen (0 + j)) q ∙ rw (i, says_event w k table start R L bytes lent X j no_event l))
