-- What the answers of a list of calls say: every verdict is true for good, and "nothing ready" is the last answer only
-- where no pending event is ready.
use Prim.Native.Nat.{ℕ, ◌+◌, ◌-◌, ◌<◌}
use native.Mathlib.Omega.{arith}
use Rattle.std.proofs.Math.Path.{◌≡◌, refl}
use Rattle.std.proofs.Common.{sym, inl, inr}
use Rattle.std.specs.Prelude.{Bool, cond, ◌||◌, length, leb}
use Rattle.std.proofs.Math.Bool.{true, false}
use mathlib.Core.List.Memᴰ
use mathlib.Core.List.{List, ◌∷◌, ◌++◌, [], map}
use Rattle.std.proofs.Math.Logic.{⊎_elim}
use Rattle.std.proofs.Math.ListN.{replicate, get_or}
use Rattle.pactl.specs.declared.Line.{Line}
use Rattle.rules.specs.Line.{lines_at}
use Rattle.rules.specs.Formula.{Formula}
use Rattle.clocks.specs.Event.{Cut, Ready, apply}
use Rattle.frontiers.specs.declared.Frontier.{Frontier}
use Rattle.clocks.specs.declared.Event.{Event}
use Rattle.codec.specs.Bit.{bit}
use Rattle.window.specs.Step.{stepped}
use Rattle.window_laws.specs.Represents.{Represents, setting_of}
use Rattle.frontiers.specs.ListLaws.{place_member}
use Rattle.frontiers.specs.Bytes.{frontiers}
use Rattle.clocks.specs.History.{taken}
use Rattle.clocks.specs.Counts.{list_of}
use Rattle.clocks.specs.Valid.{History}
use Rattle.demands.specs.Watching.{Rule, Watching}
use Rattle.records.specs.Record.{pending_count, pending_at, pending_events, line_total, kept_count}
use Rattle.answers.specs.Answer.{Answer, turned_back, state, nothing_ready, held, again, found, absent, process_closed, state_of}
use Rattle.call_offer.specs.Offer.{offered_event, place_among}
use Rattle.demands.specs.Ledger.{Ledger, Settled}
use Rattle.demands.specs.Mislent.{Mislent, TurnedAway, answer_to}
use Rattle.demands.specs.Run.{Watch, Passed, offered_ledger, closed_ledger, after, offers, Call, takes, finds, closes, mislends}
use Rattle.call_offer.specs.OfferCases.{OfferCase, offer_case, turned, repeats, accepted}
use Rattle.call_close.specs.Close.{close_process}
use Rattle.call_close.specs.CloseCases as closing
use Rattle.call_close.specs.CloseCases.{CloseCase, close_case}
use Rattle.demands.specs.lists.Verdicts.{verdict_later, state-true}
use Rattle.refusals.specs.Refusals.{room_of, bad_record_length, bad_window_length, bad_state}
use Rattle.trial.specs.TrialLaws.{Outcome, none_decides, falsifies, chooses}
use Rattle.demands.specs.calls.AfterCall.{WatchRight, no_event, lengthened, decision, bad_lengths, take_6, take-else, trial, is_ready, is_valid}
use Rattle.trial.specs.Trial.{valid_among, Decision}
use Rattle.call_take.specs.Take.{allowed_of, decided}
use Rattle.demands.specs.calls.WatchingLaws.{ready_in_lem, says_lines, says_event, says_taken, setting_in_lem}
use Rattle.demands.specs.Status.{insert_at, remove_at}
use Rattle.demands.specs.calls.TakeLaws.{stepped_right}
use Rattle.call_find.specs.Find.{find_from, find_call}
use Rattle.demands.specs.World.{world_of, Valid}
use Rattle.demands.specs.Verdict.{Truthful, TrueVerdict}
use Rattle.demands.specs.calls.TakeLedger.{ledger_after}

-- The last answer "nothing ready" says that no pending event is ready.
abbrev pub Quiet : Ledger → List Answer → Type 0
Quiet L answers = (prior : List Answer) → answers ≡ nothing_ready ∷ prior → Settled L

module _ (w k : ℕ) (f : Formula) (start : Cut) (R : Rule w k (lines_at 0 f) start) where
  abbrev table : List Line
  table = lines_at 0 f

  -- ---- Statement
  pub record Reporting (L : Ledger) (answers : List Answer) : Type 0 where
    pub truthful : Truthful k f start L.history answers
    pub quiet : Quiet L answers

  -- an answer that is neither leaves the verdicts as they were
  plain_answer : (L M : Ledger) (as' : List Answer) → Reporting L as' → M.history ≡ L.history → (a : Answer)
      → (a ≡ nothing_ready → ⊥) → ((c : List ℕ) (t : Bool) (n : ℕ) → a ≡ state c t n → ⊥) → Reporting M (a ∷ as')
  plain_answer L M as' Y q a n m = record {
    truthful = λ c t kept i.
        ⊎_elim (λ x. absurd (m c t kept (sym x))) (λ j. rw q (Y.truthful c t kept j)) (Memᴰ.cases_cons i);
    quiet = λ prior x. absurd (n (cc));
  }

  turned_plain : (L M : Ledger) (as' : List Answer) → Reporting L as' → M.history ≡ L.history → (n i : ℕ)
      → Reporting M (turned_back n i ∷ as')
  turned_plain L M as' Y q n i = plain_answer L M as' Y q (turned_back n i)
      (λ x. let z : ◌≡◌ {A = ℕ} 0 1 = cc in omega arith) (λ c t m x. let z : ◌≡◌ {A = ℕ} 0 1 = cc in omega arith)

  -- ---- offer, find
  offer_reporting : (W : Watch) → Reporting W.ledger W.answers → (mask : ℕ) (clock labels : List ℕ)
      → Reporting (after w (offers mask clock labels) W).ledger (after w (offers mask clock labels) W).answers
  unfolding after offered_ledger
  offer_reporting W Y mask clock labels = go (offer_case w mask clock labels W.bytes)
    where
      go : OfferCase w mask clock labels W.bytes
          → Reporting (after w (offers mask clock labels) W).ledger (after w (offers mask clock labels) W).answers
      go (turned n some small other q) = rw q (turned_plain W.ledger W.ledger W.answers Y refl n 0)
      go (repeats h7 h q) =
          rw q (plain_answer W.ledger W.ledger W.answers Y refl again
          (λ x. let z : ◌≡◌ {A = ℕ} 0 1 = cc in omega arith) (λ c t m x. let z : ◌≡◌ {A = ℕ} 0 1 = cc in omega arith))
      go (accepted h7 h8 h9 h42 h31 h32 h33 q) =
          let new : Event = offered_event mask clock labels in
          let with_event : Ledger = record {
            history = W.ledger.history;
            pending = insert_at (place_among new (pending_events w W.bytes)) new W.ledger.pending;
            falsified = W.ledger.falsified;
            closed = W.ledger.closed;
          } in
          rw q (plain_answer W.ledger with_event W.answers Y refl (held (pending_count W.bytes + 1))
          (λ x. let z : ◌≡◌ {A = ℕ} 0 1 = cc in omega arith) (λ c t m x. let z : ◌≡◌ {A = ℕ} 0 1 = cc in omega arith))

  find_plain : (line i : ℕ) (fs : List Frontier) (L : Ledger) (as' : List Answer) → Reporting L as'
      → Reporting L (find_from line i fs ∷ as')
  unfolding find_from
  find_plain line i [] L as' Y =
      plain_answer L L as' Y refl absent (λ x. let z : ◌≡◌ {A = ℕ} 0 1 = cc in omega arith)
      (λ c t m x. let z : ◌≡◌ {A = ℕ} 0 1 = cc in omega arith)
  find_plain line i (g ∷ fs) L as' Y = go (bit g.values line) (find_plain line (i + 1) fs L as' Y)
    where
      go : (b : Bool) → Reporting L (find_from line (i + 1) fs ∷ as')
          → Reporting L (cond b (found i) (find_from line (i + 1) fs) ∷ as')
      go true r =
          plain_answer L L as' Y refl (found i) (λ x. let z : ◌≡◌ {A = ℕ} 0 1 = cc in omega arith)
          (λ c t m x. let z : ◌≡◌ {A = ℕ} 0 1 = cc in omega arith)
      go false r = r

  find_reporting : (line : ℕ) (s window : List ℕ) (L : Ledger) (as' : List Answer) → Reporting L as'
      → Reporting L (find_call w line s window ∷ as')
  unfolding find_call
  find_reporting line s window L as' Y =
      go (bad_record_length w (length s) || bad_window_length w (length window)) (bad_state w (room_of w (length window)) s)
      (leb (line_total s) line)
    where
      go : (a b c : Bool)
          → Reporting L (cond a (turned_back 6 0) (cond b (turned_back 34 0)
          (cond c (turned_back 11 0) (find_from line 0 (frontiers w window (kept_count s))))) ∷ as')
      go true b c = turned_plain L L as' Y refl 6 0
      go false true c = turned_plain L L as' Y refl 34 0
      go false false true = turned_plain L L as' Y refl 11 0
      go false false false = find_plain line 0 (frontiers w window (kept_count s)) L as' Y

  -- ---- close
  close_reporting : (W : Watch) → Reporting W.ledger W.answers → (p : ℕ)
      → Reporting (after w (closes p) W).ledger (after w (closes p) W).answers
  unfolding after closed_ledger close_process
  close_reporting W Y p = go (close_case w p W.bytes W.window)
    where
      go : CloseCase w p W.bytes W.window
          → Reporting (after w (closes p) W).ledger (after w (closes p) W).answers
      go (closing.turned n some small other q) = rw q (turned_plain W.ledger W.ledger W.answers Y refl n 0)
      go (closing.accepted h41 h42 q) = rw q
          (plain_answer W.ledger _ W.answers Y refl (process_closed _)
          (λ x. let z : ◌≡◌ {A = ℕ} 0 1 = cc in omega arith) (λ c t m x. let z : ◌≡◌ {A = ℕ} 0 1 = cc in omega arith))

  -- ---- take
  module _ (W : Watch) (X : WatchRight w k table start W) (Y : Reporting W.ledger W.answers) (cap more : ℕ)
      (scratch : List ℕ) where
    abbrev L : Ledger
    L = W.ledger

    abbrev bytes : List ℕ
    bytes = W.bytes

    abbrev lent : List ℕ
    lent = W.window ++ replicate more 0

    abbrev X' : Watching w k table start L bytes lent
    X' = lengthened w k table start R L bytes W.window X more

    abbrev After : Decision → Type 0
    After d = Reporting (ledger_after w bytes L d) ((decided w bytes lent X'.kept d).answer ∷ W.answers)

    taken_reporting : (j : ℕ) (l : j < length L.pending) → Ready (get_or L.pending j no_event) (taken L.history)
        → Valid L.history (get_or L.pending j no_event)
        → Reporting (record {
          history = get_or L.pending j no_event ∷ L.history;
          pending = remove_at j L.pending;
          falsified = L.falsified;
          closed = L.closed;
        })
        (state_of (length table) (list_of 8 (apply (get_or L.pending j no_event) (taken L.history)))
        (stepped (setting_of (world_of k L.closed table start) L.history (get_or L.pending j no_event)) X'.kept)
        ∷ W.answers)
    unfolding state_of taken apply
    taken_reporting j l r v =
        let e : Event = get_or L.pending j no_event in
        let gs : List Frontier = stepped (setting_of (world_of k L.closed table start) L.history e) X'.kept in
        let formed = X.right.formed e (place_member L.pending j no_event l) in
        let h : History k Valid (e ∷ L.history) =
        (record { formed = formed; ready = r; true_clock = v }, X.right.by_rule) in
        record {
          truthful = λ c t kept i.
              ⊎_elim (λ x. here e gs c t kept h (stepped_right w k table start R L bytes lent X' j no_event l r v) x)
              (λ m. verdict_later k f start e L.history h c t (Y.truthful c t kept m)) (Memᴰ.cases_cons i);
          quiet = λ prior x. let z : ◌≡◌ {A = ℕ} 0 1 = cc in absurd (omega arith);
        }
      where
        here : (e : Event) (gs : List Frontier) (c : List ℕ) (t : Bool) (kept : ℕ) → History k Valid (e ∷ L.history)
            → Represents (world_of k L.closed table start) (e ∷ L.history) gs
            → state c t kept ≡ state (list_of 8 (apply e (taken L.history)))
            (bit (get_or (map (λ g. g.values) gs) (length gs - 1) 0) (length table - 1)) (length gs)
            → TrueVerdict k f start (e ∷ L.history) c t
        here e gs c t kept h r x =
            let a : c ≡ list_of 8 (taken (e ∷ L.history)) = cc in
            let b : t ≡ bit (get_or (map (λ g. g.values) gs) (length gs - 1) 0) (length table - 1) = cc in
            rw b (state-true k f start w L.closed R (e ∷ L.history) h gs r c a)

    decided_reporting : Outcome w bytes (valid_among X'.kept) (allowed_of w cap lent) X'.kept 0 false
        L.pending no_event → After (decision w k table start R L bytes lent X' cap scratch)
    unfolding ledger_after decided
    decided_reporting (none_decides false q u o) = rw q
        (record {
          truthful = λ c t kept i.
              ⊎_elim (λ x. let z : ◌≡◌ {A = ℕ} 0 1 = cc in absurd (omega arith)) (Y.truthful c t kept)
              (Memᴰ.cases_cons i);
          quiet = λ prior x e m r.
              o.1 (inr (e, m, (ready_in_lem w k table start R L bytes lent X' e (X.right.formed e m)).1 r));
        })
    decided_reporting (none_decides true q u o) = rw q (turned_plain L L W.answers Y refl 36 0)
    decided_reporting (falsifies j l q r n x) =
        let without : Ledger = record {
          history = L.history;
          pending = remove_at (0 + j) L.pending;
          falsified = pending_at w bytes (0 + j) ∷ L.falsified;
          closed = L.closed;
        } in
        rw q (turned_plain L without W.answers Y refl 35 0)
    decided_reporting (chooses j l q r v g x) =
        let i : 0 + j ≡ j = omega arith in
        rw (
          q,
          i,
          says_event w k table start R L bytes lent X' j no_event l,
          setting_in_lem w k table start R L bytes lent X' (get_or L.pending j no_event),
          says_lines w k table start R L bytes lent X',
          says_taken w k table start R L bytes lent X',
        )
        (taken_reporting j l (is_ready w k table start R L bytes lent X' cap scratch j l r)
        (is_valid w k table start R L bytes lent X' cap scratch j l r v))

  -- ---- lent other buffers
  mislent_reporting : (m : Mislent) → TurnedAway w m → (L : Ledger) (as' : List Answer) → Reporting L as'
      → Reporting L (answer_to w m ∷ as')
  mislent_reporting m (inl q) L as' Y = rw q (turned_plain L L as' Y refl 6 0)
  mislent_reporting m (inr q) L as' Y = rw q (turned_plain L L as' Y refl 34 0)

  -- ---- Theorem
  pub after_reporting : (W : Watch) → WatchRight w k table start W → Reporting W.ledger W.answers → (c : Call)
      → Passed w c → Reporting (after w c W).ledger (after w c W).answers
  unfolding after ledger_after
  after_reporting W X Y (offers mask clock labels) h = offer_reporting W Y mask clock labels
  after_reporting W X Y (finds line) h = find_reporting line W.bytes W.window W.ledger W.answers Y
  after_reporting W X Y (closes p) h = close_reporting W Y p
  after_reporting W X Y (mislends m) h = mislent_reporting m h W.ledger W.answers Y
  after_reporting W X Y (takes cap more scratch) h =
      go (bad_lengths w k table start R W.ledger W.bytes lent'' X'' cap scratch) refl
    where
      lent'' : List ℕ
      lent'' = W.window ++ replicate more 0

      X'' : Watching w k table start W.ledger W.bytes lent''
      X'' = lengthened w k table start R W.ledger W.bytes W.window X more

      go : (b : Bool) → bad_lengths w k table start R W.ledger W.bytes lent'' X'' cap scratch ≡ b
          → Reporting (after w (takes cap more scratch) W).ledger (after w (takes cap more scratch) W).answers
      go true h =
          let t = take_6 w k table start R W.ledger W.bytes lent'' X'' cap scratch h in
          rw (t.1, t.0) (turned_plain W.ledger W.ledger W.answers Y refl 6 0)
      go false h =
          let t = take-else w k table start R W.ledger W.bytes lent'' X'' cap scratch h in
          let d = trial w k table start R W.ledger W.bytes lent'' X'' cap scratch in
          rw (t.1, t.0) (decided_reporting W X Y cap more scratch d)

  -- ... and what open reports is true
  pub open_reporting : (fs : List Frontier) → Represents (world_of k 0 table start) [] fs
      → Reporting (record { history = []; pending = []; falsified = []; closed = 0 })
      (state_of (length table) (replicate 8 0) fs ∷ [])
  unfolding state_of list_of taken
  open_reporting fs r = record {
    truthful = λ c t kept i. here c t kept (Memᴰ.eq_of_singleton i);
    quiet = λ prior x. let z : ◌≡◌ {A = ℕ} 0 1 = cc in absurd (omega arith);
  }
    where
      here : (c : List ℕ) (t : Bool) (kept : ℕ)
          → state c t kept ≡ state (replicate 8 0)
          (bit (get_or (map (λ g. g.values) fs) (length fs - 1) 0) (length table - 1)) (length fs)
          → TrueVerdict k f start [] c t
      here c t kept x =
          let a : c ≡ replicate 8 0 = cc in
          let b : t ≡ bit (get_or (map (λ g. g.values) fs) (length fs - 1) 0) (length table - 1) = cc in
          rw b (state-true k f start w 0 R [] tt fs r c a)
