-- What one call does to the pending events of a sound watch where it accepts none: they stay, or one of them leaves, and
-- the take says by which answer.
use Rattle.std.specs.Prelude.{ℕ, ◌+◌, ◌≡◌, Bool, List, [], ◌∷◌, ◌++◌}
use native.Mathlib.Omega.{arith}
use Rattle.std.proofs.Math.Path.{refl, ap}
use Rattle.std.proofs.Math.Bool.{true, false}
use Rattle.std.proofs.Math.Logic.{⊎_elim}
use Rattle.std.proofs.Math.ListN.{length, length-append}
use Rattle.clocks.specs.declared.Event.{Event}
use Rattle.clocks.specs.Event.{Cut}
use Rattle.rules.specs.Formula.{Formula}
use Rattle.rules.specs.Line.{lines_at}
use Rattle.answers.specs.Answer.{Answer, turned_back, state, nothing_ready, held, again, found, absent, process_closed}
use Rattle.answers.specs.Kinds.{is_held}
use Rattle.call_offer.specs.Offer.{offered_event, offer_call}
use Rattle.call_take.specs.Take.{Taken}
use Rattle.demands.specs.Ledger.{occurrences, Ledger, Settled}
use Rattle.demands.specs.Mislent.{Mislent, offer_lent, take_lent, find_lent, close_lent, TurnedAway}
use Rattle.demands.specs.Run.{Call, offers, takes, finds, closes, mislends, Passed, Watch, taken_ledger, offered_ledger, accepted_by, closed_ledger, after}
use Rattle.demands.specs.EveryList.{next_take, lent_window}
use Rattle.demands.specs.Watching.{Watching}
use Rattle.demands.specs.calls.AfterCall.{bad_lengths, lengthened, take_6}
use Rattle.demands.specs.statements.TakeAnswers.{StopsAt, FalseClock, Takes, AnswersExact, allowed_next}
use Rattle.demands.specs.statements.Empties.{if_take, unrefused, Leaving, was_taken, was_false, answered_for, taken_of, false_of, InTurn}
use Rattle.demands.specs.lists.LedgerBalance.{occurs_append}
use Rattle.demands.specs.lists.SoundRun.{Sound}
use Rattle.demands.specs.lists.TakeCases.{stops_pending}
use Rattle.demands.specs.lists.TakeAnswers.{lengths_known, take_exact_of}

-- The same events taken, pending and gone with 35; processes may have been closed.
pub record SameEvents (L M : Ledger) : Type 0 where
  pub history_same : M.history ≡ L.history
  pub pending_same : M.pending ≡ L.pending
  pub falsified_same : M.falsified ≡ L.falsified

pub no_change : (L M : Ledger) → M ≡ L → SameEvents L M
no_change L M q = record {
  history_same = ap (λ (N : Ledger). N.history) q;
  pending_same = ap (λ (N : Ledger). N.pending) q;
  falsified_same = ap (λ (N : Ledger). N.falsified) q;
}

pub settled_same : (L M : Ledger) → SameEvents L M → Settled L → Settled M
settled_same L M s quiet e m r = quiet e (rw s.pending_same at m) (rw s.history_same at r)

-- One event left.
pub record Left (k : ℕ) (f : Formula) (start : Cut) (x : Leaving) (L M : Ledger) : Type 0 where
  pub in_turn_now : InTurn k f start L.history (x ∷ [])
  pub history_now : M.history ≡ taken_of (x ∷ []) ++ L.history
  pub falsified_now : M.falsified ≡ false_of (x ∷ []) ++ L.falsified
  pub one_less : length M.pending + 1 ≡ length L.pending
  pub each_now : (e : Event)
      → occurrences e L.pending
      ≡ occurrences e (taken_of (x ∷ [])) + occurrences e (false_of (x ∷ [])) + occurrences e M.pending

-- What the call did, and what it answered if it was a take that was not refused.
pub data Step (w k : ℕ) (f : Formula) (start : Cut) (c : Call) (Z : Watch) : Type 0 where
  idle : SameEvents Z.ledger (after w c Z).ledger → unrefused (if_take w c Z) ≡ [] → Step w k f start c Z
  silent : SameEvents Z.ledger (after w c Z).ledger → unrefused (if_take w c Z) ≡ nothing_ready ∷ []
      → Settled Z.ledger → Step w k f start c Z
  leaves : (x : Leaving) → Left k f start x Z.ledger (after w c Z).ledger
      → unrefused (if_take w c Z) ≡ answered_for x ∷ [] → (Settled Z.ledger → ⊥) → Step w k f start c Z

-- ---- Take
module _ (w k : ℕ) (f : Formula) (start : Cut) (Z : Watch) (S : Sound w k f start Z) (cap more : ℕ)
    (scratch : List ℕ) where
  abbrev L : Ledger
  L = Z.ledger

  abbrev M : Ledger
  M = (after w (takes cap more scratch) Z).ledger

  abbrev answer : Answer
  answer = (next_take w Z cap more scratch).answer

  abbrev allowed : ℕ
  allowed = allowed_next w Z cap more

  told : (a : Answer) → answer ≡ a → unrefused (if_take w (takes cap more scratch) Z) ≡ unrefused (a ∷ [])
  told a q = ap (λ (b : Answer). unrefused (b ∷ [])) q

  -- the ledger by the answer
  ledger_by : (a : Answer) → answer ≡ a → (i : ℕ) × (M ≡ taken_ledger w Z.bytes i L a)
  unfolding after
  ledger_by a q = (_, ap (taken_ledger w Z.bytes _ L) q)

  -- event e was between these and pending
  one_gone : (earlier later : List Event) (e : Event) → L.pending ≡ earlier ++ (e ∷ later)
      → M.pending ≡ earlier ++ later
      → (length M.pending + 1 ≡ length L.pending)
      × ((g : Event) → occurrences g L.pending ≡ occurrences g (e ∷ []) + occurrences g M.pending)
  unfolding occurrences
  one_gone earlier later e p q = (
    (omega (
      arith,
      ap length p,
      ap length q,
      length-append earlier (e ∷ later),
      length-append earlier later,
    )),
    λ g. omega (
      arith,
      ap (occurrences g) p,
      ap (occurrences g) q,
      occurs_append g earlier (e ∷ later),
      occurs_append g earlier later,
    ),
  )

  stops : (e : Event) → StopsAt k allowed L e → Settled L → ⊥
  stops e s quiet = quiet e (stops_pending k allowed L e s) s.ready

  took : AnswersExact w k f start Z cap more scratch → Step w k f start (takes cap more scratch) Z
  unfolding unrefused taken_ledger taken_of false_of occurrences
  took E = ⊎_elim nothing (⊎_elim full (⊎_elim gone taken)) E.no_other
    where
      nothing : answer ≡ nothing_ready → Step w k f start (takes cap more scratch) Z
      nothing q = silent (no_change L M (ledger_by nothing_ready q).1) (told nothing_ready q) (E.nothing_exactly.0 q)

      full : answer ≡ turned_back 36 0 → Step w k f start (takes cap more scratch) Z
      full q = idle (no_change L M (ledger_by (turned_back 36 0) q).1) (told (turned_back 36 0) q)

      gone : answer ≡ turned_back 35 0 → Step w k f start (takes cap more scratch) Z
      gone q =
          let x : FalseClock k allowed L = E.false_exactly.0 q in
          let l = E.ledger_false x in
          let o = one_gone x.1.earlier x.1.later x.0 x.1.pending_are
          (ap (λ (N : Ledger). N.pending) l) in
          leaves (was_false x.0)
          (record {
            in_turn_now = (x.1.ready, x.2, tt);
            history_now = ap (λ (N : Ledger). N.history) l;
            falsified_now = ap (λ (N : Ledger). N.falsified) l;
            one_less = o.0;
            each_now = λ e. omega (arith, o.1 e);
          })
          (told (turned_back 35 0) q) (stops x.0 x.1)

      taken : (counts : List ℕ) × (truth : Bool) × (kept : ℕ) × (answer ≡ state counts truth kept)
          → Step w k f start (takes cap more scratch) Z
      taken y =
          let q = y.3 in
          let x : Takes k allowed f start L y.0 y.1 y.2 = (E.state_exactly y.0 y.1 y.2).0 q in
          let l = E.ledger_state y.0 y.1 y.2 x in
          let o = one_gone x.stops.earlier x.stops.later x.event x.stops.pending_are
          (ap (λ (N : Ledger). N.pending) l) in
          leaves (was_taken x.event y.0 y.1 y.2)
          (record {
            in_turn_now = (x.stops.ready, x.true_clock, x.counts_are, x.truth_is, tt);
            history_now = ap (λ (N : Ledger). N.history) l;
            falsified_now = ap (λ (N : Ledger). N.falsified) l;
            one_less = o.0;
            each_now = λ e. omega (arith, o.1 e);
          })
          (told (state y.0 y.1 y.2) q) (stops x.event x.stops)

  -- with the window that it is lent
  abbrev lent : List ℕ
  lent = lent_window Z more

  abbrev longer : Watching w k (lines_at 0 f) start L Z.bytes lent
  longer = lengthened w k (lines_at 0 f) start S.rule L Z.bytes Z.window S.right more

  abbrev wrong : Bool
  wrong = bad_lengths w k (lines_at 0 f) start S.rule L Z.bytes lent longer cap scratch

  take_step : Step w k f start (takes cap more scratch) Z
  unfolding unrefused taken_ledger after
  take_step = go wrong refl
    where
      go : (b : Bool) → wrong ≡ b → Step w k f start (takes cap more scratch) Z
      go true h =
          let t = take_6 w k (lines_at 0 f) start S.rule L Z.bytes lent longer cap scratch h in
          idle (no_change L M t.1) (told (turned_back 6 0) (ap (λ (r : Taken). r.answer) t.0))
      go false h =
          took ((take_exact_of w k f start Z S).right_lengths cap more scratch
          (lengths_known w k f start Z S cap more scratch h))

-- ---- The other calls

-- a close leaves the events
close_same : (p : ℕ) (L : Ledger) (a : Answer) → SameEvents L (closed_ledger p L a)
unfolding closed_ledger
close_same p L (process_closed n) = record { history_same = refl; pending_same = refl; falsified_same = refl }
close_same p L (turned_back n i) = no_change L L refl
close_same p L (state c t k) = no_change L L refl
close_same p L nothing_ready = no_change L L refl
close_same p L (held n) = no_change L L refl
close_same p L again = no_change L L refl
close_same p L (found i) = no_change L L refl
close_same p L absent = no_change L L refl

-- an offer that does not accept leaves the ledger
longer_list : (e : Event) (es : List Event) → e ∷ es ≡ es → ⊥
longer_list e es q = let l : length (e ∷ es) ≡ length es = ap length q in omega (arith, l)

offer_same : (w : ℕ) (s : List ℕ) (e : Event) (L : Ledger) (es : List Event) (a : Answer) → accepted_by e es a ≡ es
    → offered_ledger w s e L a ≡ L
unfolding accepted_by offered_ledger
offer_same w s e L es a q = go (is_held a) refl
  where
    go : (b : Bool) → is_held a ≡ b → offered_ledger w s e L a ≡ L
    go true h = absurd (longer_list e es (rw h at q))
    go false h = rw h

mislent_idle : (w : ℕ) (m : Mislent) → TurnedAway w m → (Z : Watch) → unrefused (if_take w (mislends m) Z) ≡ []
unfolding unrefused
mislent_idle w (offer_lent mask clock labels s) h Z = refl
mislent_idle w (take_lent cap s window scratch) h Z =
    ⊎_elim (λ q. ap (λ (a : Answer). unrefused (a ∷ [])) q) (λ q. ap (λ (a : Answer). unrefused (a ∷ [])) q) h
mislent_idle w (find_lent line s window) h Z = refl
mislent_idle w (close_lent p s window) h Z = refl

-- ---- Every call
pub step : (w k : ℕ) (f : Formula) (start : Cut) (Z : Watch) → Sound w k f start Z → (c : Call) → Passed w c
    → (after w c Z).accepted ≡ Z.accepted → Step w k f start c Z
unfolding after unrefused
step w k f start Z S (offers mask clock labels) h q =
    idle (no_change Z.ledger _
    (offer_same w Z.bytes (offered_event mask clock labels) Z.ledger Z.accepted
    (offer_call w mask clock labels Z.bytes).answer q)) refl
step w k f start Z S (takes cap more scratch) h q = take_step w k f start Z S cap more scratch
step w k f start Z S (finds line) h q = idle (no_change Z.ledger _ refl) refl
step w k f start Z S (closes p) h q = idle (close_same p Z.ledger _) refl
step w k f start Z S (mislends m) h q = idle (no_change Z.ledger _ refl) (mislent_idle w m h Z)
