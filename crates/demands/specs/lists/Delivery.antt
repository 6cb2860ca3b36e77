-- Order of arrival makes no difference: two settled ledgers of the same accepted events took the same events and have
-- the same pending.
use Rattle.std.specs.Prelude.{ℕ, ◌≤◌, ◌<◌, ◌≡◌, refl, Bool, false, true, ◌⊎◌, ◌↔◌}
use Rattle.std.proofs.Common.{arith, le_trans, ◌∙◌, sym, ap, ⊎_elim, inl, inr}
use Rattle.std.proofs.Math.Decide.{dec_lt}
use mathlib.Core.List.Memᴰ
use mathlib.Core.List.{List, [], ◌∷◌, ◌++◌, Memᴰ}
use Rattle.std.proofs.Math.Option.{some}
use Rattle.std.proofs.Math.Seq.{append_snoc}
use Rattle.clocks.specs.declared.Event.{Event}
use Rattle.clocks.specs.History.{taken, event, In}
use Rattle.clocks.specs.Causal.{Causal}
use Rattle.clocks.specs.Event.{one, Ready, lowered, Cut}
use Rattle.clocks.specs.validity.ClockRule.{history_causal}
use Rattle.clocks.specs.SameEvent.{same_event}
use Rattle.clocks.specs.cuts.EventLaws.{true-T, T_true, ready_next, ready_known, ready_i, lowered-ready}
use Rattle.clocks.specs.Counts.{at}
use Rattle.clocks.specs.cuts.HistoryLaws.{taken_later, event-old, event_exists, event_numbered, event-zero}
use Rattle.clocks.specs.stored.SameEventLaws.{same-equal, same_refl}
use Rattle.clocks.specs.Valid.{Takeable, History, ClockRule}
use Rattle.clocks.specs.cuts.CausalLaws.{count-number, number_of, in_occupied, count-within}
use Rattle.clocks.specs.cuts.SameEvents.{Same, same-sym, same_taken}
use Rattle.demands.specs.Ledger.{occurrences, Ledger, accounted, Settled}
use Rattle.demands.specs.Watching.{Eight, Kept_right}

-- ---- occurrences and members
pub occurs_i : (e : Event) (fs : List Event) → Memᴰ e fs → 0 < occurrences e fs
unfolding occurrences
occurs_i e [] m = absurd (Memᴰ.not-nil m)
occurs_i e (f ∷ fs) m = ⊎_elim
    (λ (q : e ≡ f). let b : same_event e f ≡ true = T_true (same_event e f) (rw q (same_refl f)) in rw b (omega arith))
    (λ k. omega (arith, occurs_i e fs k))
    (Memᴰ.cases_cons m)

pub occurs_e : (e : Event) (fs : List Event) → Eight e → ((f : Event) → Memᴰ f fs → Eight f)
    → 0 < occurrences e fs → Memᴰ e fs
unfolding occurrences
occurs_e e [] x h l = absurd (omega arith)
occurs_e e (f ∷ fs) x h l = go (same_event e f) refl (occurs_e e fs x (λ g m. h g (Memᴰ.tail m)))
  where
    go : (b : Bool) → same_event e f ≡ b → (0 < occurrences e fs → Memᴰ e fs) → Memᴰ e (f ∷ fs)
    go true b r =
        let y = h f (Memᴰ.head refl) in
        Memᴰ.head (same-equal e f x.counts y.counts x.labels y.labels (true-T b))
    go false b r = Memᴰ.tail (r (let z : one (same_event e f) ≡ 0 = rw b in omega arith))

-- ---- a history within another
-- events of one history that are all in another come to no more there
module _ (ts us : List Event) (c : Causal ts) (d : Causal us) (h : (f : Event) → In f ts → In f us) where
  event-within : (p n : ℕ) (f : Event) → event ts p n ≡ some f → event us p n ≡ some f
  event-within p n f q =
      let w = event_numbered ts p n f q in
      rw (count-number ts c p n f q) at (number_of us d f (h f w.among) p w.takes)

  pub taken-within : (p : ℕ) → taken ts p ≤ taken us p
  taken-within p = go (dec_lt 0 (taken ts p))
    where
      go : Dec (0 < taken ts p) → taken ts p ≤ taken us p
      go (yes l) =
          let f = event_exists ts p (taken ts p) l (omega arith) in
          (event_numbered us p (taken ts p) f.0 (event-within p (taken ts p) f.0 f.1)).within
      go (no l) = omega arith

-- an earlier history has the same events by number
event_earlier : (us ts : List Event) (p n : ℕ) → n ≤ taken ts p → event (us ++ ts) p n ≡ event ts p n
event_earlier [] ts p n l = refl
event_earlier (e ∷ us) ts p n l =
    event-old e (us ++ ts) p n (le_trans l (taken_later us ts p)) ∙ event_earlier us ts p n l

-- ---- one ledger's taken events are taken in the other
module _ (k : ℕ) (valid : List Event → Event → Type 0) (r : ClockRule k valid) where
  causal : (ts : List Event) → History k valid ts → Causal ts
  causal = history_causal k valid r

  earlier : (us ts : List Event) → History k valid (us ++ ts) → History k valid ts
  earlier [] ts h = h
  earlier (e ∷ us) ts h = earlier us ts h.1

  -- a pending event whose past is all taken is ready
  pending_ready : (L : Ledger) → Kept_right k valid L → (e : Event) → Memᴰ e L.pending → (ts : List Event)
      → Ready e (taken ts)
      → ((p : ℕ) → taken ts p ≤ taken L.history p) → Ready e (taken L.history)
  pending_ready L K e m ts q w = ready_i e (taken L.history)
      (λ p b. omega (arith, ready_next e (taken ts) q p b, w p, K.untaken e m p b))
      (λ p b. omega (arith, ready_known e (taken ts) q p b, w p))

  -- an event that could be taken after some of the taken events did not leave with a false clock
  never-falsified : (L : Ledger) → Kept_right k valid L → (ts : List Event) → History k valid ts
      → ((f : Event) → In f ts → In f L.history)
      → (e : Event) → Takeable k valid ts e → Memᴰ e L.falsified → ⊥
  never-falsified L K ts h s e t m =
      let w = K.was_ready e m in
      let us : List Event = w.0 in
      let vs : List Event = w.1 in
      let q : Ready e (taken vs) = w.3 in
      let past : History k valid vs = earlier us vs (rw w.2 at K.by_rule) in
      w.4 (r.local ts vs e h past t.ready q (record { events = λ p n l. agree us vs w.2 q past p n l })
      t.true_clock)
    where
      agree : (us vs : List Event) → L.history ≡ us ++ vs → Ready e (taken vs) → History k valid vs → (p n : ℕ)
          → n ≤ lowered e p → event ts p n ≡ event vs p n
      agree us vs g q past p n l = go (dec_lt 0 n)
        where
          go : Dec (0 < n) → event ts p n ≡ event vs p n
          go (no z) = let o : n ≡ 0 = omega arith in rw o (event-zero ts p ∙ sym (event-zero vs p))
          go (yes z) =
              let f = event_exists ts p n z (le_trans l (lowered-ready e (taken ts) t.ready p)) in
              let x : event L.history p n ≡ some f.0 =
              event-within ts L.history (causal ts h) (causal L.history K.by_rule) s p n f.0 f.1 in
              let y : event L.history p n ≡ event vs p n = ap (λ (zs : List Event). event zs p n) g
              ∙ event_earlier us vs p n (le_trans l (lowered-ready e (taken vs) q p)) in
              f.1 ∙ sym x ∙ y

  -- ---- by induction from the oldest event on
  module _ (L M : Ledger) (K : Kept_right k valid L) (N : Kept_right k valid M) (S : Settled M)
      (b : (e : Event) → accounted e L ≡ accounted e M) where
    -- every event that one ledger accounts for is somewhere in the other
    somewhere : (e : Event) → Memᴰ e L.history
        → Memᴰ e M.history ⊎ (Memᴰ e M.pending ⊎ Memᴰ e M.falsified)
    somewhere e m = go (dec_lt 0 (occurrences e M.history)) (dec_lt 0 (occurrences e M.pending))
      where
        x : Eight e
        x = K.eight e (inl m)

        go : Dec (0 < occurrences e M.history) → Dec (0 < occurrences e M.pending)
            → Memᴰ e M.history ⊎ (Memᴰ e M.pending ⊎ Memᴰ e M.falsified)
        go (yes l) d = inl (occurs_e e M.history x (λ f n. N.eight f (inl n)) l)
        go (no l) (yes j) = inr (inl (occurs_e e M.pending x (λ f n. N.eight f (inr (inl n))) j))
        go (no l) (no j) =
            let left : 0 < occurrences e M.falsified = omega (arith, b e, occurs_i e L.history m) in
            inr (inr (occurs_e e M.falsified x (λ f n. N.eight f (inr (inr n))) left))

    taken-there : (us ts : List Event) → L.history ≡ us ++ ts → (f : Event) → In f ts → In f M.history
    taken-there us [] g f m = absurd (Memᴰ.not-nil m)
    taken-there us (e ∷ ts) g f m = go (taken-there (us ++ (e ∷ [])) ts (g ∙ sym (append_snoc us e ts)))
      where
        past : History k valid (e ∷ ts)
        past = earlier us (e ∷ ts) (rw g at K.by_rule)

        here : In e L.history
        here = rw g (Memᴰ.append_right us (Memᴰ.head refl))

        go : ((x : Event) → In x ts → In x M.history) → In f M.history
        go rest = ⊎_elim (λ q. rw q this) (rest f) (Memᴰ.cases_cons m)
          where
            this : In e M.history
            this = ⊎_elim (λ x. x)
                (⊎_elim (λ x. absurd (S e x (pending_ready M N e x ts past.0.ready
                (taken-within ts M.history (causal ts past.1) (causal M.history N.by_rule) rest))))
                (λ x. absurd (never-falsified M N ts past.1 rest e past.0 x)))
                (somewhere e here)

    pub all_taken : (f : Event) → In f L.history → In f M.history
    all_taken = taken-there [] L.history refl

-- ---- Theorem
module _ (k : ℕ) (valid : List Event → Event → Type 0) (r : ClockRule k valid) (L M : Ledger)
    (K : Kept_right k valid L) (N : Kept_right k valid M) (S : Settled L) (U : Settled M)
    (b : (e : Event) → accounted e L ≡ accounted e M) where
  pub same-taken_events : Same L.history M.history
  same-taken_events = record {
    there = all_taken k valid r L M K N U b;
    back = all_taken k valid r M L N K S (λ e. sym (b e));
  }

-- a pending event of one is not among those falsified in the other, so it is pending there
pending_there : (k : ℕ) (valid : List Event → Event → Type 0) → ClockRule k valid → (L M : Ledger)
    → Kept_right k valid L → Kept_right k valid M → Settled L
    → Same L.history M.history → ((e : Event) → accounted e L ≡ accounted e M)
    → (e : Event) → Memᴰ e L.pending → Memᴰ e M.pending
pending_there k valid r L M K N S s b e m = occurs_e e M.pending x (λ f n. N.eight f (inr (inl n))) enough
  where
    x : Eight e
    x = K.eight e (inr (inl m))

    c : Causal L.history
    c = history_causal k valid r L.history K.by_rule

    d : Causal M.history
    d = history_causal k valid r M.history N.by_rule

    -- its own counts are taken in neither
    not_taken : In e L.history → ⊥
    not_taken n =
        let o = in_occupied L.history c e n in
        omega (arith, K.untaken e m o.0 o.1, count-within L.history c e n o.0)

    none-taken : occurrences e M.history ≡ 0
    none-taken = go (dec_lt 0 (occurrences e M.history))
      where
        go : Dec (0 < occurrences e M.history) → occurrences e M.history ≡ 0
        go (yes l) = absurd (not_taken (s.back e (occurs_e e M.history x (λ f n. N.eight f (inl n)) l)))
        go (no l) = omega arith

    none-falsified : occurrences e M.falsified ≡ 0
    none-falsified = go (dec_lt 0 (occurrences e M.falsified))
      where
        go : Dec (0 < occurrences e M.falsified) → occurrences e M.falsified ≡ 0
        go (no l) = omega arith
        go (yes l) =
            let w = N.was_ready e (occurs_e e M.falsified x (λ f n. N.eight f (inr (inr n))) l) in
            absurd (S e m (pending_ready k valid r L K e m w.1 w.3
            (λ p. omega (
              arith,
              ap (λ (C : Cut). C p) (same_taken L.history M.history c d s),
              ap (λ (zs : List Event). taken zs p) w.2,
              taken_later w.0 w.1 p,
            ))))

    enough : 0 < occurrences e M.pending
    enough = omega (arith, b e, occurs_i e L.pending m, none-taken, none-falsified)

pub same_pending : (k : ℕ) (valid : List Event → Event → Type 0) → ClockRule k valid → (L M : Ledger)
    → Kept_right k valid L → Kept_right k valid M → Settled L → Settled M
    → ((e : Event) → accounted e L ≡ accounted e M) → (e : Event) → Memᴰ e L.pending ↔ Memᴰ e M.pending
same_pending k valid r L M K N S U b e =
    let s : Same L.history M.history = same-taken_events k valid r L M K N S U b in
    (pending_there k valid r L M K N S s b e, pending_there k valid r M L N K U (same-sym s) (λ f. sym (b f)) e)
