-- The step theorem: the consistent cuts of a history with one more event are the old ones, and those that the event
-- leads to from an old one at which it is enabled. Such an old one has all taken events of the event's processes.
use Rattle.std.specs.Prelude.{ℕ, suc, ◌≤◌, ◌≡◌, true, false, List, ◌∷◌, [], ◌++◌, ◌⊎◌, ◌↔◌}
use Rattle.std.proofs.Common.{arith, le_trans, sym, inl, inr, ⊎_elim}
use Rattle.clocks.specs.declared.Event.{Event}
use Rattle.clocks.specs.Event.{Cut, involved, count, Ready, apply, less, lowered}
use Rattle.clocks.specs.cuts.EventLaws.{either, T_true, ready_next, ready-same, count_apply, lowered-ready, lowered_next, apply_next, apply_other, apply_up, less_next, less_other, apply-less, ready_i}
use Rattle.clocks.specs.History.{taken, clock_of, Consistent}
use Rattle.clocks.specs.Causal.{Follows, Causal}
use Rattle.clocks.specs.cuts.HistoryLaws.{taken_next, taken_other, taken_up, taken_cases, event_next, event-old}
use Rattle.clocks.specs.cuts.CausalLaws.{clock_some, clock_same, clock_within}

-- ---- Statement

-- The event leads to S from a consistent cut of the history at which it is enabled.
pub record Advanced (ts : List Event) (e : Event) (S : Cut) : Type 0 where
  pub from : Cut
  pub consistent : Consistent ts from
  pub enabled : Ready e from
  pub leads : S ≡ apply e from

-- ---- Old cuts

-- the old numbers' clocks are as they were
pub clock_old : (e : Event) (ts : List Event) (p n : ℕ) → n ≤ taken ts p → (q : ℕ) → clock_of (e ∷ ts) p n q ≡ clock_of ts p n q
clock_old e ts p n h q = clock_same (e ∷ ts) ts p n (event-old e ts p n h) q

pub consistent-old : (e : Event) (ts : List Event) (S : Cut) → Consistent ts S → Consistent (e ∷ ts) S
consistent-old e ts S c = record {
  within = λ p. omega (arith, c.within p, taken_up e ts p);
  closed = λ p q. rw (clock_old e ts p (S p) (c.within p) q) (c.closed p q);
}

pub consistent_later : (us ts : List Event) (S : Cut) → Consistent ts S → Consistent (us ++ ts) S
consistent_later [] ts S c = c
consistent_later (e ∷ us) ts S c = consistent-old e (us ++ ts) S (consistent_later us ts S c)

pub consistent-within : (e : Event) (ts : List Event) (S : Cut) → Consistent (e ∷ ts) S → ((p : ℕ) → S p ≤ taken ts p) → Consistent ts S
consistent-within e ts S c w = record {
  within = w;
  closed = λ p q. rw (clock_old e ts p (S p) (w p) q) at (c.closed p q);
}

-- ---- New cuts
pub consistent-new : (e : Event) (ts : List Event) (S : Cut) → Ready e (taken ts) → Consistent ts S → Ready e S → Consistent (e ∷ ts) (apply e S)
consistent-new e ts S t c r = record {
  within = λ p. within p (either (involved e p));
  closed = λ p q. closed p q (either (involved e p));
}
  where
    within : (p : ℕ) → (involved e p ≡ true) ⊎ (involved e p ≡ false) → apply e S p ≤ taken (e ∷ ts) p
    within p (inl b) = omega (arith, apply_next e S p b, taken_next e ts p b, c.within p)
    within p (inr b) = omega (arith, apply_other e S p b, taken_other e ts p b, c.within p)

    closed : (p q : ℕ) → (involved e p ≡ true) ⊎ (involved e p ≡ false) → clock_of (e ∷ ts) p (apply e S p) q ≤ apply e S q
    closed p q (inl b) =
        let n : apply e S p ≡ suc (taken ts p) = omega (arith, apply_next e S p b, ready-same e S (taken ts) r t p b) in
        rw (n, clock_some (e ∷ ts) p (suc (taken ts p)) e (event_next e ts p b) q) (count_apply e S r q)
    closed p q (inr b) = rw (apply_other e S p b, clock_old e ts p (S p) (c.within p) q) (omega (arith, c.closed p q, apply_up e S q))

-- ---- No others
module _ (e : Event) (ts : List Event) (cs : Causal ts) (f : Follows ts e) (S : Cut) (c : Consistent (e ∷ ts) S) where
  -- where the cut has the event at one of its processes, the event's clock is nowhere above the cut
  has-event : (p : ℕ) → involved e p ≡ true → S p ≡ suc (taken ts p) → (q : ℕ) → count e q ≤ S q
  has-event p b n q = rw (n, clock_some (e ∷ ts) p (suc (taken ts p)) e (event_next e ts p b) q) at (c.closed p q)

  -- ... so the cut has it at each of them
  has_all : ((q : ℕ) → count e q ≤ S q) → (p : ℕ) → involved e p ≡ true → S p ≡ suc (taken ts p)
  has_all h p b = omega (arith, h p, c.within p, ready_next e (taken ts) f.ready p b, taken_next e ts p b)

  -- ... and, less the event, the cut is one of the history's own
  back_enabled : ((q : ℕ) → count e q ≤ S q) → Ready e (less e S)
  back_enabled h = ready_i e (less e S)
      (λ p b. omega (arith, less_next e S p b, has_all h p b, ready_next e (taken ts) f.ready p b))
      (λ p b. omega (arith, less_other e S p b, h p))

  back_within : ((q : ℕ) → count e q ≤ S q) → (p : ℕ) → less e S p ≤ taken ts p
  back_within h p = ⊎_elim
      (λ b. omega (arith, less_next e S p b, has_all h p b))
      (λ b. omega (arith, less_other e S p b, c.within p, taken_other e ts p b))
      (either (involved e p))

  back_closed : ((q : ℕ) → count e q ≤ S q) → (p q : ℕ) → clock_of ts p (less e S p) q ≤ less e S q
  back_closed h p q = go (either (involved e p)) (either (involved e q))
    where
      -- a process of the event: the event knows of its last one
      own : involved e p ≡ true → clock_of ts p (less e S p) q ≤ less e S q
      own b =
          let n : less e S p ≡ lowered e p = omega (arith, less_next e S p b, has_all h p b, lowered_next e (taken ts) f.ready p b) in
          rw n (le_trans (f.knows.closed p q) (lowered-ready e (less e S) (back_enabled h) q))

      -- another: its event is an old one, which counts none of the event's processes beyond what was taken
      other : involved e p ≡ false → clock_of ts p (less e S p) q ≤ S q
      other b =
          rw (less_other e S p b)
          (rw (clock_old e ts p (S p) (omega (arith, c.within p, taken_other e ts p b)) q) at (c.closed p q))

      go : (involved e p ≡ true) ⊎ (involved e p ≡ false) → (involved e q ≡ true) ⊎ (involved e q ≡ false) → clock_of ts p (less e S p) q ≤ less e S q
      go (inl b) d = own b
      go (inr b) (inl d) = omega (arith, less_next e S q d, has_all h q d, clock_within ts cs p (less e S p) q)
      go (inr b) (inr d) = omega (arith, less_other e S q d, other b)

  back : ((q : ℕ) → count e q ≤ S q) → Advanced ts e S
  back h = record {
    from = less e S;
    consistent = record { within = back_within h; closed = back_closed h };
    enabled = back_enabled h;
    leads = sym (apply-less e S (λ p b. omega (arith, has_all h p b)));
  }

  -- a cut without the event is an old one
  without : ((p : ℕ) → involved e p ≡ true → S p ≡ suc (taken ts p) → ⊥) → Consistent ts S
  without h = consistent-within e ts S c (λ p. go p (taken_cases e ts p (S p) (c.within p)))
    where
      go : (p : ℕ) → (S p ≤ taken ts p) ⊎ ((involved e p ≡ true) × (S p ≡ suc (taken ts p))) → S p ≤ taken ts p
      go p (inl w) = w
      go p (inr n) = absurd (h p n.0 n.1)

  -- which of the two shows at any process of the event
  split : Consistent ts S ⊎ Advanced ts e S
  split = go f.occupied.0 (T_true _ f.occupied.1)
    where
      go : (o : ℕ) → involved e o ≡ true → Consistent ts S ⊎ Advanced ts e S
      go o b = ⊎_elim
          (λ w. inl (without (λ p d n. omega (arith, has-event p d n o, ready_next e (taken ts) f.ready o b))))
          (λ n. inr (back (has-event o b n.1)))
          (taken_cases e ts o (S o) (c.within o))

-- ---- Theorem
pub step : (e : Event) (ts : List Event) → Causal ts → Follows ts e → (S : Cut) → Consistent (e ∷ ts) S ↔ (Consistent ts S ⊎ Advanced ts e S)
step e ts cs f S = (split e ts cs f S, ⊎_elim (consistent-old e ts S) (λ a. rw a.leads (consistent-new e ts a.from f.ready a.consistent a.enabled)))

-- such an old cut has all taken events of the event's processes, so a window of the kept cuts has it
pub advanced-complete : (e : Event) (ts : List Event) (S : Cut) → Follows ts e → Ready e S → (p : ℕ) → involved e p ≡ true → S p ≡ taken ts p
advanced-complete e ts S f r p b = ready-same e S (taken ts) r f.ready p b
