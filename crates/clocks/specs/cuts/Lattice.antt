-- The consistent cuts are a lattice: zeros, count-by-count maximum and minimum; an event's clock is one of them; clocks
-- grow along a process.
use Rattle.std.specs.Prelude.{ℕ, suc, ◌≤◌, min, max, ◌≡◌, refl, true, List, [], ◌∷◌, ◌⊎◌}
use Rattle.std.proofs.Common.{arith, sym, subst, ◌∙◌, inl, inr}
use Rattle.std.proofs.Math.Decide.{dec_le}
use Rattle.std.proofs.Math.Path.{fun_ext}
use Rattle.std.proofs.Math.Option.{Option, none, some}
use Rattle.clocks.specs.declared.Event.{Event}
use Rattle.clocks.specs.Event.{Cut, involved, count, Ready, apply, less, lowered}
use Rattle.clocks.specs.Bounds.{zeros, upper, lower}
use Rattle.clocks.specs.cuts.EventLaws.{ready_i, ready_next, lowered_next, less_next, less_other, apply-less, lowered-count}
use Rattle.clocks.specs.History.{taken, event, clock_of, Consistent}
use Rattle.clocks.specs.Causal.{Follows, Causal}
use Rattle.clocks.specs.cuts.HistoryLaws.{After, new, old, after, event-zero, event_next, taken_cases}
use Rattle.clocks.specs.cuts.CausalLaws.{clock_some, clock_none, clock_within}
use Rattle.clocks.specs.cuts.Step.{clock_old, consistent-old, consistent-new}

-- ---- zeros

pub clock_zero : (ts : List Event) (p q : ℕ) → clock_of ts p 0 q ≡ 0
clock_zero ts p q = clock_none ts p 0 (event-zero ts p) q

pub zeros-consistent : (ts : List Event) → Consistent ts zeros
zeros-consistent ts = record { within = λ p. omega arith; closed = λ p q. omega (arith, clock_zero ts p q) }

-- ---- an event's clock
-- an event that followed a history is enabled at what it knows of, and leads to its own clock from there
pub own_enabled : (e : Event) (ts : List Event) → Follows ts e → Ready e (lowered e)
unfolding lowered
own_enabled e ts f = ready_i e (less e (count e))
    (λ p b. omega (arith, less_next e (count e) p b, ready_next e (taken ts) f.ready p b))
    (λ p b. omega (arith, less_other e (count e) p b))

pub own_leads : (e : Event) (ts : List Event) → Follows ts e → apply e (lowered e) ≡ count e
unfolding lowered
own_leads e ts f = apply-less e (count e) (λ p b. omega (arith, ready_next e (taken ts) f.ready p b))

pub count-consistent : (ts : List Event) → Causal ts → (p n : ℕ) (f : Event) → event ts p n ≡ some f → Consistent ts (count f)
unfolding event
count-consistent [] c p n f h = let z : ◌≡◌ {A = ℕ} 0 1 = cc in absurd (omega arith)
count-consistent (e ∷ ts) c p n f h = go (after e ts p n) (λ k. count-consistent ts c.1 p n f k)
  where
    go : After e ts p n → (event ts p n ≡ some f → Consistent ts (count f)) → Consistent (e ∷ ts) (count f)
    go (new b q s) r =
        let t : f ≡ e = cc in
        rw (t, ← own_leads e ts c.0) (consistent-new e ts (lowered e) c.0.ready c.0.knows (own_enabled e ts c.0))
    go (old s) r = consistent-old e ts (count f) (r (sym s ∙ h))

pub clock_consistent : (ts : List Event) → Causal ts → (p n : ℕ) → Consistent ts (clock_of ts p n)
clock_consistent ts c p n = go (event ts p n) refl
  where
    go : (o : Option Event) → event ts p n ≡ o → Consistent ts (clock_of ts p n)
    go none h = subst (Consistent ts) (sym (fun_ext (clock_none ts p n h))) (zeros-consistent ts)
    go (some f) h = subst (Consistent ts) (sym (fun_ext (clock_some ts p n f h))) (count-consistent ts c p n f h)

-- ---- clocks grow along a process
pub clock_grows : (ts : List Event) → Causal ts → (p m n : ℕ) → m ≤ n → n ≤ taken ts p → (q : ℕ) → clock_of ts p m q ≤ clock_of ts p n q
unfolding taken
clock_grows [] c p m n h k q = let z : m ≡ n = omega arith in rw z (omega arith)
clock_grows (e ∷ ts) c p m n h k q = go (taken_cases e ts p n k) (taken_cases e ts p m (omega arith)) (λ m' n' h' k'. clock_grows ts c.1 p m' n' h' k' q)
  where
    go : (n ≤ taken ts p) ⊎ ((involved e p ≡ true) × (n ≡ suc (taken ts p))) → (m ≤ taken ts p) ⊎ ((involved e p ≡ true) × (m ≡ suc (taken ts p)))
        → ((m' n' : ℕ) → m' ≤ n' → n' ≤ taken ts p → clock_of ts p m' q ≤ clock_of ts p n' q) → clock_of (e ∷ ts) p m q ≤ clock_of (e ∷ ts) p n q
    go (inl j) i r = rw (clock_old e ts p m (omega arith) q, clock_old e ts p n j q) (r m n h j)
    go (inr j) (inr i) r = let z : m ≡ n = omega (arith, j.1, i.1) in rw z (omega arith)
    -- the new event knows of the last old one
    go (inr j) (inl i) r =
        let l : lowered e p ≡ taken ts p = lowered_next e (taken ts) c.0.ready p j.0 in
        let last : clock_of ts p (taken ts p) q ≤ lowered e q = rw l at (c.0.knows.closed p q) in
        rw (clock_old e ts p m i q, j.1, clock_some (e ∷ ts) p (suc (taken ts p)) e (event_next e ts p j.0) q)
        (omega (arith, r m (taken ts p) i (omega arith), last, lowered-count e q))

-- ---- maximum and minimum, count by count

pub upper-consistent : (ts : List Event) (S R : Cut) → Consistent ts S → Consistent ts R → Consistent ts (upper S R)
upper-consistent ts S R s r = record { within = λ p. omega (arith, s.within p, r.within p); closed = λ p q. go p q (dec_le (S p) (R p)) }
  where
    go : (p q : ℕ) → Dec (S p ≤ R p) → clock_of ts p (max (S p) (R p)) q ≤ max (S q) (R q)
    go p q (yes h) = let z : max (S p) (R p) ≡ R p = omega arith in rw z (omega (arith, r.closed p q))
    go p q (no h) = let z : max (S p) (R p) ≡ S p = omega arith in rw z (omega (arith, s.closed p q))

pub lower-consistent : (ts : List Event) → Causal ts → (S R : Cut) → Consistent ts S → Consistent ts R → Consistent ts (lower S R)
lower-consistent ts c S R s r = record { within = λ p. omega (arith, s.within p); closed = λ p q. go p q (dec_le (S p) (R p)) }
  where
    go : (p q : ℕ) → Dec (S p ≤ R p) → clock_of ts p (min (S p) (R p)) q ≤ min (S q) (R q)
    go p q (yes h) =
        let z : min (S p) (R p) ≡ S p = omega arith in
        rw z (omega (arith, s.closed p q, r.closed p q, clock_grows ts c p (S p) (R p) h (r.within p) q))
    go p q (no h) =
        let z : min (S p) (R p) ≡ R p = omega arith in
        rw z (omega (arith, s.closed p q, r.closed p q, clock_grows ts c p (R p) (S p) (omega arith) (s.within p) q))

-- ---- the largest cut
pub taken-consistent : (ts : List Event) → Causal ts → Consistent ts (taken ts)
taken-consistent ts c = record { within = λ p. omega arith; closed = λ p q. clock_within ts c p (taken ts p) q }
