-- What precedes a cut is found from the last events of the cut's processes.
use Rattle.std.specs.Prelude.{ℕ, ◌≤◌, ◌<◌, ◌≡◌, true, false, List, ◌⊎◌, ◌↔◌}
use Rattle.std.proofs.Common.{arith, sym, ap, ◌∙◌, inl, inr}
use Rattle.std.proofs.Math.Decide.{dec_lt}
use Rattle.std.proofs.Math.Option.{some}
use Rattle.clocks.specs.declared.Event.{Event}
use Rattle.clocks.specs.Event.{Cut, involved, count, apply, minus, less}
use Rattle.clocks.specs.cuts.EventLaws.{either, ready_i, ready_next, count_apply, apply_next, apply_other, apply_up, apply-less, less-apply, less_next, less_other, less-minus}
use Rattle.clocks.specs.History.{taken, event, clock_of, mask_of, Consistent, Precedes}
use Rattle.clocks.specs.Causal.{Causal}
use Rattle.clocks.specs.cuts.HistoryLaws.{event_exists, event_numbered}
use Rattle.clocks.specs.cuts.CausalLaws.{clock_some, mask_some, count-within, count-number, number_of, count_positive}
use Rattle.clocks.specs.cuts.Lattice.{clock_grows}

-- ---- a cut that something precedes is a consistent cut
pub precedes_consistent : (ts : List Event) → Causal ts → (S' S : Cut) → Precedes ts S' S → Consistent ts S
precedes_consistent ts c S' S h = rw h.leads (record { within = λ p. within p (either (involved e p)); closed = λ p q. closed p q (either (involved e p)) })
  where
    e : Event
    e = h.by

    within : (p : ℕ) → (involved e p ≡ true) ⊎ (involved e p ≡ false) → apply e S' p ≤ taken ts p
    within p (inl b) = omega (arith, apply_next e S' p b, ready_next e S' h.enabled p b, count-within ts c e h.among p)
    within p (inr b) = omega (arith, apply_other e S' p b, h.before.within p)

    closed : (p q : ℕ) → (involved e p ≡ true) ⊎ (involved e p ≡ false) → clock_of ts p (apply e S' p) q ≤ apply e S' q
    closed p q (inl b) =
        let n : apply e S' p ≡ count e p = omega (arith, apply_next e S' p b, ready_next e S' h.enabled p b) in
        rw (n, clock_some ts p (count e p) e (number_of ts c e h.among p b) q) (count_apply e S' h.enabled q)
    closed p q (inr b) = rw (apply_other e S' p b) (omega (arith, h.before.closed p q, apply_up e S' q))

-- ---- the last event of a process in the cut
-- the cut less that event precedes exactly if it is consistent
module _ (ts : List Event) (c : Causal ts) (S : Cut) (s : Consistent ts S) (p : ℕ) (f : Event) (h : event ts p (S p) ≡ some f) where
  known : (q : ℕ) → count f q ≤ S q
  known q = rw (clock_some ts p (S p) f h q) at (s.closed p q)

  -- where the rest still had a later event of one of f's processes, it would know of f and so have it
  last_of : Consistent ts (less f S) → (q : ℕ) → involved f q ≡ true → count f q ≡ S q
  last_of r q b = go (dec_lt (count f q) (S q))
    where
      n : count f p ≡ S p
      n = count-number ts c p (S p) f h

      t : involved f p ≡ true
      t = (event_numbered ts p (S p) f h).takes

      go : Dec (count f q < S q) → count f q ≡ S q
      go (no l) = omega (arith, known q)
      go (yes l) =
          let k : clock_of ts q (count f q) p ≤ clock_of ts q (less f S q) p =
          clock_grows ts c q (count f q) (less f S q) (omega (arith, less_next f S q b)) (r.within q) p in
          let g : clock_of ts q (count f q) p ≡ count f p =
          clock_some ts q (count f q) f (number_of ts c f (event_numbered ts p (S p) f h).among q b) p in
          absurd (omega (arith, n, r.closed q p, less_next f S p t, (event_numbered ts p (S p) f h).first))

  -- f is one of the events, so its counts at its own processes are above 0
  present : (q : ℕ) → involved f q ≡ true → 0 < S q
  present q b = omega (arith, known q, count_positive ts c f (event_numbered ts p (S p) f h).among q b)

  pub less_precedes : Precedes ts (less f S) S ↔ Consistent ts (less f S)
  less_precedes = ((λ k. k.before), back)
    where
      back : Consistent ts (less f S) → Precedes ts (less f S) S
      back r = record {
        before = r;
        by = f;
        among = (event_numbered ts p (S p) f h).among;
        enabled = ready_i f (less f S)
            (λ q b. omega (arith, last_of r q b, less_next f S q b, present q b))
            (λ q b. omega (arith, less_other f S q b, known q));
        leads = sym (apply-less f S present);
      }

-- ... said of the mask alone
pub mask_precedes : (ts : List Event) → Causal ts → (S : Cut) → Consistent ts S → (p : ℕ) → 0 < S p
    → Precedes ts (minus (mask_of ts p (S p)) S) S ↔ Consistent ts (minus (mask_of ts p (S p)) S)
mask_precedes ts c S s p h = go (event_exists ts p (S p) h (s.within p))
  where
    go : (f : Event) × (event ts p (S p) ≡ some f) → Precedes ts (minus (mask_of ts p (S p)) S) S ↔ Consistent ts (minus (mask_of ts p (S p)) S)
    go f =
        let m : minus (mask_of ts p (S p)) S ≡ less f.0 S = ap (λ (n : ℕ). minus n S) (mask_some ts p (S p) f.0 f.1) ∙ sym (less-minus f.0 S) in
        rw m (less_precedes ts c S s p f.0 f.1)

-- ... and nothing else precedes: the event that leads to a cut is the last one of each of its processes there
pub precedes_last : (ts : List Event) → Causal ts → (S' S : Cut) (h : Precedes ts S' S) → (p : ℕ) → involved h.by p ≡ true
    → (event ts p (S p) ≡ some h.by) × (S' ≡ less h.by S)
precedes_last ts c S' S h p b =
    let s : S p ≡ apply h.by S' p = ap (λ (R : Cut). R p) h.leads in
    let n : S p ≡ count h.by p = omega (arith, apply_next h.by S' p b, ready_next h.by S' h.enabled p b) in
    (rw n (number_of ts c h.by h.among p b), sym (less-apply h.by S') ∙ ap (less h.by) (sym h.leads))
