-- The events of a history by process and number: which there are, and what one more event changes.
use Rattle.std.specs.Prelude.{ℕ, suc, ◌≤◌, ◌<◌, ◌≡◌, refl, true, false, List, [], ◌∷◌, ◌++◌, ◌⊎◌, eqb}
use Rattle.std.proofs.Common.{arith, sym, ◌∙◌, inl, inr, ⊎_elim, eq-eqb, ne_eqb, eqb-true}
use Rattle.std.proofs.Math.Decide.{dec_lt}
use mathlib.Core.List.Memᴰ
use Rattle.std.proofs.Math.Option.{none, some}
use Rattle.clocks.specs.declared.Event.{Event}
use Rattle.clocks.specs.Event.{involved}
use Rattle.clocks.specs.cuts.EventLaws.{either}
use Rattle.clocks.specs.History.{taken, is_number, event, In}

-- ---- one more event: its processes have one event more, and that event is it
pub taken_next : (e : Event) (ts : List Event) (p : ℕ) → involved e p ≡ true → taken (e ∷ ts) p ≡ suc (taken ts p)
unfolding taken
taken_next e ts p b = rw b (omega arith)

pub taken_other : (e : Event) (ts : List Event) (p : ℕ) → involved e p ≡ false → taken (e ∷ ts) p ≡ taken ts p
unfolding taken
taken_other e ts p b = rw b (omega arith)

pub taken_up : (e : Event) (ts : List Event) (p : ℕ) → taken ts p ≤ taken (e ∷ ts) p
unfolding taken
taken_up e ts p = omega arith

pub taken_later : (us ts : List Event) (p : ℕ) → taken ts p ≤ taken (us ++ ts) p
taken_later [] ts p = omega arith
taken_later (e ∷ us) ts p = omega (arith, taken_later us ts p, taken_up e (us ++ ts) p)

pub taken_step : (e : Event) (ts : List Event) (p : ℕ) → taken (e ∷ ts) p ≤ suc (taken ts p)
taken_step e ts p = ⊎_elim (λ b. omega (arith, taken_next e ts p b)) (λ b. omega (arith, taken_other e ts p b)) (either (involved e p))

pub event_next : (e : Event) (ts : List Event) (p : ℕ) → involved e p ≡ true → event (e ∷ ts) p (suc (taken ts p)) ≡ some e
unfolding event is_number
event_next e ts p b = rw (b, eq-eqb (suc (taken ts p)) (suc (taken ts p)) refl)

pub event_other : (e : Event) (ts : List Event) (p n : ℕ) → involved e p ≡ false → event (e ∷ ts) p n ≡ event ts p n
unfolding event is_number
event_other e ts p n b = rw b

pub event-old : (e : Event) (ts : List Event) (p n : ℕ) → n ≤ taken ts p → event (e ∷ ts) p n ≡ event ts p n
unfolding event is_number
event-old e ts p n h = ⊎_elim (λ b. rw (b, ne_eqb n (suc (taken ts p)) (λ q. omega arith))) (λ b. rw b) (either (involved e p))

-- event number n of a process after one more event: that event, or what it was
pub data After (e : Event) (ts : List Event) (p n : ℕ) : Type 0 where
  new : involved e p ≡ true → n ≡ suc (taken ts p) → event (e ∷ ts) p n ≡ some e → After e ts p n
  old : event (e ∷ ts) p n ≡ event ts p n → After e ts p n

pub after : (e : Event) (ts : List Event) (p n : ℕ) → After e ts p n
unfolding event is_number
after e ts p n = go (either (involved e p)) (either (eqb n (suc (taken ts p))))
  where
    go : (involved e p ≡ true) ⊎ (involved e p ≡ false) → (eqb n (suc (taken ts p)) ≡ true) ⊎ (eqb n (suc (taken ts p)) ≡ false) → After e ts p n
    go (inr b) q = old (event_other e ts p n b)
    go (inl b) (inl q) = new b (eqb-true n (suc (taken ts p)) q) (rw (b, q))
    go (inl b) (inr q) = old (rw (b, q))

-- ---- which events there are: number n of a process from 1 up to its taken count
pub event_beyond : (ts : List Event) (p n : ℕ) → taken ts p < n → event ts p n ≡ none
unfolding event
event_beyond [] p n h = refl
event_beyond (e ∷ ts) p n h = go (event_beyond ts p n (omega (arith, taken_up e ts p))) (after e ts p n)
  where
    go : event ts p n ≡ none → After e ts p n → event (e ∷ ts) p n ≡ none
    go r (new b q c) = absurd (omega (arith, taken_next e ts p b))
    go r (old c) = c ∙ r

pub event-zero : (ts : List Event) (p : ℕ) → event ts p 0 ≡ none
unfolding event
event-zero [] p = refl
event-zero (e ∷ ts) p = event-old e ts p 0 (omega arith) ∙ event-zero ts p

-- a number up to the taken count is an old one, or the new event's
pub taken_cases : (e : Event) (ts : List Event) (p n : ℕ) → n ≤ taken (e ∷ ts) p → (n ≤ taken ts p) ⊎ ((involved e p ≡ true) × (n ≡ suc (taken ts p)))
taken_cases e ts p n h = go (either (involved e p)) (dec_lt (taken ts p) n)
  where
    go : (involved e p ≡ true) ⊎ (involved e p ≡ false) → Dec (taken ts p < n) → (n ≤ taken ts p) ⊎ ((involved e p ≡ true) × (n ≡ suc (taken ts p)))
    go (inl b) (yes l) = inr (b, omega (arith, taken_next e ts p b))
    go (inl b) (no l) = inl (omega arith)
    go (inr b) d = inl (omega (arith, taken_other e ts p b))

pub event_exists : (ts : List Event) (p n : ℕ) → 0 < n → n ≤ taken ts p → (f : Event) × (event ts p n ≡ some f)
unfolding taken
event_exists [] p n h k = absurd (omega arith)
event_exists (e ∷ ts) p n h k = go (taken_cases e ts p n k) (λ j. event_exists ts p n h j)
  where
    go : (n ≤ taken ts p) ⊎ ((involved e p ≡ true) × (n ≡ suc (taken ts p))) → (n ≤ taken ts p → (f : Event) × (event ts p n ≡ some f)) → (f : Event) × (event (e ∷ ts) p n ≡ some f)
    go (inl j) r = let f = r j in (f.0, event-old e ts p n j ∙ f.1)
    go (inr c) r = (e, rw c.1 (event_next e ts p c.0))

-- what there is to know of process p's event number n, whatever the history
pub record Numbered (ts : List Event) (p n : ℕ) (f : Event) : Type 0 where
  pub among : In f ts
  pub takes : involved f p ≡ true
  pub first : 0 < n
  pub within : n ≤ taken ts p

pub event_numbered : (ts : List Event) (p n : ℕ) (f : Event) → event ts p n ≡ some f → Numbered ts p n f
unfolding event
event_numbered [] p n f h = let z : ◌≡◌ {A = ℕ} 0 1 = cc in absurd (omega arith)
event_numbered (e ∷ ts) p n f h = go (after e ts p n) (λ k. event_numbered ts p n f k)
  where
    go : After e ts p n → (event ts p n ≡ some f → Numbered ts p n f) → Numbered (e ∷ ts) p n f
    go (new b q c) r = let s : f ≡ e = cc in record { among = Memᴰ.head s; takes = rw s b; first = omega arith; within = omega (arith, taken_next e ts p b) }
    go (old c) r = let o = r (sym c ∙ h) in record { among = Memᴰ.tail o.among; takes = o.takes; first = o.first; within = omega (arith, o.within, taken_up e ts p) }
