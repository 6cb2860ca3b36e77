-- Clocks in a causal history: they stay within the taken counts, and a process and a count determine the event.
use Rattle.std.specs.Prelude.{ℕ, suc, ◌≤◌, ◌<◌, ◌≡◌, refl, true, List, [], ◌∷◌, ◌⊎◌}
use Rattle.std.proofs.Common.{arith, sym, ◌∙◌, inl, inr}
use mathlib.Core.List.Memᴰ
use Rattle.std.proofs.Math.Option.{Option, none, some}
use Rattle.clocks.specs.declared.Event.{Event}
use Rattle.clocks.specs.Event.{involved, count, apply}
use Rattle.clocks.specs.cuts.EventLaws.{T_true, ready_next, count_apply}
use Rattle.clocks.specs.History.{taken, event, of_event, clock_of, mask_of, In}
use Rattle.clocks.specs.Causal.{Causal}
use Rattle.clocks.specs.cuts.HistoryLaws.{taken_up, event_next, event-old, After, new, old, after, event_numbered}

-- ---- the clock of an event that is there, or missing
pub clock_some : (ts : List Event) (p n : ℕ) (f : Event) → event ts p n ≡ some f → (q : ℕ) → clock_of ts p n q ≡ count f q
unfolding clock_of
clock_some ts p n f h q = rw h

pub mask_some : (ts : List Event) (p n : ℕ) (f : Event) → event ts p n ≡ some f → mask_of ts p n ≡ f.mask
unfolding mask_of
mask_some ts p n f h = rw h

pub clock_none : (ts : List Event) (p n : ℕ) → event ts p n ≡ none → (q : ℕ) → clock_of ts p n q ≡ 0
unfolding clock_of
clock_none ts p n h q = rw h

-- two histories with one event there have one clock there
pub clock_same : (ts us : List Event) (p n : ℕ) → event ts p n ≡ event us p n → (q : ℕ) → clock_of ts p n q ≡ clock_of us p n q
unfolding clock_of
clock_same ts us p n h q = rw h

-- ---- within the taken counts
pub count-within : (ts : List Event) → Causal ts → (f : Event) → In f ts → (q : ℕ) → count f q ≤ taken ts q
unfolding taken apply
count-within [] c f m q = absurd (Memᴰ.not-nil m)
count-within (e ∷ ts) c f m q = go (Memᴰ.cases_cons m) (λ k. count-within ts c.1 f k q)
  where
    go : (f ≡ e) ⊎ In f ts → (In f ts → count f q ≤ taken ts q) → count f q ≤ taken (e ∷ ts) q
    go (inl s) r = rw s (count_apply e (taken ts) c.0.ready q)
    go (inr k) r = omega (arith, r k, taken_up e ts q)

-- what is known of a clock is known where the event is there, and where it is missing
pub clock_cases : (P : ℕ → Type 0) (ts : List Event) (p n q : ℕ) → P 0 → ((f : Event) → event ts p n ≡ some f → P (count f q)) → P (clock_of ts p n q)
unfolding clock_of
clock_cases P ts p n q z s = go (event ts p n) s
  where
    go : (o : Option Event) → ((f : Event) → o ≡ some f → P (count f q)) → P (of_event 0 (λ f. count f q) o)
    go none s = z
    go (some f) s = s f refl

pub clock_within : (ts : List Event) → Causal ts → (p n q : ℕ) → clock_of ts p n q ≤ taken ts q
clock_within ts c p n q = clock_cases (λ x. x ≤ taken ts q) ts p n q (omega arith) (λ f h. count-within ts c f (event_numbered ts p n f h).among q)

-- ---- a process and a count determine the event
pub count-number : (ts : List Event) → Causal ts → (p n : ℕ) (f : Event) → event ts p n ≡ some f → count f p ≡ n
unfolding event
count-number [] c p n f h = let z : ◌≡◌ {A = ℕ} 0 1 = cc in absurd (omega arith)
count-number (e ∷ ts) c p n f h = go (after e ts p n) (λ k. count-number ts c.1 p n f k)
  where
    go : After e ts p n → (event ts p n ≡ some f → count f p ≡ n) → count f p ≡ n
    go (new b q s) r = let t : f ≡ e = cc in rw t (omega (arith, ready_next e (taken ts) c.0.ready p b))
    go (old s) r = r (sym s ∙ h)

pub number_of : (ts : List Event) → Causal ts → (f : Event) → In f ts → (p : ℕ) → involved f p ≡ true → event ts p (count f p) ≡ some f
number_of [] c f m p b = absurd (Memᴰ.not-nil m)
number_of (e ∷ ts) c f m p b = go (Memᴰ.cases_cons m) (λ k. number_of ts c.1 f k p b)
  where
    go : (f ≡ e) ⊎ In f ts → (In f ts → event ts p (count f p) ≡ some f) → event (e ∷ ts) p (count f p) ≡ some f
    go (inl s) r =
        let b' : involved e p ≡ true = rw s at b in
        let n : count e p ≡ suc (taken ts p) = omega (arith, ready_next e (taken ts) c.0.ready p b') in
        rw (s, n) (event_next e ts p b')
    go (inr k) r = event-old e ts p (count f p) (count-within ts c.1 f k p) ∙ r k

pub count_positive : (ts : List Event) → Causal ts → (f : Event) → In f ts → (p : ℕ) → involved f p ≡ true → 0 < count f p
count_positive ts c f m p b = (event_numbered ts p (count f p) f (number_of ts c f m p b)).first

pub in_occupied : (ts : List Event) → Causal ts → (f : Event) → In f ts → (p : ℕ) × (involved f p ≡ true)
in_occupied [] c f m = absurd (Memᴰ.not-nil m)
in_occupied (e ∷ ts) c f m = go (Memᴰ.cases_cons m) (λ k. in_occupied ts c.1 f k)
  where
    go : (f ≡ e) ⊎ In f ts → (In f ts → (p : ℕ) × (involved f p ≡ true)) → (p : ℕ) × (involved f p ≡ true)
    go (inl s) r = let o = c.0.occupied in (o.0, rw s (T_true (involved e o.0) o.1))
    go (inr k) r = r k

pub event_unique : (ts : List Event) → Causal ts → (e f : Event) → In e ts → In f ts → (p : ℕ) → involved e p ≡ true → involved f p ≡ true → count e p ≡ count f p → e ≡ f
event_unique ts c e f m k p a b h =
    let s : event ts p (count e p) ≡ some e = number_of ts c e m p a in
    let t : event ts p (count f p) ≡ some f = number_of ts c f k p b in
    cc
