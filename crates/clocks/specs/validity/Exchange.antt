-- Exchange: two events without a common process, one taken right after the other, may be taken either way round exactly
-- if neither's clock counts the other (02 [2]); under any rule for valid clocks, and whatever was taken after them. The
-- two histories have the same events, and so the same counts, last clocks, consistent cuts and what precedes what
-- (cuts/SameEvents).
use Rattle.std.specs.Prelude.{ℕ, ◌≤◌, ◌≡◌, false, true, List, [], ◌∷◌, ◌++◌, ◌⊎◌, ◌↔◌}
use Rattle.std.proofs.Common.{arith, sym, ◌∙◌, true≢false, inl, inr, ⊎_elim}
use Rattle.std.proofs.Math.Decide.{dec_le}
use mathlib.Core.List.Memᴰ
use Rattle.clocks.specs.declared.Event.{Event}
use Rattle.clocks.specs.Apart.{Apart, Counts, NeitherCounts}
use Rattle.clocks.specs.History.{taken, In}
use Rattle.clocks.specs.Causal.{Causal}
use Rattle.clocks.specs.Event.{involved, count, Ready, lowered}
use Rattle.clocks.specs.Valid.{Takeable, History, ClockRule}
use Rattle.clocks.specs.cuts.EventLaws.{either, ready_next, ready_known, ready_i, lowered-ready}
use Rattle.clocks.specs.cuts.HistoryLaws.{taken_other, taken_up}
use Rattle.clocks.specs.cuts.Agree.{agree_sym, agree_old}
use Rattle.clocks.specs.cuts.SameEvents.{Same, same_taken, same_agree}
use Rattle.clocks.specs.validity.ClockRule.{history_causal}

-- ---- Laws
pub apart_sym : (e f : Event) → Apart e f → Apart f e
apart_sym e f a = record { none_common = λ p b. ⊎_elim (λ c. absurd (true≢false (sym b ∙ a.none_common p c))) (λ c. c) (either (involved e p)) }

-- the first of two does not count the second: it was ready without it
pub first-counts : (e f : Event) (ts : List Event) → Ready e (taken ts) → Ready f (taken (e ∷ ts)) → Apart e f → Counts e f → ⊥
first-counts e f ts r s a c =
    let p = c.0 in
    let b : involved e p ≡ false = (apart_sym e f a).none_common p c.1 in
    omega (arith, c.2, ready_known e (taken ts) r p b, ready_next f (taken (e ∷ ts)) s p c.1, taken_other e ts p b)

-- the second, not counting the first, was ready before it
second-ready : (e f : Event) (ts : List Event) → Ready e (taken ts) → Ready f (taken (e ∷ ts)) → Apart e f → (Counts f e → ⊥) → Ready f (taken ts)
second-ready e f ts r s a n = ready_i f (taken ts)
    (λ p b. let c : involved e p ≡ false = (apart_sym e f a).none_common p b in omega (arith, ready_next f (taken (e ∷ ts)) s p b, taken_other e ts p c))
    (λ p b. known p b (either (involved e p)) (dec_le (count e p) (count f p)))
  where
    known : (p : ℕ) → involved f p ≡ false → (involved e p ≡ true) ⊎ (involved e p ≡ false) → Dec (count e p ≤ count f p) → count f p ≤ taken ts p
    known p b (inl c) (yes l) = absurd (n (p, c, l))
    known p b (inl c) (no l) = omega (arith, ready_next e (taken ts) r p c)
    known p b (inr c) l = omega (arith, ready_known f (taken (e ∷ ts)) s p b, taken_other e ts p c)

-- the first is ready after the second
first-ready : (e f : Event) (ts : List Event) → Ready e (taken ts) → Apart e f → Ready e (taken (f ∷ ts))
first-ready e f ts r a = ready_i e (taken (f ∷ ts))
    (λ p b. omega (arith, ready_next e (taken ts) r p b, taken_other f ts p (a.none_common p b)))
    (λ p b. omega (arith, ready_known e (taken ts) r p b, taken_up f ts p))

pub swapped_same : (e f : Event) (ts : List Event) → Same (f ∷ e ∷ ts) (e ∷ f ∷ ts)
swapped_same e f ts = record { there = swap e f; back = swap f e }
  where
    swap : (e f x : Event) → In x (f ∷ e ∷ ts) → In x (e ∷ f ∷ ts)
    swap e f x m = go (Memᴰ.cases_cons m)
      where
        deep : (x ≡ e) ⊎ In x ts → In x (e ∷ f ∷ ts)
        deep (inl s) = Memᴰ.head s
        deep (inr k) = Memᴰ.tail (Memᴰ.tail k)

        go : (x ≡ f) ⊎ In x (e ∷ ts) → In x (e ∷ f ∷ ts)
        go (inl s) = Memᴰ.tail (Memᴰ.head s)
        go (inr k) = deep (Memᴰ.cases_cons k)

-- ---- Theorem: under any rule for valid clocks
-- the two orders have the same events (swapped_same), so SameEvents gives the same counts, last clocks, consistent cuts
-- and what precedes what
pub exchange : (k : ℕ) (valid : List Event → Event → Type 0) → ClockRule k valid → (e f : Event) (ts : List Event) → History k valid (f ∷ e ∷ ts) → Apart e f → (Counts f e → ⊥)
    → History k valid (e ∷ f ∷ ts)
exchange k valid r e f ts h a n =
    let fr : Ready f (taken ts) = second-ready e f ts h.1.0.ready h.0.ready a n in
    let er : Ready e (taken (f ∷ ts)) = first-ready e f ts h.1.0.ready a in
    let ft : Takeable k valid ts f = record {
      formed = h.0.formed;
      ready = fr;
      true_clock = r.local (e ∷ ts) ts f h.1 h.1.1 h.0.ready fr (agree_sym (agree_old e ts (lowered f) (lowered-ready f (taken ts) fr))) h.0.true_clock;
    } in
    let fh : History k valid (f ∷ ts) = (ft, h.1.1) in
    let et : Takeable k valid (f ∷ ts) e = record {
      formed = h.1.0.formed;
      ready = er;
      true_clock = r.local ts (f ∷ ts) e h.1.1 fh h.1.0.ready er (agree_old f ts (lowered e) (lowered-ready e (taken ts) h.1.0.ready)) h.1.0.true_clock;
    } in
    (et, fh)

-- ---- Whatever was taken after them

-- Lists with the same events have them still with others in front.
same_more : (u : Event) (ts ts' : List Event) → Same ts ts' → Same (u ∷ ts) (u ∷ ts')
same_more u ts ts' s = record {
  there = λ e m. more (s.there e) (Memᴰ.cases_cons m);
  back = λ e m. more (s.back e) (Memᴰ.cases_cons m);
}
  where
    more : {xs ys : List Event} {e : Event} → (In e xs → In e ys) → (e ≡ u) ⊎ In e xs → In e (u ∷ ys)
    more f (inl q) = Memᴰ.head q
    more f (inr m) = Memᴰ.tail (f m)

same_behind : (us ts ts' : List Event) → Same ts ts' → Same (us ++ ts) (us ++ ts')
same_behind [] ts ts' s = s
same_behind (u ∷ us) ts ts' s = same_more u (us ++ ts) (us ++ ts') (same_behind us ts ts' s)

module _ (k : ℕ) (valid : List Event → Event → Type 0) (r : ClockRule k valid) where
  -- what could be taken after a history can be taken after the same events in another order
  takeable_same : (u : Event) (ts ts' : List Event) → Same ts ts' → History k valid ts → History k valid ts'
      → Takeable k valid ts u → Takeable k valid ts' u
  takeable_same u ts ts' s h h' t = record {
    formed = t.formed;
    ready = ready;
    true_clock = r.local ts ts' u h h' t.ready ready (same_agree ts ts' c c' s (lowered u)) t.true_clock;
  }
    where
      c : Causal ts
      c = history_causal k valid r ts h

      c' : Causal ts'
      c' = history_causal k valid r ts' h'

      ready : Ready u (taken ts')
      ready = rw (← same_taken ts ts' c c' s) t.ready

  carried : (us ts ts' : List Event) → Same ts ts' → History k valid (us ++ ts) → History k valid ts'
      → History k valid (us ++ ts')
  carried [] ts ts' s h h' = h'
  carried (u ∷ us) ts ts' s h h' =
      let rest = carried us ts ts' s h.1 h' in
      (takeable_same u (us ++ ts) (us ++ ts') (same_behind us ts ts' s) h.1 rest h.0, rest)

  earlier : (us ts : List Event) → History k valid (us ++ ts) → History k valid ts
  earlier [] ts h = h
  earlier (u ∷ us) ts h = earlier us ts h.1

  -- ---- Theorem
  pub exchange_exactly : (us : List Event) (e f : Event) (ts : List Event) → History k valid (us ++ (f ∷ e ∷ ts))
      → Apart e f
      → History k valid (us ++ (e ∷ f ∷ ts)) ↔ NeitherCounts e f
  exchange_exactly us e f ts h a =
      (there, λ n. carried us (f ∷ e ∷ ts) (e ∷ f ∷ ts) (swapped_same e f ts) h (exchange k valid r e f ts ef a n.1))
    where
      ef : History k valid (f ∷ e ∷ ts)
      ef = earlier us (f ∷ e ∷ ts) h

      there : History k valid (us ++ (e ∷ f ∷ ts)) → NeitherCounts e f
      there g =
          let fe = earlier us (e ∷ f ∷ ts) g in (
            first-counts e f ts ef.1.0.ready ef.0.ready a,
            first-counts f e ts fe.1.0.ready fe.0.ready (apart_sym e f a),
          )
