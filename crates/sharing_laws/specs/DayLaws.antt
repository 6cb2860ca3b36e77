-- The events of a day, process by process, are a history in their order; each is of a single process without messages,
-- and each process has as many as the sharing says.
use Prim.Native.Nat.{ℕ, zero, suc, ◌+◌, ◌≤◌, ◌<◌}
use Rattle.std.proofs.Math.Decide.{dec_lt, ℕ_discrete}
use Rattle.std.proofs.Common.{arith, sym, ap, ◌∙◌, true≢false, ⊎_elim, length-append, eq-eqb, ne_eqb}
use Rattle.std.specs.Prelude.{◌≡◌, refl, true, false, ◌≢◌, eqb}
use Rattle.std.proofs.Math.Bool.{cond}
use mathlib.Core.List.Memᴰ
use mathlib.Core.List.{List, [], ◌∷◌, ◌++◌, reverse, reverse-append, Memᴰ}
use Rattle.std.proofs.Math.ListN.{length}
use Rattle.codec.specs.BitLaws.{bit_power, bit_power_other}
use Rattle.clocks.specs.declared.Event.{Event}
use Rattle.clocks.specs.Event.{involved, count, Ready}
use Rattle.clocks.specs.History.{taken}
use Rattle.clocks.specs.Valid.{Known, Takeable, History}
use Rattle.clocks.specs.Counts.{at, list_of}
use Rattle.clocks.specs.cuts.EventLaws.{true-T, ready_i, lowered-ready}
use Rattle.clocks.specs.cuts.HistoryLaws.{taken_next, taken_other}
use Rattle.clocks.specs.stored.CountsLaws.{at-list_of, at_beyond, length-list_of, get_d_list_of}
use Rattle.clocks.specs.validity.ClockRule.{history_causal}
use Rattle.clocks.specs.validity.KnownClock.{known_rule}
use Rattle.frontiers.specs.ListLaws.{list_of_more, member_place}
use Rattle.call_busiest.specs.Sharing.{total}
use Rattle.call_busiest.specs.SharingLaws.{total_next}
use Rattle.call_busiest.specs.Busiest.{single, singles, day}
use Rattle.sharing_laws.specs.Alone.{Alone, AllAlone}
use Rattle.sharing_laws.specs.AloneLaws.{alone_consistent}

-- ---- One event

module _ (p n : ℕ) where
  single-takes : involved (single p n) p ≡ true
  unfolding involved single
  single-takes = bit_power p

  single_other : (q : ℕ) → q ≢ p → involved (single p n) q ≡ false
  unfolding involved single
  single_other q h = bit_power_other p q h

  module _ (l : p < 8) where
    single-count : count (single p n) p ≡ n
    unfolding count single
    single-count = at-list_of 8 (λ q. cond (eqb q p) n 0) p l ∙ rw (eq-eqb p p refl)

    single-silent : (q : ℕ) → q ≢ p → count (single p n) q ≡ 0
    unfolding count single
    single-silent q h = go (dec_lt q 8)
      where
        go : Dec (q < 8) → at (list_of 8 (λ r. cond (eqb r p) n 0)) q ≡ 0
        go (yes k) = at-list_of 8 (λ r. cond (eqb r p) n 0) q k ∙ rw (ne_eqb q p h)
        go (no k) =
            let f : ℕ → ℕ = λ r. cond (eqb r p) n 0 in
            let beyond : length (list_of 8 f) ≤ q = omega (arith, length-list_of 8 f) in
            at_beyond (list_of 8 f) q beyond

    -- No count is above its number.
    pub single_most : (q : ℕ) → count (single p n) q ≤ n
    single_most q = go (ℕ_discrete q p)
      where
        go : Dec (q ≡ p) → count (single p n) q ≤ n
        go (yes e) = rw e (omega (arith, single-count))
        go (no e) = omega (arith, single-silent q e)

    pub single_alone : Alone (single p n)
    single_alone = record {
      process = p;
      takes_part = single-takes;
      no_other = single_other;
      knows_none = single-silent;
    }

-- ---- The events of one process, newest first, after others

past : ℕ → ℕ → List Event → List Event
past p zero ts = ts
past p (suc n) ts = single p (suc n) ∷ past p n ts

past_own : (p n : ℕ) (ts : List Event) → taken (past p n ts) p ≡ n + taken ts p
unfolding past
past_own p zero ts = omega arith
past_own p (suc n) ts =
    omega (arith, taken_next (single p (suc n)) (past p n ts) p (single-takes p (suc n)), past_own p n ts)

past_other : (p n : ℕ) (ts : List Event) (q : ℕ) → q ≢ p → taken (past p n ts) q ≡ taken ts q
unfolding past
past_other p zero ts q h = refl
past_other p (suc n) ts q h =
    taken_other (single p (suc n)) (past p n ts) q (single_other p (suc n) q h) ∙ past_other p n ts q h

past_alone : (p n : ℕ) → p < 8 → (ts : List Event) → AllAlone ts → AllAlone (past p n ts)
unfolding past
past_alone p zero l ts a e m = a e m
past_alone p (suc n) l ts a e m =
    ⊎_elim (λ q. rw q (single_alone p (suc n) l)) (past_alone p n l ts a e) (Memᴰ.cases_cons m)

-- The next one may be taken.
next_takeable : (k p n : ℕ) → p < k → k ≤ 8 → (ts : List Event) → History k Known ts → AllAlone ts → taken ts p ≡ n
    → Takeable k Known ts (single p (suc n))
next_takeable k p n l few ts h a e = record {
  formed = record {
    occupied = (p, true-T (single-takes p (suc n)));
    below = λ q b. single_other p (suc n) q (omega arith);
    silent = λ q b. single-silent p (suc n) (omega arith) q (omega arith);
  };
  ready = ready;
  true_clock =
      alone_consistent ts (history_causal k Known (known_rule k) ts h) a _
      (lowered-ready (single p (suc n)) (taken ts) ready);
}
  where
    own : (q : ℕ) → involved (single p (suc n)) q ≡ true → count (single p (suc n)) q ≡ taken ts q + 1
    own q b = go (ℕ_discrete q p)
      where
        go : Dec (q ≡ p) → count (single p (suc n)) q ≡ taken ts q + 1
        go (yes s) = rw s (omega (arith, single-count p (suc n) (omega arith)))
        go (no s) = absurd (true≢false (sym b ∙ single_other p (suc n) q s))

    ready : Ready (single p (suc n)) (taken ts)
    ready = ready_i (single p (suc n)) (taken ts) own
        (λ q b. let other : q ≢ p = λ s. true≢false (sym (rw s (single-takes p (suc n))) ∙ b) in
        omega (arith, single-silent p (suc n) (omega arith) q other))

past_history : (k p n : ℕ) → p < k → k ≤ 8 → (ts : List Event) → History k Known ts → AllAlone ts → taken ts p ≡ 0
    → History k Known (past p n ts)
unfolding past
past_history k p zero l few ts h a e = h
past_history k p (suc n) l few ts h a e =
    let before = past_history k p n l few ts h a e in (
      next_takeable k p n l few (past p n ts) before (past_alone p n (omega arith) ts a)
          (omega (arith, past_own p n ts)),
      before,
    )

-- ---- The day

-- Newest first: what the list is, turned round.
day_back : (ℕ → ℕ) → ℕ → List Event
day_back f zero = []
day_back f (suc p) = past p (f p) (day_back f p)

past_reverse : (p n : ℕ) (ts : List Event) → past p n ts ≡ reverse (singles p n) ++ ts
unfolding past singles list_of
past_reverse p zero ts = refl
past_reverse p (suc n) ts =
    ap (λ (us : List Event). single p (suc n) ∷ us) (past_reverse p n ts)
    ∙ sym (ap (λ (us : List Event). reverse us ++ ts) (list_of_more n (λ i. single p (suc i)))
    ∙ ap (λ (us : List Event). us ++ ts) (reverse-append (singles p n) (single p (suc n) ∷ [])))

back_is : (f : ℕ → ℕ) (k : ℕ) → day_back f k ≡ reverse (day f k)
unfolding day_back day
back_is f zero = refl
back_is f (suc p) =
    past_reverse p (f p) (day_back f p)
    ∙ ap (λ (us : List Event). reverse (singles p (f p)) ++ us) (back_is f p)
    ∙ sym (reverse-append (day f p) (singles p (f p)))

back_beyond : (f : ℕ → ℕ) (k p : ℕ) → k ≤ p → taken (day_back f k) p ≡ 0
unfolding day_back taken
back_beyond f zero p l = refl
back_beyond f (suc k) p l =
    past_other k (f k) (day_back f k) p (λ e. omega arith) ∙ back_beyond f k p (omega arith)

back_taken : (f : ℕ → ℕ) (k p : ℕ) → p < k → taken (day_back f k) p ≡ f p
unfolding day_back
back_taken f zero p l = absurd (omega arith)
back_taken f (suc k) p l = go (ℕ_discrete p k) (back_taken f k p)
  where
    go : Dec (p ≡ k) → (p < k → taken (day_back f k) p ≡ f p) → taken (past k (f k) (day_back f k)) p ≡ f p
    go (yes e) r = rw e (omega (arith, past_own k (f k) (day_back f k), back_beyond f k k (omega arith)))
    go (no e) r = past_other k (f k) (day_back f k) p e ∙ r (omega arith)

back_alone : (f : ℕ → ℕ) (k : ℕ) → k ≤ 8 → AllAlone (day_back f k)
unfolding day_back
back_alone f zero few e m = absurd (Memᴰ.not-nil m)
back_alone f (suc p) few e m = past_alone p (f p) (omega arith) (day_back f p) (back_alone f p (omega arith)) e m

back_history : (k : ℕ) → k ≤ 8 → (f : ℕ → ℕ) (m : ℕ) → m ≤ k → History k Known (day_back f m)
unfolding day_back
back_history k few f zero l = tt
back_history k few f (suc p) l =
    past_history k p (f p) l few (day_back f p) (back_history k few f p (omega arith)) (back_alone f p (omega arith))
    (back_beyond f p p (omega arith))

-- ---- Theorems

module _ (k : ℕ) (few : k ≤ 8) (f : ℕ → ℕ) where
  pub day_history : History k Known (reverse (day f k))
  day_history = rw (← back_is f k) (back_history k few f k (omega arith))

  pub day_alone : AllAlone (reverse (day f k))
  day_alone = rw (← back_is f k) (back_alone f k few)

  pub day_taken : (p : ℕ) → p < k → taken (reverse (day f k)) p ≡ f p
  day_taken p l = rw (← back_is f k) (back_taken f k p l)

-- ---- Its members

length-singles : (p n : ℕ) → length (singles p n) ≡ n
unfolding singles
length-singles p n = length-list_of n (λ i. single p (suc i))

pub length-day : (f : ℕ → ℕ) (k : ℕ) → length (day f k) ≡ total (list_of k f)
unfolding day total list_of
length-day f zero = refl
length-day f (suc k) =
    length-append (day f k) (singles k (f k)) ∙ omega (arith, length-day f k, length-singles k (f k), total_next f k)

-- Each is one of its process's.
pub day_member : (f : ℕ → ℕ) (k : ℕ) (e : Event) → Memᴰ e (day f k)
    → (p : ℕ) × (i : ℕ) × (p < k) × (i < f p) × (e ≡ single p (suc i))
unfolding day singles
day_member f zero e m = absurd (Memᴰ.not-nil m)
day_member f (suc k) e m =
    ⊎_elim (λ a. let r = day_member f k e a in (r.0, r.1, omega (arith, r.2), r.3, r.4))
    (λ b.
    let r = member_place (singles k (f k)) e e b in
    let l : r.0 < f k = omega (arith, r.1, length-singles k (f k)) in
    (k, r.0, omega arith, l, sym r.2 ∙ get_d_list_of (f k) (λ i. single k (suc i)) r.0 e l))
    (Memᴰ.append_cases (day f k) m)
