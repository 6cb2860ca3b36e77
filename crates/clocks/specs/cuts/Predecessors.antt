-- The list of predecessors has exactly the cuts that precede.

use Rattle.std.specs.Prelude.{ℕ, ◌≤◌, ◌<◌, ◌≡◌, refl, true, false, cond, ◌&&◌, ◌⊎◌, ◌↔◌, leb, eqb}
use Rattle.std.proofs.Common.{arith, sym, subst, inl, inr}
use Rattle.std.proofs.Math.Decide.{dec_lt}
use Rattle.std.proofs.Math.Path.{ap}
use Rattle.std.proofs.Math.Bool.{Bool}
use mathlib.Core.List.Memᴰ
use mathlib.Core.List.{List, [], ◌∷◌, Memᴰ}
use Rattle.std.proofs.Math.Dec.{T, leb→le, eqb→eq}
use borrow.Author.Tests.{le-leb, eq-eqb}
use Rattle.clocks.specs.declared.Event.{Event}
use Rattle.clocks.specs.History.{In, Precedes}
use Rattle.clocks.specs.Causal.{Causal}
use Rattle.clocks.specs.Event.{Cut, involved, count, less}
use Rattle.clocks.specs.validity.ClockRule.{history_causal}
use Rattle.clocks.specs.cuts.EventLaws.{either, true-T, T_true, ready_next, ready_known, ready_i, apply_next, apply_other, less_next, less_other, apply-less}
use Rattle.clocks.specs.stored.TestedLaws.{in_takeable, involved_below, consistent-test}
use Rattle.clocks.specs.cuts.Preceding.{precedes_last}
use Rattle.clocks.specs.stored.BoundedLaws.{and_i, and_l, and_r, all_i, all_e}
use Rattle.clocks.specs.Tested.{consistent, leads_to, through, predecessors}
use Rattle.clocks.specs.Valid.{History, ClockRule}
use Rattle.clocks.specs.cuts.CausalLaws.{count_positive, in_occupied}

module _ (n : ℕ) (valid : List Event → Event → Type 0) (r : ClockRule n valid) (ts : List Event) (h : History n valid ts) (S : Cut) (z : (p : ℕ) → n ≤ p → S p ≡ 0) where
  -- what the test of one event asks of one process
  abbrev asks : Event → ℕ → Bool
  asks f p = cond (involved f p) (eqb (count f p) (S p)) (leb (count f p) (S p))

  causal : Causal ts
  causal = history_causal n valid r ts h

  less-silent : (f : Event) (p : ℕ) → n ≤ p → less f S p ≡ 0
  unfolding less
  less-silent f p l = omega (arith, z p l)

  -- ---- an event that passes leads here
  asks_own : (f : Event) → T (leads_to n f S) → In f ts → (p : ℕ) → involved f p ≡ true → count f p ≡ S p
  unfolding leads_to
  asks_own f t m p b =
      let q : T (asks f p) = all_e n (asks f) t p (involved_below n f (in_takeable n valid ts h f m) p b) in
      eqb→eq (count f p) (S p) (rw b at q)

  asks_other : (f : Event) → T (leads_to n f S) → In f ts → (p : ℕ) → involved f p ≡ false → count f p ≤ S p
  unfolding leads_to
  asks_other f t m p b = go (dec_lt p n)
    where
      go : Dec (p < n) → count f p ≤ S p
      go (yes l) = let q : T (asks f p) = all_e n (asks f) t p l in leb→le (count f p) (S p) (rw b at q)
      go (no l) = omega (arith, (in_takeable n valid ts h f m).silent p (omega arith))

  passes : (f : Event) → In f ts → T (leads_to n f S) → T (consistent n ts (less f S)) → Precedes ts (less f S) S
  passes f m t c =
      let own : (p : ℕ) → involved f p ≡ true → 0 < S p = λ p b. omega (arith, asks_own f t m p b, count_positive ts causal f m p b) in
      record {
        before = (consistent-test n valid ts h (less f S) (less-silent f)).0 c;
        by = f;
        among = m;
        enabled = ready_i f (less f S)
            (λ p b. omega (arith, asks_own f t m p b, own p b, less_next f S p b))
            (λ p b. omega (arith, asks_other f t m p b, less_other f S p b));
        leads = sym (apply-less f S own);
      }

  -- ---- an event that leads here passes
  leads_passes : (S' : Cut) (k : Precedes ts S' S) → T (leads_to n k.by S) × T (consistent n ts (less k.by S)) × (S' ≡ less k.by S)
  unfolding leads_to
  leads_passes S' k =
      let o = in_occupied ts causal k.by k.among in
      let s : S' ≡ less k.by S = (precedes_last ts causal S' S k o.0 o.1).1 in
      (all_i n (asks k.by) (λ p l. at p (either (involved k.by p))), (consistent-test n valid ts h (less k.by S) (less-silent k.by)).1 (rw s at k.before), s)
    where
      at : (p : ℕ) → (involved k.by p ≡ true) ⊎ (involved k.by p ≡ false) → T (asks k.by p)
      at p (inl b) = rw (b, eq-eqb (count k.by p) (S p) (omega (arith, ap (λ (R : Cut). R p) k.leads, apply_next k.by S' p b, ready_next k.by S' k.enabled p b))) tt
      at p (inr b) = rw (b, le-leb (count k.by p) (S p) (omega (arith, ap (λ (R : Cut). R p) k.leads, apply_other k.by S' p b, ready_known k.by S' k.enabled p b))) tt

  -- ---- through the list
  listed_e : (fs : List Event) → ((f : Event) → In f fs → In f ts) → (S' : Cut) → Memᴰ S' (through n ts fs S) → Precedes ts S' S
  unfolding through
  listed_e [] w S' m = absurd (Memᴰ.not-nil m)
  listed_e (f ∷ fs) w S' m = go (either (leads_to n f S && consistent n ts (less f S))) (listed_e fs (λ g k. w g (Memᴰ.tail k)) S')
    where
      test : Bool
      test = leads_to n f S && consistent n ts (less f S)

      go : (test ≡ true) ⊎ (test ≡ false) → (Memᴰ S' (through n ts fs S) → Precedes ts S' S) → Precedes ts S' S
      go (inr b) r = r (subst (λ (t : Bool). Memᴰ S' (cond t (less f S ∷ through n ts fs S) (through n ts fs S))) b m)
      go (inl b) r = here (Memᴰ.cases_cons (subst (λ (t : Bool). Memᴰ S' (cond t (less f S ∷ through n ts fs S) (through n ts fs S))) b m))
        where
          t : T test
          t = true-T b

          here : (S' ≡ less f S) ⊎ Memᴰ S' (through n ts fs S) → Precedes ts S' S
          here (inl s) = rw s (passes f (w f (Memᴰ.head refl)) (and_l (leads_to n f S) (consistent n ts (less f S)) t) (and_r (leads_to n f S) (consistent n ts (less f S)) t))
          here (inr k) = r k

  listed_i : (fs : List Event) (f : Event) → In f fs → T (leads_to n f S) → T (consistent n ts (less f S)) → Memᴰ (less f S) (through n ts fs S)
  unfolding through
  listed_i [] f m t c = absurd (Memᴰ.not-nil m)
  listed_i (g ∷ fs) f m t c = go (Memᴰ.cases_cons m) (either (leads_to n g S && consistent n ts (less g S))) (λ k. listed_i fs f k t c)
    where
      test : Bool
      test = leads_to n g S && consistent n ts (less g S)

      go : (f ≡ g) ⊎ In f fs → (test ≡ true) ⊎ (test ≡ false) → (In f fs → Memᴰ (less f S) (through n ts fs S)) → Memᴰ (less f S) (through n ts (g ∷ fs) S)
      go (inl s) d r = rw (T_true test (rw s at (and_i (leads_to n f S) (consistent n ts (less f S)) t c))) (Memᴰ.head (ap (λ (x : Event). less x S) s))
      go (inr k) (inl b) r = rw b (Memᴰ.tail (r k))
      go (inr k) (inr b) r = rw b (r k)

  -- ---- Theorem
  pub predecessor : (S' : Cut) → Memᴰ S' (predecessors n ts S) ↔ Precedes ts S' S
  unfolding predecessors
  predecessor S' = (listed_e ts (λ f m. m) S', back)
    where
      back : Precedes ts S' S → Memᴰ S' (through n ts ts S)
      back k = let w = leads_passes S' k in rw w.2 (listed_i ts k.by k.among w.0 w.1)
