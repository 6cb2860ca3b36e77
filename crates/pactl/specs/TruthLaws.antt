-- PaCTL's semantics (source 000, section 2; 01, The rule), in both directions, at every consistent cut: what the truth
-- of a formula is, by its operator. How a line is judged is section 3 (Clauses).
use Prim.Native.Nat.{ℕ, zero, suc, ◌+◌, ◌≤◌, ◌<◌}
use Rattle.std.proofs.Common.{arith, ap, subst, ◌∙◌, T_not}
use Rattle.std.proofs.Math.Decide.{dec_lt}
use Rattle.std.specs.Prelude.{◌≡◌, true, false, ◌&&◌, ◌||◌, ◌⊎◌, ◌↔◌}
use Rattle.std.proofs.Math.Path.{refl, subst⁻¹}
use Rattle.std.proofs.Math.Bool.{Bool}
use mathlib.Core.List.Memᴰ
use mathlib.Core.List.{List, [], ◌∷◌, Memᴰ}
use Rattle.std.proofs.Math.Logic.{inl, inr, ⊎_elim}
use Rattle.std.proofs.Math.Dec.{T, not_T}
use Rattle.clocks.specs.declared.Event.{Event}
use Rattle.clocks.specs.Event.{Cut, involved}
use Rattle.clocks.specs.validity.ClockRule.{consistent-silent}
use Rattle.clocks.specs.Bounded.{any_of}
use Rattle.clocks.specs.cuts.EventLaws.{T_true, apply_next, apply_up}
use Rattle.clocks.specs.cuts.Predecessors.{predecessor}
use Rattle.clocks.specs.stored.TestedLaws.{in_takeable, involved_below}
use Rattle.clocks.specs.stored.BoundedLaws.{and_i, and_l, and_r, or_l, or_r, or_e, any_of_i, any_of_e}
use Rattle.clocks.specs.Valid.{WellFormed}
use Rattle.pactl.specs.Truth.{Model, Property, all_of, size, unrolled, recursive, ey_holds, es_step, es_holds, as_step, not_holds, and_holds, as_holds, preceding}
use Rattle.pactl.specs.ModelCuts.{Ruled, CutOf, Leads}

-- ---- Tests over a list
pub all_of_i : {A : Type 0} (t : A → Bool) (xs : List A) → ((x : A) → Memᴰ x xs → T (t x)) → T (all_of t xs)
unfolding all_of
all_of_i t [] h = tt
all_of_i t (x ∷ xs) h = and_i (t x) (all_of t xs) (h x (Memᴰ.head refl)) (all_of_i t xs (λ y m. h y (Memᴰ.tail m)))

pub all_of_e : {A : Type 0} (t : A → Bool) (xs : List A) → T (all_of t xs) → (x : A) → Memᴰ x xs → T (t x)
unfolding all_of
all_of_e t [] h x m = absurd (Memᴰ.not-nil m)
all_of_e t (y ∷ ys) h x m = go (Memᴰ.cases_cons m) (all_of_e t ys (and_r (t y) (all_of t ys) h) x)
  where
    go : (x ≡ y) ⊎ Memᴰ x ys → (Memᴰ x ys → T (t x)) → T (t x)
    go (inl s) r = rw s (and_l (t y) (all_of t ys) h)
    go (inr k) r = r k

any_of_same : {A : Type 0} (t u : A → Bool) (xs : List A) → ((x : A) → Memᴰ x xs → t x ≡ u x) → any_of t xs ≡ any_of u xs
unfolding any_of
any_of_same t u [] h = refl
any_of_same t u (x ∷ xs) h = rw (h x (Memᴰ.head refl), any_of_same t u xs (λ y m. h y (Memᴰ.tail m)))

all_of_same : {A : Type 0} (t u : A → Bool) (xs : List A) → ((x : A) → Memᴰ x xs → t x ≡ u x) → all_of t xs ≡ all_of u xs
unfolding all_of
all_of_same t u [] h = refl
all_of_same t u (x ∷ xs) h = rw (h x (Memᴰ.head refl), all_of_same t u xs (λ y m. h y (Memᴰ.tail m)))

-- ---- A preceding cut counts fewer events
size-le : (n : ℕ) (R S : Cut) → ((p : ℕ) → R p ≤ S p) → size n R ≤ size n S
unfolding size
size-le zero R S h = omega arith
size-le (suc n) R S h = omega (arith, h n, size-le n R S h)

size-lt : (n : ℕ) (R S : Cut) → ((p : ℕ) → R p ≤ S p) → (o : ℕ) → o < n → R o < S o → size n R < size n S
unfolding size
size-lt zero R S h o l j = absurd (omega arith)
size-lt (suc n) R S h o l j = go (dec_lt o n) (λ k. size-lt n R S h o k j)
  where
    go : Dec (o < n) → (o < n → size n R < size n S) → R n + size n R < S n + size n S
    go (yes k) r = omega (arith, h n, r k)
    go (no k) r = let s : o ≡ n = omega arith in let j' : R n < S n = rw s at j in omega (arith, size-le n R S h)

-- ---- The laws, in a model of a history
module _ (M : Model) (valid : List Event → Event → Type 0) (m : Ruled M valid) where
  pub cut_silent : (S : Cut) → CutOf M S → (p : ℕ) → M.processes ≤ p → S p ≡ 0
  cut_silent = consistent-silent M.processes valid M.history m.by_rule

  -- the preceding cuts are those that lead to the cut by one event
  pub before_leads : (S : Cut) → CutOf M S → (S' : Cut) → Memᴰ S' (preceding M S) ↔ Leads M S' S
  unfolding preceding
  before_leads S c S' = predecessor M.processes valid m.rule M.history m.by_rule S (cut_silent S c) S'

  pub leads_smaller : (S S' : Cut) → Leads M S' S → size M.processes S' < size M.processes S
  leads_smaller S S' h =
      let e = h.by in
      let w : WellFormed M.processes e = in_takeable M.processes valid M.history m.by_rule e h.among in
      let o = w.occupied.0 in
      let b : involved e o ≡ true = T_true (involved e o) w.occupied.1 in
      size-lt M.processes S' S
      (λ p. omega (arith, ap (λ (R : Cut). R p) h.leads, apply_up e S' p))
      o (involved_below M.processes e w o b) (omega (arith, ap (λ (R : Cut). R o) h.leads, apply_next e S' o b))

  -- ---- a property given by what it is at the preceding cuts is so given
  module _ (F : Property → Property) (looks : (x y : Property) (S : Cut) → ((S' : Cut) → Memᴰ S' (preceding M S)
      → x S' ≡ y S') → F x S ≡ F y S) where
    enough : (d d' : ℕ) (S : Cut) → CutOf M S → size M.processes S ≤ d → size M.processes S ≤ d' → unrolled F d S ≡ unrolled F d' S
    unfolding unrolled
    enough zero zero S c h k = refl
    enough zero (suc d') S c h k = looks (λ R. false) (unrolled F d') S (λ S' n. absurd (omega (arith, leads_smaller S S' ((before_leads S c S').0 n))))
    enough (suc d) zero S c h k = looks (unrolled F d) (λ R. false) S (λ S' n. absurd (omega (arith, leads_smaller S S' ((before_leads S c S').0 n))))
    enough (suc d) (suc d') S c h k = looks (unrolled F d) (unrolled F d') S
        (λ S' n. let l = (before_leads S c S').0 n in enough d d' S' l.before (omega (arith, leads_smaller S S' l)) (omega (arith, leads_smaller S S' l)))

    pub recursive_is : (S : Cut) → CutOf M S → recursive M F S ≡ F (recursive M F) S
    unfolding recursive unrolled
    recursive_is S c =
        enough (size M.processes S) (suc (size M.processes S)) S c (omega arith) (omega arith)
        ∙ looks (unrolled F (size M.processes S)) (recursive M F) S
        (λ S' n. let l = (before_leads S c S').0 n in enough (size M.processes S) (size M.processes S') S' l.before (omega (arith, leads_smaller S S' l)) (omega arith))

  pub es_looks : (a b x y : Property) (S : Cut) → ((S' : Cut) → Memᴰ S' (preceding M S) → x S' ≡ y S')
      → es_step M a b x S ≡ es_step M a b y S
  unfolding es_step
  es_looks a b x y S h = rw (any_of_same x y (preceding M S) h)

  pub as_looks : (a b x y : Property) (S : Cut) → ((S' : Cut) → Memᴰ S' (preceding M S) → x S' ≡ y S')
      → as_step M a b x S ≡ as_step M a b y S
  unfolding as_step
  as_looks a b x y S h = rw (all_of_same x y (preceding M S) h)

  pub some-before : (x : Property) (S : Cut) → CutOf M S → T (any_of x (preceding M S)) ↔ ((S' : Cut) × Leads M S' S
      × T (x S'))
  some-before x S c = (
    (λ t. let w = any_of_e x (preceding M S) t in (w.0, (before_leads S c w.0).0 w.1, w.2)),
    (λ w. any_of_i x (preceding M S) w.0 ((before_leads S c w.0).1 w.1) w.2),
  )

  pub all-before : (x : Property) (S : Cut) → CutOf M S → T (all_of x (preceding M S)) ↔ ((S' : Cut) → Leads M S' S
      → T (x S'))
  all-before x S c = (
    (λ t S' l. all_of_e x (preceding M S) t S' ((before_leads S c S').1 l)),
    (λ h. all_of_i x (preceding M S) (λ S' n. h S' ((before_leads S c S').0 n))),
  )

  -- ---- The clauses

  -- EY a: some preceding cut has a
  pub ey_clause : (a : Property) (S : Cut) → CutOf M S → T (ey_holds M a S) ↔ ((S' : Cut) × Leads M S' S × T (a S'))
  unfolding ey_holds
  ey_clause a S c = some-before a S c

  -- E(a S b): b, or a and some preceding cut has E(a S b)
  pub es_clause : (a b : Property) (S : Cut) → CutOf M S → T (es_holds M a b S) ↔ (T (b S) ⊎ (T (a S) × ((S' : Cut) × Leads M S' S × T (es_holds M a b S'))))
  unfolding es_holds es_step
  es_clause a b S c =
      let x : Property = es_holds M a b in
      let some : Bool = any_of x (preceding M S) in
      let is : x S ≡ b S || (a S && some) = recursive_is (es_step M a b) (es_looks a b) S c in (
        (λ t. ⊎_elim (λ u. inl u) (λ u. inr (and_l (a S) some u, (some-before x S c).0 (and_r (a S) some u))) (or_e (b S) (a S && some) (subst T is t))),
        ⊎_elim
            (λ u. subst⁻¹ T is (or_l (b S) (a S && some) u))
            (λ u. subst⁻¹ T is (or_r (b S) (a S && some) (and_i (a S) some u.0 ((some-before x S c).1 u.1)))),
      )

  -- A(a S b): b, or a and there is a preceding cut and all of them have A(a S b)
  pub as_clause : (a b : Property) (S : Cut) → CutOf M S
      → T (as_holds M a b S) ↔ (T (b S) ⊎ (T (a S) × ((S' : Cut) × Leads M S' S) × ((S' : Cut) → Leads M S' S → T (as_holds M a b S'))))
  unfolding as_holds as_step
  as_clause a b S c =
      let x : Property = as_holds M a b in
      let some : Bool = any_of (λ R. true) (preceding M S) in
      let all : Bool = all_of x (preceding M S) in
      let is : x S ≡ b S || (a S && (some && all)) = recursive_is (as_step M a b) (as_looks a b) S c in (
        (λ t. ⊎_elim (λ u. inl u)
            (λ u. let v = and_r (a S) (some && all) u in
            let w = (some-before (λ R. true) S c).0 (and_l some all v) in
            inr (and_l (a S) (some && all) u, (w.0, w.1), (all-before x S c).0 (and_r some all v)))
            (or_e (b S) (a S && (some && all)) (subst T is t))),
        ⊎_elim
            (λ u. subst⁻¹ T is (or_l (b S) (a S && (some && all)) u))
            (λ u. subst⁻¹ T is (or_r (b S) (a S && (some && all)) (and_i (a S) (some && all) u.0
            (and_i some all ((some-before (λ R. true) S c).1 (u.1.0, u.1.1, tt)) ((all-before x S c).1 u.2))))),
      )

  -- ... so it is false where nothing precedes and b does not hold
  pub as_start : (a b : Property) (S : Cut) → CutOf M S → ((S' : Cut) → Leads M S' S → ⊥) → (T (b S) → ⊥) → T (as_holds M a b S) → ⊥
  as_start a b S c n f t = ⊎_elim f (λ u. n u.1.0 u.1.1) ((as_clause a b S c).0 t)

-- ---- not and and, at any cut
pub not_clause : (a : Property) (S : Cut) → T (not_holds a S) ↔ (T (a S) → ⊥)
unfolding not_holds
not_clause a S = (T_not (a S), not_T (a S))

pub and_clause : (a b : Property) (S : Cut) → T (and_holds a b S) ↔ (T (a S) × T (b S))
unfolding and_holds
and_clause a b S = ((λ t. (and_l (a S) (b S) t, and_r (a S) (b S) t)), λ w. and_i (a S) (b S) w.0 w.1)
