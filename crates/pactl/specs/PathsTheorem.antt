-- The operators over paths, from the printed clauses alone and from the size of a cut, which falls along a path.
use Prim.Native.Nat.{ℕ, zero, suc, ◌≤◌, ◌<◌}
use Rattle.std.proofs.Common.{arith, ap, subst, ◌∙◌, true≢false}
use Rattle.std.specs.Prelude.{◌≡◌, Bool, List, ◌⊎◌}
use Rattle.std.proofs.Math.Path.{refl, sym}
use Rattle.std.proofs.Math.Bool.{true, false}
use Rattle.std.proofs.Math.Logic.{inl, inr, ⊎_elim}
use Rattle.clocks.specs.declared.Event.{Event}
use Rattle.clocks.specs.Event.{Cut}
use Rattle.clocks.specs.History.{Consistent, Precedes}
use Rattle.clocks.specs.Valid.{Known, History}
use Rattle.clocks.specs.cuts.Between.{Inside, descend}
use Rattle.clocks.specs.cuts.EventLaws.{apply_up}
use Rattle.clocks.specs.validity.ClockRule.{history_causal}
use Rattle.clocks.specs.validity.KnownClock.{known_rule}
use Rattle.pactl.specs.Pactl.{Pactl, proposition, negation, exists_yesterday, exists_since, all_since, disjunction, truth, exists_previously, all_previously}
use Rattle.pactl.specs.Truth.{size, holds}
use Rattle.pactl.specs.TruthLaws.{leads_smaller}
use Rattle.pactl.specs.Semantics.{Truths, Has, Keeps, model_over}
use Rattle.pactl.specs.SemanticsTheorem.{clauses_as_printed}
use Rattle.pactl.specs.Paths.{Path, Maximal, SinceAt, OverPaths, OperatorsOverPaths}

-- ---- Paths

-- A cut, and then the cuts of a sequence.
joined : Cut → (ℕ → Cut) → ℕ → Cut
joined S cuts zero = S
joined S cuts (suc i) = cuts i

abbrev tail : (ℕ → Cut) → ℕ → Cut
tail cuts i = cuts (suc i)

module _ (ts : List Event) where
  stay : (S : Cut) → Path ts S 0 (λ i. S)
  stay S = record { begins = refl; steps = λ i l. absurd (omega arith) }

  path_joined : (S S' : Cut) → Precedes ts S' S → (n : ℕ) (cuts : ℕ → Cut) → Path ts S' n cuts
      → Path ts S (suc n) (joined S cuts)
  unfolding joined
  path_joined S S' l n cuts P = record { begins = refl; steps = step }
    where
      step : (i : ℕ) → i < suc n → Precedes ts (joined S cuts (suc i)) (joined S cuts i)
      step zero m = rw P.begins l
      step (suc i) m = P.steps i (omega arith)

  maximal_joined : (S S' : Cut) → Precedes ts S' S → (n : ℕ) (cuts : ℕ → Cut) → Maximal ts S' n cuts
      → Maximal ts S (suc n) (joined S cuts)
  unfolding joined
  maximal_joined S S' l n cuts P = record { path = path_joined S S' l n cuts P.path; ends = P.ends }

  first_step : (S : Cut) (n : ℕ) (cuts : ℕ → Cut) → 0 < n → Path ts S n cuts → Precedes ts (cuts 1) S
  first_step S n cuts l P = subst (λ (R : Cut). Precedes ts (cuts 1) R) P.begins (P.steps 0 l)

  path_tail : (S : Cut) (n : ℕ) (cuts : ℕ → Cut) → Path ts S (suc n) cuts → Path ts (cuts 1) n (tail cuts)
  path_tail S n cuts P = record { begins = refl; steps = λ i l. P.steps (suc i) (omega arith) }

  maximal_tail : (S : Cut) (n : ℕ) (cuts : ℕ → Cut) → Maximal ts S (suc n) cuts → Maximal ts (cuts 1) n (tail cuts)
  maximal_tail S n cuts P = record { path = path_tail S n cuts P.path; ends = P.ends }

  -- Its cuts are consistent.
  on_path : (S : Cut) → Consistent ts S → (n : ℕ) (cuts : ℕ → Cut) → Path ts S n cuts → (i : ℕ) → i ≤ n
      → Consistent ts (cuts i)
  on_path S c n cuts P zero l = rw P.begins c
  on_path S c n cuts P (suc i) l = (P.steps i (omega arith)).before

  -- ... and inside the first.
  inside_path : (S : Cut) (n : ℕ) (cuts : ℕ → Cut) → Path ts S n cuts → (i : ℕ) → i ≤ n → Inside (cuts i) S
  inside_path S n cuts P zero l p = rw P.begins (omega arith)
  inside_path S n cuts P (suc i) l p =
      let m = P.steps i (omega arith) in
      let up = ap (λ (Q : Cut). Q p) m.leads in
      omega (arith, inside_path S n cuts P i (omega arith) p, up, apply_up m.by (cuts (suc i)) p)

-- ---- Truths that keep the clauses
module _ (k : ℕ) (start : Cut) (ts : List Event) (h : History k Known ts) (x : Truths) (X : Keeps start ts x) where
  smaller : (S S' : Cut) → Precedes ts S' S → size k S' < size k S
  smaller = leads_smaller (model_over k start ts) Known (record { rule = known_rule k; by_rule = h })

  -- A path leads to every consistent cut inside.
  path_to : (d : ℕ) (R S : Cut) → Consistent ts R → Consistent ts S → Inside R S → size k S < d
      → (n : ℕ) × (cuts : ℕ → Cut) × Path ts S n cuts × (cuts n ≡ R)
  unfolding joined
  path_to zero R S r s i l = absurd (omega arith)
  path_to (suc d) R S r s i l = ⊎_elim (λ q. (0, (λ j. S), stay ts S, sym q))
      (λ x.
      let p = path_to d R x.0 r x.1.before x.2 (omega (arith, smaller S x.0 x.1)) in
      (suc p.0, joined S p.1, path_joined ts S x.0 x.1 p.0 p.1 p.2, p.3))
      (descend ts (history_causal k Known (known_rule k) ts h) R S r s i)

  -- What is not true is false.
  false-has : (S : Cut) → Consistent ts S → (φ : Pactl) → x φ S ≡ false → Has x S (negation φ)
  false-has S c φ e = ((X S c).of_not φ).1 (λ t. true≢false (sym t ∙ e))

  both-has : (S : Cut) → Consistent ts S → (φ : Pactl) → Has x S φ → Has x S (negation φ) → ⊥
  both-has S c φ t u = ((X S c).of_not φ).0 u t

  true-has : (S : Cut) → Consistent ts S → Has x S truth
  unfolding truth disjunction
  true-has S c =
      let q = proposition 0 0 in
      ((X S c).of_not _).1 (λ t.
      let u = ((X S c).of_and (negation q) (negation (negation q))).0 t in
      both-has S c (negation q) u.0 u.1)

  or_e : (S : Cut) → Consistent ts S → (φ ψ : Pactl) → Has x S (disjunction φ ψ) → Has x S φ ⊎ Has x S ψ
  unfolding disjunction
  or_e S c φ ψ t = go (x φ S) refl (x ψ S) refl
    where
      go : (a : Bool) → x φ S ≡ a → (b : Bool) → x ψ S ≡ b → Has x S φ ⊎ Has x S ψ
      go true e b f = inl e
      go false e true f = inr f
      go false e false f =
          absurd (((X S c).of_not _).0 t
          (((X S c).of_and (negation φ) (negation ψ)).1 (false-has S c φ e, false-has S c ψ f)))

  or_i : (S : Cut) → Consistent ts S → (φ ψ : Pactl) → Has x S φ ⊎ Has x S ψ → Has x S (disjunction φ ψ)
  unfolding disjunction
  or_i S c φ ψ s = ((X S c).of_not _).1 (λ t. go s (((X S c).of_and (negation φ) (negation ψ)).0 t))
    where
      go : Has x S φ ⊎ Has x S ψ → Has x S (negation φ) × Has x S (negation ψ) → ⊥
      go (inl t) u = both-has S c φ t u.0
      go (inr t) u = both-has S c ψ t u.1

  -- ---- E(φ S ψ)
  abbrev SomePath : Cut → Pactl → Pactl → Type 0
  SomePath S φ ψ = (n : ℕ) × (cuts : ℕ → Cut) × Path ts S n cuts × SinceAt x φ ψ cuts n

  es_path : (φ ψ : Pactl) (d : ℕ) (S : Cut) → Consistent ts S → size k S < d → Has x S (exists_since φ ψ)
      → SomePath S φ ψ
  unfolding joined
  es_path φ ψ zero S c l t = absurd (omega arith)
  es_path φ ψ (suc d) S c l t = go (((X S c).of_es φ ψ).0 t)
      (λ S' m u. es_path φ ψ d S' m.before (omega (arith, smaller S S' m)) u)
    where
      go : Has x S ψ ⊎ (Has x S φ × ((S' : Cut) × Precedes ts S' S × Has x S' (exists_since φ ψ)))
          → ((S' : Cut) → Precedes ts S' S → Has x S' (exists_since φ ψ) → SomePath S' φ ψ) → SomePath S φ ψ
      go (inl u) f = (0, (λ i. S), stay ts S, record { there = u; on_the_way = λ i m. absurd (omega arith) })
      go (inr u) f =
          let S' = u.1.0 in
          let p = f S' u.1.1 u.1.2 in (
            suc p.0,
            joined S p.1,
            path_joined ts S S' u.1.1 p.0 p.1 p.2,
            record { there = p.3.there; on_the_way = way u.0 p.0 p.1 p.3 },
          )
        where
          way : Has x S φ → (n : ℕ) (cuts : ℕ → Cut) → SinceAt x φ ψ cuts n → (i : ℕ) → i < suc n
              → Has x (joined S cuts i) φ
          way u n cuts s zero m = u
          way u n cuts s (suc i) m = s.on_the_way i (omega arith)

  -- From the next cut on.
  later : (φ ψ : Pactl) (m : ℕ) (cuts : ℕ → Cut) → SinceAt x φ ψ cuts (suc m) → SinceAt x φ ψ (tail cuts) m
  later φ ψ m cuts s = record { there = s.there; on_the_way = λ i l. s.on_the_way (suc i) (omega arith) }

  path_es : (φ ψ : Pactl) (n : ℕ) (S : Cut) → Consistent ts S → (cuts : ℕ → Cut) → Path ts S n cuts
      → SinceAt x φ ψ cuts n → Has x S (exists_since φ ψ)
  path_es φ ψ zero S c cuts P s = ((X S c).of_es φ ψ).1 (inl (rw P.begins at s.there))
  path_es φ ψ (suc n) S c cuts P s =
      let l = first_step ts S (suc n) cuts (omega arith) P in
      let here : Has x S φ = rw P.begins at (s.on_the_way 0 (omega arith)) in
      ((X S c).of_es φ ψ).1
      (inr (
        here,
        (
          cuts 1,
          l,
          path_es φ ψ n (cuts 1) l.before (tail cuts) (path_tail ts S n cuts P)
              (later φ ψ n cuts s),
        ),
      ))

  -- ---- A(φ S ψ)
  abbrev OnPath : Pactl → Pactl → ℕ → (ℕ → Cut) → Type 0
  OnPath φ ψ n cuts = (m : ℕ) × (m ≤ n) × SinceAt x φ ψ cuts m

  abbrev EveryPath : Cut → Pactl → Pactl → Type 0
  EveryPath S φ ψ = (n : ℕ) (cuts : ℕ → Cut) → Maximal ts S n cuts → OnPath φ ψ n cuts

  -- One cut more, which has φ.
  one_more : (φ ψ : Pactl) (n : ℕ) (cuts : ℕ → Cut) → Has x (cuts 0) φ → OnPath φ ψ n (tail cuts)
      → OnPath φ ψ (suc n) cuts
  one_more φ ψ n cuts t s =
      (suc s.0, omega (arith, s.1), record { there = s.2.there; on_the_way = way s.0 s.2 })
    where
      way : (m : ℕ) → SinceAt x φ ψ (tail cuts) m → (i : ℕ) → i < suc m → Has x (cuts i) φ
      way m r zero l = t
      way m r (suc i) l = r.on_the_way i (omega arith)

  at_once : (φ ψ : Pactl) (n : ℕ) (cuts : ℕ → Cut) → Has x (cuts 0) ψ → OnPath φ ψ n cuts
  at_once φ ψ n cuts t = (0, omega arith, record { there = t; on_the_way = λ i l. absurd (omega arith) })

  as_path : (φ ψ : Pactl) (n : ℕ) (S : Cut) → Consistent ts S → Has x S (all_since φ ψ) → (cuts : ℕ → Cut)
      → Maximal ts S n cuts → OnPath φ ψ n cuts
  as_path φ ψ zero S c t cuts P = go (((X S c).of_as φ ψ).0 t)
    where
      go : Has x S ψ ⊎ (Has x S φ × ((S' : Cut) → Precedes ts S' S → Has x S' (all_since φ ψ))
          × ((S' : Cut) × Precedes ts S' S)) → OnPath φ ψ zero cuts
      go (inl u) = at_once φ ψ zero cuts (rw P.path.begins u)
      go (inr u) = absurd (P.ends u.2.0 (rw P.path.begins u.2.1))
  as_path φ ψ (suc n) S c t cuts P = go (((X S c).of_as φ ψ).0 t)
      (λ u. as_path φ ψ n (cuts 1) first.before u (tail cuts) (maximal_tail ts S n cuts P))
    where
      first : Precedes ts (cuts 1) S
      first = first_step ts S (suc n) cuts (omega arith) P.path

      go : Has x S ψ ⊎ (Has x S φ × ((S' : Cut) → Precedes ts S' S → Has x S' (all_since φ ψ))
          × ((S' : Cut) × Precedes ts S' S)) → (Has x (cuts 1) (all_since φ ψ) → OnPath φ ψ n (tail cuts))
          → OnPath φ ψ (suc n) cuts
      go (inl u) f = at_once φ ψ (suc n) cuts (rw P.path.begins u)
      go (inr u) f = one_more φ ψ n cuts (rw P.path.begins u.0) (f (u.1 (cuts 1) first))

  -- From every cut a maximal path leads back.
  some_maximal : (d : ℕ) (S : Cut) → Consistent ts S → size k S < d
      → (n : ℕ) × (cuts : ℕ → Cut) × Maximal ts S n cuts
  some_maximal zero S c l = absurd (omega arith)
  some_maximal (suc d) S c l = go (x (exists_yesterday truth) S) refl
      (λ S' m. some_maximal d S' m.before (omega (arith, smaller S S' m)))
    where
      go : (b : Bool) → x (exists_yesterday truth) S ≡ b
          → ((S' : Cut) → Precedes ts S' S → (n : ℕ) × (cuts : ℕ → Cut) × Maximal ts S' n cuts)
          → (n : ℕ) × (cuts : ℕ → Cut) × Maximal ts S n cuts
      go true e f =
          let u = ((X S c).of_ey truth).0 e in
          let p = f u.0 u.1 in
          (suc p.0, joined S p.1, maximal_joined ts S u.0 u.1 p.0 p.1 p.2)
      go false e f = (
        0,
        (λ i. S),
        record {
          path = stay ts S;
          ends = λ R m. true≢false (sym (((X S c).of_ey truth).1 (R, m, true-has R m.before)) ∙ e);
        },
      )

  -- Where ψ does not hold, a path on which φ holds since ψ has φ at once, goes on, and has it on its rest too.
  goes_on : (φ ψ : Pactl) (S : Cut) → x ψ S ≡ false → (n : ℕ) (cuts : ℕ → Cut) → cuts 0 ≡ S → OnPath φ ψ n cuts
      → (0 < n) × Has x S φ × ((m : ℕ) → n ≡ suc m → OnPath φ ψ m (tail cuts))
  goes_on φ ψ S e n cuts b s = go s.0 s.1 s.2
    where
      go : (m : ℕ) → m ≤ n → SinceAt x φ ψ cuts m
          → (0 < n) × Has x S φ × ((m : ℕ) → n ≡ suc m → OnPath φ ψ m (tail cuts))
      go zero l r = absurd (true≢false (sym (rw b at r.there) ∙ e))
      go (suc m) l r = (
        omega arith,
        rw b at (r.on_the_way 0 (omega arith)),
        (λ n' q. (m, omega arith, later φ ψ m cuts r)),
      )

  path_as : (φ ψ : Pactl) (d : ℕ) (S : Cut) → Consistent ts S → size k S < d → EveryPath S φ ψ
      → Has x S (all_since φ ψ)
  unfolding joined
  path_as φ ψ zero S c l f = absurd (omega arith)
  path_as φ ψ (suc d) S c l f = go (x ψ S) refl
      (λ S' m g. path_as φ ψ d S' m.before (omega (arith, smaller S S' m)) g)
    where
      go : (b : Bool) → x ψ S ≡ b
          → ((S' : Cut) → Precedes ts S' S → EveryPath S' φ ψ → Has x S' (all_since φ ψ)) → Has x S (all_since φ ψ)
      go true e g = ((X S c).of_as φ ψ).1 (inl e)
      go false e g =
          let p = some_maximal (suc d) S c l in
          let on = goes_on φ ψ S e p.0 p.1 p.2.path.begins (f p.0 p.1 p.2) in
          ((X S c).of_as φ ψ).1 (inr (
            on.1,
            (λ S' m. g S' m (λ n cuts P.
                let through = joined S cuts in
                let s = f (suc n) through (maximal_joined ts S S' m n cuts P) in
                (goes_on φ ψ S e (suc n) through refl s).2 n refl)),
            (p.1 1, first_step ts S p.0 p.1 on.0 p.2.path),
          ))

  -- ---- The operators that are made of others

  -- Every cut of a path has true.
  true_on : (S : Cut) → Consistent ts S → (n : ℕ) (cuts : ℕ → Cut) → Path ts S n cuts → (m : ℕ) → m ≤ n → (φ : Pactl)
      → Has x (cuts m) φ → SinceAt x truth φ cuts m
  true_on S c n cuts P m l φ t =
      record { there = t; on_the_way = λ i j. true-has (cuts i) (on_path ts S c n cuts P i (omega arith)) }

  -- A cut has a formula, or not.
  decided : (S : Cut) → Consistent ts S → (φ : Pactl) → (Has x S (negation φ) → ⊥) → Has x S φ
  decided S c φ n = go (x φ S) refl
    where
      go : (b : Bool) → x φ S ≡ b → Has x S φ
      go true e = e
      go false e = absurd (n (false-has S c φ e))

  module _ (S : Cut) (c : Consistent ts S) (φ : Pactl) where
    ep_e : Has x S (exists_previously φ) → (n : ℕ) × (cuts : ℕ → Cut) × Path ts S n cuts × Has x (cuts n) φ
    unfolding exists_previously
    ep_e t =
        let p = es_path truth φ (suc (size k S)) S c (omega arith) t in (p.0, p.1, p.2, p.3.there)

    ep_i : (n : ℕ) (cuts : ℕ → Cut) → Path ts S n cuts → Has x (cuts n) φ → Has x S (exists_previously φ)
    unfolding exists_previously
    ep_i n cuts P t = path_es truth φ n S c cuts P (true_on S c n cuts P n (omega arith) φ t)

    ap_e : Has x S (all_previously φ) → (n : ℕ) (cuts : ℕ → Cut) → Maximal ts S n cuts
        → (m : ℕ) × (m ≤ n) × Has x (cuts m) φ
    unfolding all_previously
    ap_e t n cuts P = let s = as_path truth φ n S c t cuts P in (s.0, s.1, s.2.there)

    ap_i : ((n : ℕ) (cuts : ℕ → Cut) → Maximal ts S n cuts → (m : ℕ) × (m ≤ n) × Has x (cuts m) φ)
        → Has x S (all_previously φ)
    unfolding all_previously
    ap_i f = path_as truth φ (suc (size k S)) S c (omega arith)
        (λ n cuts P. let s = f n cuts P in (s.0, s.1, true_on S c n cuts P.path s.0 s.1 φ s.2))

    ay_e : Has x S (negation (exists_yesterday (negation φ))) → (S' : Cut) → Precedes ts S' S → Has x S' φ
    ay_e t S' l = decided S' l.before φ
        (λ u. both-has S c (exists_yesterday (negation φ)) (((X S c).of_ey (negation φ)).1 (S', l, u)) t)

    ay_i : ((S' : Cut) → Precedes ts S' S → Has x S' φ) → Has x S (negation (exists_yesterday (negation φ)))
    ay_i f = ((X S c).of_not _).1 (λ t.
        let u = ((X S c).of_ey (negation φ)).0 t in both-has u.0 u.1.before φ (f u.0 u.1) u.2)

  module _ (S : Cut) (c : Consistent ts S) (φ : Pactl) where
    ah_e : Has x S (negation (exists_previously (negation φ))) → (n : ℕ) (cuts : ℕ → Cut) → Path ts S n cuts
        → Has x (cuts n) φ
    ah_e t n cuts P = decided (cuts n) (on_path ts S c n cuts P n (omega arith)) φ
        (λ u. both-has S c (exists_previously (negation φ)) (ep_i S c (negation φ) n cuts P u) t)

    ah_i : ((n : ℕ) (cuts : ℕ → Cut) → Path ts S n cuts → Has x (cuts n) φ)
        → Has x S (negation (exists_previously (negation φ)))
    ah_i f = ((X S c).of_not _).1 (λ t.
        let p = ep_e S c (negation φ) t in
        both-has (p.1 p.0) (on_path ts S c p.0 p.1 p.2 p.0 (omega arith)) φ
        (f p.0 p.1 p.2) p.3)

    eh_i : (n : ℕ) (cuts : ℕ → Cut) → Maximal ts S n cuts → ((m : ℕ) → m ≤ n → Has x (cuts m) φ)
        → Has x S (negation (all_previously (negation φ)))
    eh_i n cuts P f = ((X S c).of_not _).1 (λ t.
        let s = ap_e S c (negation φ) t n cuts P in
        both-has (cuts s.0) (on_path ts S c n cuts P.path s.0 s.1) φ (f s.0 s.1) s.2)

  -- EH φ: a maximal path is walked back, where φ holds and the next cut has EH φ too.
  abbrev AllAlong : Cut → Pactl → Type 0
  AllAlong S φ = (n : ℕ) × (cuts : ℕ → Cut) × Maximal ts S n cuts × ((m : ℕ) → m ≤ n → Has x (cuts m) φ)

  eh_e : (φ : Pactl) (d : ℕ) (S : Cut) → Consistent ts S → size k S < d
      → Has x S (negation (all_previously (negation φ))) → AllAlong S φ
  unfolding all_previously joined
  eh_e φ zero S c l t = absurd (omega arith)
  eh_e φ (suc d) S c l t = go (x (exists_yesterday (negation all)) S) refl
      (λ S' m u. eh_e φ d S' m.before (omega (arith, smaller S S' m)) u)
    where
      all : Pactl
      all = all_previously (negation φ)

      here : Has x S φ
      here = decided S c φ (λ u. both-has S c all (((X S c).of_as truth (negation φ)).1 (inl u)) t)

      go : (b : Bool) → x (exists_yesterday (negation all)) S ≡ b
          → ((S' : Cut) → Precedes ts S' S → Has x S' (negation all) → AllAlong S' φ) → AllAlong S φ
      go true e f =
          let u = ((X S c).of_ey (negation all)).0 e in
          let p = f u.0 u.1 u.2 in
          let back = maximal_joined ts S u.0 u.1 p.0 p.1 p.2 in
          (suc p.0, joined S p.1, back, along p.0 p.1 p.3)
        where
          along : (n : ℕ) (cuts : ℕ → Cut) → ((m : ℕ) → m ≤ n → Has x (cuts m) φ) → (m : ℕ) → m ≤ suc n
              → Has x (joined S cuts m) φ
          along n cuts g zero l = here
          along n cuts g (suc m) l = g m (omega arith)
      go false e f =
          let others : (R : Cut) → Precedes ts R S → Has x R all = λ R m.
          decided R m.before all (λ u. true≢false (sym (((X S c).of_ey (negation all)).1 (R, m, u)) ∙ e)) in (
            0,
            (λ i. S),
            record {
              path = stay ts S;
              ends = λ R m.
                  both-has S c all (((X S c).of_as truth (negation φ)).1 (inr (true-has S c, others, (R, m)))) t;
            },
            λ m l. here,
          )

  over_paths : (S : Cut) → Consistent ts S → OverPaths ts x S
  over_paths S c = record {
    reach = λ R. (
      (λ p. rw (← p.3) (
        on_path ts S c p.0 p.1 p.2 p.0 (omega arith),
        inside_path ts S p.0 p.1 p.2 p.0 (omega arith),
      )),
      (λ r. path_to (suc (size k S)) R S r.0 c r.1 (omega arith)),
    );
    of_es = λ φ ψ.
        (es_path φ ψ (suc (size k S)) S c (omega arith), λ p. path_es φ ψ p.0 S c p.1 p.2 p.3);
    of_as = λ φ ψ. (
      (λ t n cuts P. as_path φ ψ n S c t cuts P),
      path_as φ ψ (suc (size k S)) S c (omega arith),
    );
    of_true = true-has S c;
    of_or = λ φ ψ. (or_e S c φ ψ, or_i S c φ ψ);
    of_ep = λ φ. (ep_e S c φ, λ p. ep_i S c φ p.0 p.1 p.2 p.3);
    of_ap = λ φ. (ap_e S c φ, ap_i S c φ);
    of_ay = λ φ. (ay_e S c φ, ay_i S c φ);
    of_eh = λ φ. (eh_e φ (suc (size k S)) S c (omega arith), λ p. eh_i S c φ p.0 p.1 p.2 p.3);
    of_ah = λ φ. (ah_e S c φ, ah_i S c φ);
  }

-- ---- Theorem

pub operators_over_paths : OperatorsOverPaths
operators_over_paths k start ts h =
    over_paths k start ts h (holds (model_over k start ts)) (clauses_as_printed k start ts h).keeps
