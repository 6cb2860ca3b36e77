-- The clauses as printed, from the laws of truth, and by induction over formulas and the size of a cut that there is
-- one truth that keeps them.
use Rattle.std.specs.Prelude.{ℕ, zero, suc, ◌<◌, ◌≡◌, refl, Bool, true, false, List}
use Rattle.std.proofs.Common.{arith, sym, ◌∙◌}
use Rattle.std.proofs.Math.Logic.{inl, inr, ⊎_elim}
use Rattle.clocks.specs.declared.Event.{Event}
use Rattle.clocks.specs.Event.{Cut}
use Rattle.clocks.specs.History.{Consistent}
use Rattle.clocks.specs.Valid.{Known, History}
use Rattle.clocks.specs.cuts.EventLaws.{T_true, true-T}
use Rattle.clocks.specs.validity.KnownClock.{known_rule}
use Rattle.pactl.specs.Pactl.{Pactl, proposition, negation, conjunction, exists_yesterday, exists_since, all_since}
use Rattle.pactl.specs.Truth.{Model, size, proposition_holds, holds}
use Rattle.pactl.specs.ModelCuts.{Ruled}
use Rattle.pactl.specs.TruthLaws.{leads_smaller, ey_clause, es_clause, as_clause, not_clause, and_clause}
use Rattle.pactl.specs.Semantics.{Truths, Has, Keeps, model_over, ClausesAsPrinted}

-- Two tests that hold together are equal.
same : (a b : Bool) → (a ≡ true → b ≡ true) → (b ≡ true → a ≡ true) → a ≡ b
same true b f g = sym (f refl)
same false true f g = g refl
same false false f g = refl

module _ (k : ℕ) (start : Cut) (ts : List Event) (h : History k Known ts) where
  abbrev M : Model
  M = model_over k start ts

  ruled : Ruled M Known
  ruled = record { rule = known_rule k; by_rule = h }

  -- ---- Truth keeps the clauses
  holds_keeps : Keeps start ts (holds M)
  unfolding holds proposition_holds
  holds_keeps S c = record {
    of_proposition = λ p b. (λ x. x, λ x. x);
    of_and = λ φ ψ.
        let is = and_clause (holds M φ) (holds M ψ) S in (
          (λ x. let y = is.0 (true-T x) in (T_true _ y.0, T_true _ y.1)),
          (λ x. T_true _ (is.1 (true-T x.0, true-T x.1))),
        );
    of_not = λ φ.
        let is = not_clause (holds M φ) S in (
          (λ x y. is.0 (true-T x) (true-T y)),
          (λ x. T_true _ (is.1 (λ t. x (T_true _ t)))),
        );
    of_ey = λ φ.
        let is = ey_clause M Known ruled (holds M φ) S c in (
          (λ x. let y = is.0 (true-T x) in (y.0, y.1, T_true _ y.2)),
          (λ x. T_true _ (is.1 (x.0, x.1, true-T x.2))),
        );
    of_es = λ φ ψ.
        let is = es_clause M Known ruled (holds M φ) (holds M ψ) S c in (
          (λ x. ⊎_elim (λ y. inl (T_true _ y))
              (λ y. inr (T_true _ y.0, (y.1.0, y.1.1, T_true _ y.1.2))) (is.0 (true-T x))),
          (λ x. T_true _ (is.1 (⊎_elim (λ y. inl (true-T y))
              (λ y. inr (true-T y.0, (y.1.0, y.1.1, true-T y.1.2))) x))),
        );
    of_as = λ φ ψ.
        let is = as_clause M Known ruled (holds M φ) (holds M ψ) S c in (
          (λ x. ⊎_elim (λ y. inl (T_true _ y))
              (λ y. inr (T_true _ y.0, (λ S' l. T_true _ (y.2 S' l)), y.1)) (is.0 (true-T x))),
          (λ x. T_true _ (is.1 (⊎_elim (λ y. inl (true-T y))
              (λ y. inr (true-T y.0, y.2, λ S' l. true-T (y.1 S' l))) x))),
        );
  }

  -- ---- No other truth does

  -- What since says by one truth it says by another that says the same of its two formulas.
  module _ (x y : Truths) (X : Keeps start ts x) (Y : Keeps start ts y) (φ ψ : Pactl)
      (eφ : (S : Cut) → Consistent ts S → x φ S ≡ y φ S) (eψ : (S : Cut) → Consistent ts S → x ψ S ≡ y ψ S) where
    es_carried : (d : ℕ) (S : Cut) → Consistent ts S → size k S < d → Has x S (exists_since φ ψ)
        → Has y S (exists_since φ ψ)
    es_carried zero S c l t = absurd (omega arith)
    es_carried (suc d) S c l t =
        ((Y S c).of_es φ ψ).1 (⊎_elim (λ u. inl (sym (eψ S c) ∙ u))
        (λ u. inr (
          sym (eφ S c) ∙ u.0,
          (
            u.1.0,
            u.1.1,
            es_carried d u.1.0 u.1.1.before
                (omega (arith, leads_smaller M Known ruled S u.1.0 u.1.1)) u.1.2,
          ),
        ))
        (((X S c).of_es φ ψ).0 t))

    as_carried : (d : ℕ) (S : Cut) → Consistent ts S → size k S < d → Has x S (all_since φ ψ) → Has y S (all_since φ ψ)
    as_carried zero S c l t = absurd (omega arith)
    as_carried (suc d) S c l t =
        ((Y S c).of_as φ ψ).1 (⊎_elim (λ u. inl (sym (eψ S c) ∙ u))
        (λ u. inr (
          sym (eφ S c) ∙ u.0,
          (λ S' m. as_carried d S' m.before
              (omega (arith, leads_smaller M Known ruled S S' m)) (u.1 S' m)),
          u.2,
        ))
        (((X S c).of_as φ ψ).0 t))

  module _ (x y : Truths) (X : Keeps start ts x) (Y : Keeps start ts y) where
    one_truth : (φ : Pactl) (S : Cut) → Consistent ts S → x φ S ≡ y φ S
    one_truth (proposition p b) S c =
        let a = (X S c).of_proposition p b in
        let d = (Y S c).of_proposition p b in
        same _ _ (λ t. d.1 (a.0 t)) (λ t. a.1 (d.0 t))
    one_truth (negation φ) S c =
        let e : x φ S ≡ y φ S = one_truth φ S c in
        let a = (X S c).of_not φ in
        let d = (Y S c).of_not φ in
        same _ _ (λ t. d.1 (λ u. a.0 t (e ∙ u))) (λ t. a.1 (λ u. d.0 t (sym e ∙ u)))
    one_truth (conjunction φ ψ) S c =
        let e : x φ S ≡ y φ S = one_truth φ S c in
        let f : x ψ S ≡ y ψ S = one_truth ψ S c in
        let a = (X S c).of_and φ ψ in
        let d = (Y S c).of_and φ ψ in
        same _ _ (λ t. let u = a.0 t in d.1 (sym e ∙ u.0, sym f ∙ u.1))
        (λ t. let u = d.0 t in a.1 (e ∙ u.0, f ∙ u.1))
    one_truth (exists_yesterday φ) S c =
        let a = (X S c).of_ey φ in
        let d = (Y S c).of_ey φ in
        same _ _
        (λ t. let u = a.0 t in d.1 (u.0, u.1, sym (one_truth φ u.0 u.1.before) ∙ u.2))
        (λ t. let u = d.0 t in a.1 (u.0, u.1, one_truth φ u.0 u.1.before ∙ u.2))
    one_truth (exists_since φ ψ) S c =
        same _ _
        (es_carried x y X Y φ ψ (one_truth φ) (one_truth ψ) (suc (size k S)) S c (omega arith))
        (es_carried y x Y X φ ψ (λ R b. sym (one_truth φ R b)) (λ R b. sym (one_truth ψ R b)) (suc (size k S)) S c
        (omega arith))
    one_truth (all_since φ ψ) S c =
        same _ _
        (as_carried x y X Y φ ψ (one_truth φ) (one_truth ψ) (suc (size k S)) S c (omega arith))
        (as_carried y x Y X φ ψ (λ R b. sym (one_truth φ R b)) (λ R b. sym (one_truth ψ R b)) (suc (size k S)) S c
        (omega arith))

-- ---- Theorem

pub clauses_as_printed : ClausesAsPrinted
clauses_as_printed k start ts h = record {
  keeps = holds_keeps k start ts h;
  no_other = λ truths K. one_truth k start ts h truths (holds (model_over k start ts)) K (holds_keeps k start ts h);
}
