-- The six clauses give PaCTL's truth, in the order of source 000, section 3, each from what it is given and none
-- through another. What each law says: Clauses.
use Rattle.std.specs.Prelude.{ℕ, ◌≡◌, true, false, List, T}
use Rattle.std.proofs.Math.Path.{sym, ap, ap₂}
use Rattle.std.proofs.Common.{◌∙◌}
use Rattle.std.proofs.Math.Bool.{Bool, not, ◌&&◌, ◌||◌}
use Rattle.clocks.specs.declared.Event.{Event}
use Rattle.codec.specs.Bit.{bit}
use Rattle.clocks.specs.Event.{Cut}
use Rattle.clocks.specs.Bounded.{any_of}
use Rattle.clocks.specs.stored.BoundedLaws.{same_test}
use Rattle.pactl.specs.declared.Line.{Line}
use Rattle.pactl.specs.Truth.{Model, Property, preceding, all_of, proposition_holds, not_holds, and_holds, ey_holds, es_step, es_holds, as_step, as_holds, line_truth}
use Rattle.pactl.specs.ModelCuts.{Ruled, CutOf}
use Rattle.pactl.specs.TruthLaws.{recursive_is, es_looks, as_looks, some-before, all-before}
use Rattle.pactl.specs.LineTruthLaws.{proposition-line, not_line_lem, and-line, ey_line_lem, es_line_lem, as_line_lem}
use Rattle.pactl.specs.Judge.{proposition_judged, not_judged, and_judged, ey_judged, es_judged, as_judged}
use Rattle.pactl.specs.Clauses.{SomeBefore, AllBefore, SomePrecedes, PropositionRight, NotRight, AndRight, EyRight, EsRight, AsRight, ClausesRight}

-- ---- What is said of the preceding cuts, as a test over the list of them
module _ (M : Model) (valid : List Event → Event → Type 0) (m : Ruled M valid)
    (ls : List Line) (S : Cut) (c : CutOf M S) where
  some-test : (any j : ℕ) → SomeBefore M ls S any j → bit any j ≡ any_of (line_truth M ls j) (preceding M S)
  some-test any j h =
      let x : Property = line_truth M ls j in
      let is = some-before M valid m x S c in
      same_test (bit any j) (any_of x (preceding M S)) (λ t. is.1 (h.0 t)) (λ t. h.1 (is.0 t))

  all-test : (all j : ℕ) → AllBefore M ls S all j → bit all j ≡ all_of (line_truth M ls j) (preceding M S)
  all-test all j h =
      let x : Property = line_truth M ls j in
      let is = all-before M valid m x S c in
      same_test (bit all j) (all_of x (preceding M S)) (λ t. is.1 (h.0 t)) (λ t. h.1 (is.0 t))

  precedes_test : (preceded : Bool) → SomePrecedes M S preceded → preceded ≡ any_of (λ R. true) (preceding M S)
  precedes_test preceded h =
      let is = some-before M valid m (λ R. true) S c in
      same_test preceded (any_of (λ R. true) (preceding M S))
      (λ t. let r = h.0 t in is.1 (r.0, r.1, tt))
      (λ t. let r = is.0 t in h.1 (r.0, r.1))

-- A second part counts only where the first is true.
and_same : (p p' x y : Bool) → p ≡ p' → (T p → x ≡ y) → p && x ≡ p' && y
and_same true p' x y e f = ap₂ ◌&&◌ e (f tt)
and_same false p' x y e f = ap (λ (t : Bool). t && y) e

-- ---- The six laws
module _ (M : Model) (ls : List Line) (i : ℕ) (S : Cut) where
  -- Sentence 1, val(F, q).
  pub proposition_right : PropositionRight M ls i S
  unfolding proposition_judged proposition_holds
  proposition_right a b labels l label =
      ap (λ (x : ℕ). bit x b) label ∙ sym (ap (λ (q : Property). q S) (proposition-line M ls i a b l))

  -- Sentence 2, val(F, ¬η).
  pub not_right : NotRight M ls i S
  unfolding not_judged not_holds
  not_right a v l la ha = ap not ha ∙ sym (ap (λ (q : Property). q S) (not_line_lem M ls i a la l))

  -- Sentence 3, val(F, (η₁ ∧ η₂)).
  pub and_right : AndRight M ls i S
  unfolding and_judged and_holds
  and_right a b v l la lb ha hb = ap₂ ◌&&◌ ha hb ∙ sym (ap (λ (q : Property). q S) (and-line M ls i a b la lb l))

  module _ (valid : List Event → Event → Type 0) (m : Ruled M valid) (c : CutOf M S) where
    -- Sentence 4, val(F, EY η).
    pub ey_right : EyRight M ls i S
    unfolding ey_judged ey_holds
    ey_right a any l la some =
        some-test M valid m ls S c any a some ∙ sym (ap (λ (q : Property). q S) (ey_line_lem M ls i a la l))

    -- Sentence 5, val(F, E(η₁ S η₂)).
    pub es_right : EsRight M ls i S
    unfolding es_judged es_holds es_step
    es_right a b v any l la lb ha hb some =
        let x : Property = line_truth M ls a in
        let y : Property = line_truth M ls b in
        let e : line_truth M ls i ≡ es_holds M x y = es_line_lem M ls i a b la lb l in
        let before-has : bit any i ≡ any_of (es_holds M x y) (preceding M S) =
        rw e at (some-test M valid m ls S c any i some) in
        ap₂ ◌||◌ hb (ap₂ ◌&&◌ ha before-has)
        ∙ sym (ap (λ (q : Property). q S) e ∙ recursive_is M valid m (es_step M x y) (es_looks M valid m x y) S c)

    -- Sentence 6, val(F, A(η₁ S η₂)).
    pub as_right : AsRight M ls i S
    unfolding as_judged as_holds as_step
    as_right a b v all preceded l la lb ha hb one every =
        let x : Property = line_truth M ls a in
        let y : Property = line_truth M ls b in
        let e : line_truth M ls i ≡ as_holds M x y = as_line_lem M ls i a b la lb l in
        let some : Bool = any_of (λ R. true) (preceding M S) in
        let rest : Bool = all_of (as_holds M x y) (preceding M S) in
        let before_have : preceded && bit all i ≡ some && rest = and_same preceded some (bit all i) rest
        (precedes_test M valid m ls S c preceded one) (λ t. rw e at (all-test M valid m ls S c all i (every t))) in
        ap₂ ◌||◌ hb (ap₂ ◌&&◌ ha before_have)
        ∙ sym (ap (λ (q : Property). q S) e ∙ recursive_is M valid m (as_step M x y) (as_looks M valid m x y) S c)

-- ---- Theorem
pub clauses_right : ClausesRight
clauses_right M valid m ls i S c = record {
  of_proposition = proposition_right M ls i S;
  of_not = not_right M ls i S;
  of_and = and_right M ls i S;
  of_ey = ey_right M ls i S valid m c;
  of_es = es_right M ls i S valid m c;
  of_as = as_right M ls i S valid m c;
}
