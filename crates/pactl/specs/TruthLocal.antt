-- Locality of truth: at a consistent cut every formula and every table line is as true in one history as in another
-- that has the same events inside the cut. So one more event changes nothing, and neither does another order of the
-- same events.
use Rattle.std.specs.Prelude.{ℕ, zero, suc, ◌<◌, ◌≡◌, refl, Bool, cond, T, eqb, get_or}
use Rattle.std.proofs.Common.{arith, ap, subst, ◌∙◌}
use Rattle.std.proofs.Math.Path.{sym, ap₂, subst⁻¹}
use Rattle.std.proofs.Math.Bool.{◌&&◌, ◌||◌, true, false}
use mathlib.Core.List.{List, [], ◌∷◌, ◌++◌}
use Rattle.clocks.specs.declared.Event.{Event}
use Rattle.clocks.specs.History.{label_of, Consistent, Agree}
use Rattle.clocks.specs.Causal.{Causal}
use Rattle.clocks.specs.Event.{Cut}
use Rattle.clocks.specs.validity.ClockRule.{history_causal}
use Rattle.clocks.specs.Bounded.{any_of}
use Rattle.clocks.specs.cuts.EventLaws.{apply_up}
use Rattle.clocks.specs.stored.BoundedLaws.{same_test}
use Rattle.clocks.specs.cuts.Agree.{agree_sym, agree_below, agree_consistent, agree_precedes}
use Rattle.clocks.specs.Valid.{History, ClockRule}
use Rattle.pactl.specs.ModelCuts.{Ruled, Leads}
use Rattle.pactl.specs.TruthLaws.{recursive_is, es_looks, some-before, all-before, leads_smaller, as_looks}
use Rattle.pactl.specs.Truth.{Model, Property, all_of, size, proposition_holds, not_holds, and_holds, ey_holds, es_step, es_holds, as_step, as_holds, holds, line_holds, lines_hold, line_truth, never, preceding}
use Rattle.pactl.specs.declared.Line.{Line}
use Rattle.pactl.specs.Pactl.{Pactl, proposition, negation, conjunction, exists_yesterday, exists_since, all_since}

-- ---- Two histories of the same processes and start labels
module _ (n : ℕ) (start : Cut) (valid : List Event → Event → Type 0) (r : ClockRule n valid) (ts us : List Event) (h : History n valid ts) (i : History n valid us) where
  abbrev here : Model
  here = record { processes = n; start = start; history = ts }

  abbrev there : Model
  there = record { processes = n; start = start; history = us }

  ruled_here : Ruled here valid
  ruled_here = record { rule = r; by_rule = h }

  ruled_there : Ruled there valid
  ruled_there = record { rule = r; by_rule = i }

  causal_here : Causal ts
  causal_here = history_causal n valid r ts h

  causal_there : Causal us
  causal_there = history_causal n valid r us i

  -- the two properties say the same at a cut inside which the histories agree
  abbrev Local : Property → Property → Type 0
  Local a b = (S : Cut) → Consistent ts S → Agree S ts us → a S ≡ b S

  -- what is before, is before in both, and the histories agree inside it
  inside : (S S' : Cut) → Agree S ts us → Leads here S' S → Agree S' ts us
  inside S S' a l = agree_below S S' ts us (λ p. omega (arith, ap (λ (R : Cut). R p) l.leads, apply_up l.by S' p)) a

  over : (S S' : Cut) → Agree S ts us → Leads here S' S → Leads there S' S
  over S S' a l = agree_precedes ts us causal_here causal_there S a S' l

  back : (S S' : Cut) → Agree S ts us → Leads there S' S → Leads here S' S
  back S S' a l = agree_precedes us ts causal_there causal_here S (agree_sym a) S' l

  -- ---- over the preceding cuts
  module _ (S : Cut) (c : Consistent ts S) (a : Agree S ts us) (x y : Property) (e : (S' : Cut) → Leads here S' S → x S' ≡ y S') where
    c' : Consistent us S
    c' = agree_consistent ts us S a c

    some_local : any_of x (preceding here S) ≡ any_of y (preceding there S)
    some_local = same_test (any_of x (preceding here S)) (any_of y (preceding there S))
        (λ t. let w = (some-before here valid ruled_here x S c).0 t in (some-before there valid ruled_there y S c').1 (w.0, over S w.0 a w.1, subst T (e w.0 w.1) w.2))
        (λ t. let w = (some-before there valid ruled_there y S c').0 t in let l = back S w.0 a w.1 in (some-before here valid ruled_here x S c).1 (w.0, l, subst⁻¹ T (e w.0 l) w.2))

    all_local : all_of x (preceding here S) ≡ all_of y (preceding there S)
    all_local = same_test (all_of x (preceding here S)) (all_of y (preceding there S))
        (λ t. (all-before there valid ruled_there y S c').1 (λ S' l. let k = back S S' a l in subst T (e S' k) ((all-before here valid ruled_here x S c).0 t S' k)))
        (λ t. (all-before here valid ruled_here x S c).1 (λ S' l. subst⁻¹ T (e S' l) ((all-before there valid ruled_there y S c').0 t S' (over S S' a l))))

  -- ---- the six operators
  proposition_local : (p b : ℕ) → Local (proposition_holds here p b) (proposition_holds there p b)
  unfolding proposition_holds label_of
  proposition_local p b S c a = rw (a.events p (S p) (omega arith))

  not_local : (a b : Property) → Local a b → Local (not_holds a) (not_holds b)
  unfolding not_holds
  not_local a b l S c g = rw (l S c g)

  and_local : (a b a' b' : Property) → Local a a' → Local b b' → Local (and_holds a b) (and_holds a' b')
  unfolding and_holds
  and_local a b a' b' l k S c g = rw (l S c g, k S c g)

  ey_local : (a a' : Property) → Local a a' → Local (ey_holds here a) (ey_holds there a')
  unfolding ey_holds
  ey_local a a' l S c g = some_local S c g a a' (λ S' k. l S' k.before (inside S S' g k))

  -- since, of both kinds: two properties that say the same wherever they do at the preceding cuts say the same
  by_size : (x y : Property) → ((S : Cut) → Consistent ts S → Agree S ts us → ((S' : Cut) → Leads here S' S → x S' ≡ y S') → x S ≡ y S)
      → (d : ℕ) (S : Cut) → Consistent ts S → Agree S ts us → size n S < d → x S ≡ y S
  by_size x y at zero S c g l = absurd (omega arith)
  by_size x y at (suc d) S c g l = at S c g (λ S' k. by_size x y at d S' k.before (inside S S' g k) (omega (arith, leads_smaller here valid ruled_here S S' k)))

  es_local : (a b a' b' : Property) → Local a a' → Local b b' → Local (es_holds here a b) (es_holds there a' b')
  unfolding es_holds es_step
  es_local a b a' b' l k S c g = by_size (es_holds here a b) (es_holds there a' b')
      (λ R d f e.
      recursive_is here valid ruled_here (es_step here a b) (es_looks here valid ruled_here a b) R d
      ∙ ap₂ ◌||◌ (k R d f) (ap₂ ◌&&◌ (l R d f) (some_local R d f (es_holds here a b) (es_holds there a' b') e))
      ∙ sym (recursive_is there valid ruled_there (es_step there a' b') (es_looks there valid ruled_there a' b') R (agree_consistent ts us R f d)))
      (suc (size n S)) S c g (omega arith)

  as_local : (a b a' b' : Property) → Local a a' → Local b b' → Local (as_holds here a b) (as_holds there a' b')
  unfolding as_holds as_step
  as_local a b a' b' l k S c g = by_size (as_holds here a b) (as_holds there a' b')
      (λ R d f e.
      recursive_is here valid ruled_here (as_step here a b) (as_looks here valid ruled_here a b) R d
      ∙ ap₂ ◌||◌ (k R d f) (ap₂ ◌&&◌ (l R d f) (ap₂ ◌&&◌ (some_local R d f (λ Q. true) (λ Q. true) (λ S' m. refl)) (all_local R d f (as_holds here a b) (as_holds there a' b') e)))
      ∙ sym (recursive_is there valid ruled_there (as_step there a' b') (as_looks there valid ruled_there a' b') R (agree_consistent ts us R f d)))
      (suc (size n S)) S c g (omega arith)

  -- ---- Theorem: a formula
  pub holds_local : (f : Pactl) (S : Cut) → Consistent ts S → Agree S ts us → holds here f S ≡ holds there f S
  unfolding holds
  holds_local (proposition p b) = proposition_local p b
  holds_local (negation f) = not_local (holds here f) (holds there f) (holds_local f)
  holds_local (conjunction f g) = and_local (holds here f) (holds here g) (holds there f) (holds there g) (holds_local f) (holds_local g)
  holds_local (exists_yesterday f) = ey_local (holds here f) (holds there f) (holds_local f)
  holds_local (exists_since f g) = es_local (holds here f) (holds here g) (holds there f) (holds there g) (holds_local f) (holds_local g)
  holds_local (all_since f g) = as_local (holds here f) (holds here g) (holds there f) (holds there g) (holds_local f) (holds_local g)

  -- ---- Theorem: a table's lines
  abbrev Locals : List Property → List Property → Type 0
  Locals [] [] = Unit {0}
  Locals [] (y ∷ ys) = ⊥
  Locals (x ∷ xs) [] = ⊥
  Locals (x ∷ xs) (y ∷ ys) = Local x y × Locals xs ys

  locals_at : (xs ys : List Property) → Locals xs ys → (j : ℕ) → Local (get_or xs j never) (get_or ys j never)
  locals_at [] [] l j = λ S c g. refl
  locals_at [] (y ∷ ys) l j = absurd l
  locals_at (x ∷ xs) [] l j = absurd l
  locals_at (x ∷ xs) (y ∷ ys) l zero = l.0
  locals_at (x ∷ xs) (y ∷ ys) l (suc j) = locals_at xs ys l.1 j

  locals_more : (xs ys : List Property) → Locals xs ys → (x y : Property) → Local x y → Locals (xs ++ (x ∷ [])) (ys ++ (y ∷ []))
  locals_more [] [] l x y m = (m, tt)
  locals_more [] (z ∷ ys) l x y m = absurd l
  locals_more (z ∷ xs) [] l x y m = absurd l
  locals_more (z ∷ xs) (w ∷ ys) l x y m = (l.0, locals_more xs ys l.1 x y m)

  line_local : (xs ys : List Property) → Locals xs ys → (l : Line) → Local (line_holds here xs l) (line_holds there ys l)
  unfolding line_holds
  line_local xs ys m l =
      let a = locals_at xs ys m l.a in
      let b = locals_at xs ys m l.b in
      pick (eqb l.kind 0) (proposition_local l.a l.b)
      (pick (eqb l.kind 1) (not_local (get_or xs l.a never) (get_or ys l.a never) a)
      (pick (eqb l.kind 2) (and_local (get_or xs l.a never) (get_or xs l.b never) (get_or ys l.a never) (get_or ys l.b never) a b)
      (pick (eqb l.kind 3) (ey_local (get_or xs l.a never) (get_or ys l.a never) a)
      (pick (eqb l.kind 4) (es_local (get_or xs l.a never) (get_or xs l.b never) (get_or ys l.a never) (get_or ys l.b never) a b)
      (as_local (get_or xs l.a never) (get_or xs l.b never) (get_or ys l.a never) (get_or ys l.b never) a b)))))
    where
      pick : (t : Bool) {x y x' y' : Property} → Local x y → Local x' y' → Local (cond t x x') (cond t y y')
      pick true m n = m
      pick false m n = n

  lines_local : (ls : List Line) (xs ys : List Property) → Locals xs ys → Locals (lines_hold here xs ls) (lines_hold there ys ls)
  unfolding lines_hold
  lines_local [] xs ys m = m
  lines_local (l ∷ ls) xs ys m = lines_local ls (xs ++ (line_holds here xs l ∷ [])) (ys ++ (line_holds there ys l ∷ []))
      (locals_more xs ys m (line_holds here xs l) (line_holds there ys l) (line_local xs ys m l))

  pub line-truth_local : (ls : List Line) (j : ℕ) (S : Cut) → Consistent ts S → Agree S ts us → line_truth here ls j S ≡ line_truth there ls j S
  unfolding line_truth
  line-truth_local ls j = locals_at (lines_hold here [] ls) (lines_hold there [] ls) (lines_local ls [] [] tt) j
