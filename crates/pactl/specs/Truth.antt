-- PaCTL's truth at a cut of a history (source 000, section 2: semantics; 01, The rule). It is made from what precedes
-- what, the labels and the formula alone.
use Rattle.std.specs.Prelude.{ℕ, zero, suc, ◌+◌, Bool, true, false, not, ◌&&◌, ◌||◌, cond, List, [], ◌∷◌, ◌++◌, eqb, get_or}
use Rattle.clocks.specs.declared.Event.{Event}
use Rattle.codec.specs.Bit.{bit}
use Rattle.clocks.specs.History.{label_of}
use Rattle.clocks.specs.Event.{Cut}
use Rattle.clocks.specs.Bounded.{any_of}
use Rattle.clocks.specs.Tested.{predecessors}
use Rattle.pactl.specs.declared.Line.{Line}
use Rattle.pactl.specs.Pactl.{Pactl, proposition, negation, conjunction, exists_yesterday, exists_since, all_since}

-- What a formula is judged in: the number of processes, the labels at the start, the events taken, newest first.
pub record Model : Type 0 where
  pub processes : ℕ
  pub start : Cut
  pub history : List Event

-- A property of cuts.
abbrev pub Property : Type 0
Property = Cut → Bool

-- The cuts that precede a cut.
unfoldable pub preceding : (M : Model) (S : Cut) → List Cut
preceding M S = predecessors M.processes M.history S

-- The test passes at each element.
unfoldable pub all_of : {A : Type 0} → (t : A → Bool) → (xs : List A) → Bool
all_of t [] = true
all_of t (x ∷ xs) = t x && all_of t xs

-- The number of events that a cut counts, each at each of its processes.
unfoldable pub size : (n : ℕ) (S : Cut) → ℕ
size zero S = 0
size (suc n) S = S n + size n S

-- A property that is given by what it is at the preceding cuts, unrolled d times.
unfoldable pub unrolled : (F : Property → Property) (n : ℕ) → Property
unrolled F zero S = F (λ R. false) S
unrolled F (suc d) S = F (unrolled F d) S

-- ... as often as any chain of preceding cuts is long.
unfoldable pub recursive : (M : Model) (F : Property → Property) → Property
recursive M F S = unrolled F (size M.processes S) S

-- ---- The six operators, each as source 000 has it

-- Proposition b holds at process p: its last event in the cut says so, or its start labels do.
unfoldable pub proposition_holds : (M : Model) (p b : ℕ) → Property
proposition_holds M p b S = bit (label_of M.start M.history p (S p)) b

unfoldable pub not_holds : (a : Property) → Property
not_holds a S = not (a S)

unfoldable pub and_holds : (a b : Property) → Property
and_holds a b S = a S && b S

-- EY a: some preceding cut has a.
unfoldable pub ey_holds : (M : Model) (a : Property) → Property
ey_holds M a S = any_of a (preceding M S)

-- E(a S b): b, or a and some preceding cut has E(a S b).
unfoldable pub es_step : (M : Model) (a b x : Property) → Property
es_step M a b x S = b S || (a S && any_of x (preceding M S))

unfoldable pub es_holds : (M : Model) (a b : Property) → Property
es_holds M a b = recursive M (es_step M a b)

-- A(a S b): b, or a and some cut precedes and all that do have A(a S b).
unfoldable pub as_step : (M : Model) (a b x : Property) → Property
as_step M a b x S = b S || (a S && (any_of (λ R. true) (preceding M S) && all_of x (preceding M S)))

unfoldable pub as_holds : (M : Model) (a b : Property) → Property
as_holds M a b = recursive M (as_step M a b)

-- ---- A formula's truth
unfoldable pub holds : (M : Model) (f : Pactl) → Property
holds M (proposition p b) = proposition_holds M p b
holds M (negation f) = not_holds (holds M f)
holds M (conjunction f g) = and_holds (holds M f) (holds M g)
holds M (exists_yesterday f) = ey_holds M (holds M f)
holds M (exists_since f g) = es_holds M (holds M f) (holds M g)
holds M (all_since f g) = as_holds M (holds M f) (holds M g)

-- ---- A table line's truth

-- The property of a line that is not there.
abbrev pub never : Property
never S = false

-- The property of a line, from those of the earlier lines (01, The rule: kinds 0 to 5). No line of another kind is
-- good.
unfoldable pub line_holds : (M : Model) (earlier : List Property) (l : Line) → Property
line_holds M earlier l =
    let a = get_or earlier l.a never in
    let b = get_or earlier l.b never in
    cond (eqb l.kind 0) (proposition_holds M l.a l.b)
    (cond (eqb l.kind 1) (not_holds a)
    (cond (eqb l.kind 2) (and_holds a b)
    (cond (eqb l.kind 3) (ey_holds M a)
    (cond (eqb l.kind 4) (es_holds M a b)
    (as_holds M a b)))))

-- The properties of a table's lines, after those of earlier ones.
unfoldable pub lines_hold : (M : Model) (earlier : List Property) (ls : List Line) → List Property
lines_hold M earlier [] = earlier
lines_hold M earlier (l ∷ ls) = lines_hold M (earlier ++ (line_holds M earlier l ∷ [])) ls

-- The truth of line i of a table.
unfoldable pub line_truth : (M : Model) (ls : List Line) (i : ℕ) → Property
line_truth M ls i = get_or (lines_hold M [] ls) i never
