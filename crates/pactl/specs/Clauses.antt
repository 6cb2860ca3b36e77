-- The six clauses by which a line is judged (02 [3]), in the order of source 000, section 3, where each is a sentence
-- under "Calculating the Values of Subformulas on the Nodes". Each gives PaCTL's truth of its line at a cut, from the
-- labels there, the earlier lines there that it names, and the one line that it reads at the preceding cuts; none goes
-- through another. What the clauses are: Judge. Proved in ClauseLaws.
--
-- The source's letters: val(F, η) is the bit of a line at a cut. Its F is the cut S, its F' a preceding cut S', L(F)
-- the label bytes; q is proposition b of process a; η and η₁ are line a, η₂ is line b, and the formula judged is line
-- i. The S between η₁ and η₂ is since. The source looks for F' in its graph, where dropped frontiers are not; the
-- clauses speak of all preceding cuts, and window_laws JudgingNew shows that a window has what they need.
use Rattle.std.specs.Prelude.{ℕ, ◌<◌, ◌≡◌, Bool, List, ◌↔◌, T, get_or}
use Rattle.clocks.specs.declared.Event.{Event}
use Rattle.codec.specs.Bit.{bit}
use Rattle.clocks.specs.Event.{Cut}
use Rattle.clocks.specs.History.{label_of}
use Rattle.pactl.specs.declared.Line.{Line}
use Rattle.pactl.specs.Line.{proposition_line, not_line, and_line, ey_line, es_line, as_line}
use Rattle.pactl.specs.Table.{LineIs}
use Rattle.pactl.specs.Truth.{Model, line_truth}
use Rattle.pactl.specs.ModelCuts.{Ruled, CutOf, Leads}
use Rattle.pactl.specs.Judge.{proposition_judged, not_judged, and_judged, ey_judged, es_judged, as_judged}

-- ---- What a clause is given, at a cut S

-- The label byte of process p is that of its last event in the cut, or its start label.
abbrev pub LabelHere : (M : Model) (S : Cut) (labels : List ℕ) (p : ℕ) → Type 0
LabelHere M S labels p = get_or labels p 0 ≡ label_of M.start M.history p (S p)

-- Bit j of v is line j's truth at the cut.
abbrev pub Here : (M : Model) (ls : List Line) (S : Cut) (v j : ℕ) → Type 0
Here M ls S v j = bit v j ≡ line_truth M ls j S

-- Bit j of any says whether line j is true at some preceding cut.
abbrev pub SomeBefore : (M : Model) (ls : List Line) (S : Cut) (any j : ℕ) → Type 0
SomeBefore M ls S any j = T (bit any j) ↔ ((S' : Cut) × Leads M S' S × T (line_truth M ls j S'))

-- Bit j of all says whether line j is true at every preceding cut.
abbrev pub AllBefore : (M : Model) (ls : List Line) (S : Cut) (all j : ℕ) → Type 0
AllBefore M ls S all j = T (bit all j) ↔ ((S' : Cut) → Leads M S' S → T (line_truth M ls j S'))

-- `preceded` says whether some cut precedes.
abbrev pub SomePrecedes : (M : Model) (S : Cut) (preceded : Bool) → Type 0
SomePrecedes M S preceded = T preceded ↔ ((S' : Cut) × Leads M S' S)

-- ---- The clauses, of line i at a cut S
module _ (M : Model) (ls : List Line) (i : ℕ) (S : Cut) where
  -- Sentence 1, val(F, q): proposition b of process a.
  abbrev pub PropositionRight : Type 0
  PropositionRight = (a b : ℕ) (labels : List ℕ) → LineIs ls i (proposition_line a b) → LabelHere M S labels a
      → proposition_judged labels a b ≡ line_truth M ls i S

  -- Sentence 2, val(F, ¬η): not line a.
  abbrev pub NotRight : Type 0
  NotRight = (a v : ℕ) → LineIs ls i (not_line a) → a < i → Here M ls S v a → not_judged v a ≡ line_truth M ls i S

  -- Sentence 3, val(F, (η₁ ∧ η₂)): line a and line b.
  abbrev pub AndRight : Type 0
  AndRight = (a b v : ℕ) → LineIs ls i (and_line a b) → a < i → b < i → Here M ls S v a → Here M ls S v b
      → and_judged v a b ≡ line_truth M ls i S

  -- Sentence 4, val(F, EY η): some preceding cut has line a.
  abbrev pub EyRight : Type 0
  EyRight = (a any : ℕ) → LineIs ls i (ey_line a) → a < i → SomeBefore M ls S any a
      → ey_judged any a ≡ line_truth M ls i S

  -- Sentence 5, val(F, E(η₁ S η₂)): line b, or line a and some preceding cut has this line.
  abbrev pub EsRight : Type 0
  EsRight = (a b v any : ℕ) → LineIs ls i (es_line a b) → a < i → b < i → Here M ls S v a → Here M ls S v b
      → SomeBefore M ls S any i → es_judged v any i a b ≡ line_truth M ls i S

  -- Sentence 6, val(F, A(η₁ S η₂)): line b, or line a and there is a preceding cut and all of them have this line.
  -- Where nothing precedes, `all` may be anything: the first frontier is judged with 0.
  abbrev pub AsRight : Type 0
  AsRight = (a b v all : ℕ) (preceded : Bool) → LineIs ls i (as_line a b) → a < i → b < i → Here M ls S v a
      → Here M ls S v b → SomePrecedes M S preceded → (T preceded → AllBefore M ls S all i)
      → as_judged v all preceded i a b ≡ line_truth M ls i S

-- ---- Statement

-- The six of a line at a cut.
pub record SixRight (M : Model) (ls : List Line) (i : ℕ) (S : Cut) : Type 0 where
  pub of_proposition : PropositionRight M ls i S
  pub of_not : NotRight M ls i S
  pub of_and : AndRight M ls i S
  pub of_ey : EyRight M ls i S
  pub of_es : EsRight M ls i S
  pub of_as : AsRight M ls i S

-- They hold of every line of every table, at every consistent cut of a history under any rule for valid clocks. (The
-- laws of the first three ask for no history: they look at this cut alone.)
abbrev pub ClausesRight : Type 1
ClausesRight =
    (M : Model) (valid : List Event → Event → Type 0) → Ruled M valid
    → (ls : List Line) (i : ℕ) (S : Cut) → CutOf M S → SixRight M ls i S
