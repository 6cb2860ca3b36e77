-- The lines laid down for a form.
use Rattle.std.specs.Prelude.{ℕ, ◌+◌, ◌-◌, List, [], ◌∷◌, ◌++◌, length}
use Rattle.pactl.specs.declared.Line.{Line}
use Rattle.rules.specs.declared.Constant.{Constant}
use Rattle.rules.specs.declared.Constant.TheVariants.{True, False}
use Rattle.rules.specs.declared.Unary.{Unary}
use Rattle.rules.specs.declared.Unary.TheVariants.{Not, Ey, Ep, Ap, Ay, Eh, Ah}
use Rattle.rules.specs.declared.Binary.{Binary}
use Rattle.rules.specs.declared.Binary.TheVariants.{And, Es, As, Or}
use Rattle.rules.specs.Formula.{Formula, atom, constant, unary, binary}
use Rattle.pactl.specs.Line.{proposition_line, not_line, and_line, ey_line, es_line, as_line}

-- The lines of true from line n on: proposition 0 of process 0, not, and of those two, not.
unfoldable pub true_lines : (n : ℕ) → List Line
true_lines n = proposition_line 0 0 ∷ not_line n ∷ and_line n (n + 1) ∷ not_line (n + 2) ∷ []

-- The lines of a word alone, from line n on.
unfoldable pub constant_lines : (True : Constant) (n : ℕ) → List Line
constant_lines True n = true_lines n
constant_lines False n = true_lines n ++ not_line (n + 3) ∷ []

-- The lines that a word with one form has before that form's, from line n on: those of true, or none.
unfoldable pub lines_before : (Not : Unary) (n : ℕ) → List Line
lines_before Not n = []
lines_before Ey n = []
lines_before Ep n = true_lines n
lines_before Ap n = true_lines n
lines_before Ay n = []
lines_before Eh n = true_lines n
lines_before Ah n = true_lines n

-- The lines that it has after that form's. t is the last line of true, a the last line of the form.
unfoldable pub lines_after : (Not : Unary) (t a : ℕ) → List Line
lines_after Not t a = not_line a ∷ []
lines_after Ey t a = ey_line a ∷ []
lines_after Ep t a = es_line t a ∷ []
lines_after Ap t a = as_line t a ∷ []
lines_after Ay t a = not_line a ∷ ey_line (a + 1) ∷ not_line (a + 2) ∷ []
lines_after Eh t a = not_line a ∷ as_line t (a + 1) ∷ not_line (a + 2) ∷ []
lines_after Ah t a = not_line a ∷ es_line t (a + 1) ∷ not_line (a + 2) ∷ []

-- The lines that a word with two forms has between them. a is the last line of the first form.
unfoldable pub lines_between : (And : Binary) (a : ℕ) → List Line
lines_between And a = []
lines_between Es a = []
lines_between As a = []
lines_between Or a = not_line a ∷ []

-- The lines that it has after both. a and b are the last lines of the two forms.
unfoldable pub lines_after_both : (And : Binary) (a b : ℕ) → List Line
lines_after_both And a b = and_line a b ∷ []
lines_after_both Es a b = es_line a b ∷ []
lines_after_both As a b = as_line a b ∷ []
lines_after_both Or a b = not_line b ∷ and_line (a + 1) (b + 1) ∷ not_line (b + 2) ∷ []

-- The number of lines that a word adds to those of the forms inside (01, Turned back, from the input: 3).
unfoldable pub constant_weight : (True : Constant) → ℕ
constant_weight True = 4
constant_weight False = 5

unfoldable pub unary_weight : (Not : Unary) → ℕ
unary_weight Not = 1
unary_weight Ey = 1
unary_weight Ep = 5
unary_weight Ap = 5
unary_weight Ay = 3
unary_weight Eh = 7
unary_weight Ah = 7

unfoldable pub binary_weight : (And : Binary) → ℕ
binary_weight And = 1
binary_weight Es = 1
binary_weight As = 1
binary_weight Or = 4

-- The number of lines of a form, those of the forms inside it included.
unfoldable pub line_count : (f : Formula) → ℕ
line_count (atom p b) = 1
line_count (constant w) = constant_weight w
line_count (unary w f) = line_count f + unary_weight w
line_count (binary w f g) = line_count f + line_count g + binary_weight w

-- The last line of a form whose lines begin at n.
abbrev pub last_line : (n : ℕ) (f : Formula) → ℕ
last_line n f = n + line_count f - 1

-- The lines of a form, laid down from line n on: inner forms first, left to right, nothing shared (01, The rule).
unfoldable pub lines_at : (n : ℕ) (f : Formula) → List Line
lines_at n (atom p b) = proposition_line p b ∷ []
lines_at n (constant w) = constant_lines w n
lines_at n (unary w f) =
    let m = n + length (lines_before w n) in
    lines_before w n ++ lines_at m f ++ lines_after w (n + 3) (last_line m f)
lines_at n (binary w f g) =
    let a = last_line n f in
    let m = n + line_count f + length (lines_between w a) in
    lines_at n f ++ lines_between w a ++ lines_at m g ++ lines_after_both w a (last_line m g)
