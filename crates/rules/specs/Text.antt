-- The text of a form, byte by byte, and the limits on a rule (01, The rule: a form; Turned back, from the input: 1 to
-- 4).
use Rattle.std.specs.Prelude.{ℕ, suc, ◌+◌, ◌≤◌, max, List, [], ◌∷◌, ◌++◌, get_or}
use Rattle.codec.specs.Ascii.{ascii}
use Rattle.rules.specs.declared.Constant.{Constant}
use Rattle.rules.specs.declared.Constant.TheVariants.{True, False}
use Rattle.rules.specs.declared.Unary.{Unary}
use Rattle.rules.specs.declared.Unary.TheVariants.{Not, Ey, Ep, Ap, Ay, Eh, Ah}
use Rattle.rules.specs.declared.Binary.{Binary}
use Rattle.rules.specs.declared.Binary.TheVariants.{And, Es, As, Or}
use Rattle.rules.specs.Formula.{Formula, atom, constant, unary, binary, Atoms, AtomsBelow}
use Rattle.rules.specs.Line.{line_count}

-- The byte at a place of a text; behind its end 256, which is no byte.
abbrev pub byte_at : (s : List ℕ) (i : ℕ) → ℕ
byte_at s i = get_or s i 256

-- The letters of each word.
unfoldable pub constant_letters : (True : Constant) → List ℕ
constant_letters True = ascii "true"
constant_letters False = ascii "false"

unfoldable pub unary_letters : (Not : Unary) → List ℕ
unary_letters Not = ascii "not"
unary_letters Ey = ascii "ey"
unary_letters Ep = ascii "ep"
unary_letters Ap = ascii "ap"
unary_letters Ay = ascii "ay"
unary_letters Eh = ascii "eh"
unary_letters Ah = ascii "ah"

unfoldable pub binary_letters : (And : Binary) → List ℕ
binary_letters And = ascii "and"
binary_letters Es = ascii "es"
binary_letters As = ascii "as"
binary_letters Or = ascii "or"

-- The text of a form: a bracket, the word, the digits or forms inside it with a single space before each, a bracket.
unfoldable pub text_of : (f : Formula) → List ℕ
text_of (atom p b) = ascii "(at " ++ (48 + p) ∷ 32 ∷ (48 + b) ∷ 41 ∷ []
text_of (constant w) = 40 ∷ (constant_letters w ++ 41 ∷ [])
text_of (unary w f) = 40 ∷ (unary_letters w ++ 32 ∷ (text_of f ++ 41 ∷ []))
text_of (binary w f g) = 40 ∷ (binary_letters w ++ 32 ∷ (text_of f ++ 32 ∷ (text_of g ++ 41 ∷ [])))

-- The text of a form is a text of the grammar: each number in an (at p b) is one decimal digit.
abbrev pub Grammatical : (f : Formula) → Type 0
Grammatical f = Atoms (λ p b. (p ≤ 9) × (b ≤ 9)) f

-- How deep the brackets of a form are nested.
unfoldable pub depth : (f : Formula) → ℕ
depth (atom p b) = 1
depth (constant w) = 1
depth (unary w f) = suc (depth f)
depth (binary w f g) = suc (max (depth f) (depth g))

-- A form is within the limits of a rule with k processes: 32 nested brackets, 64 lines, processes below k, propositions
-- 0 to 7.
pub record WithinLimits (k : ℕ) (f : Formula) : Type 0 where
  pub shallow : depth f ≤ 32
  pub short : line_count f ≤ 64
  pub below : AtomsBelow k f
