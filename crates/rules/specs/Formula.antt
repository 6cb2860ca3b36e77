-- PaCTL formulas, and the forms of a rule's text with their meaning in PaCTL.
use Rattle.std.specs.Prelude.{ℕ, ◌<◌, ◌≤◌}
use Rattle.rules.specs.declared.Constant.{Constant}
use Rattle.rules.specs.declared.Constant.TheVariants.{True, False}
use Rattle.rules.specs.declared.Unary.{Unary}
use Rattle.rules.specs.declared.Unary.TheVariants.{Not, Ey, Ep, Ap, Ay, Eh, Ah}
use Rattle.rules.specs.declared.Binary.{Binary}
use Rattle.rules.specs.declared.Binary.TheVariants.{And, Es, As, Or}
use Rattle.pactl.specs.Pactl.{Pactl, proposition, negation, conjunction, exists_yesterday, exists_since, all_since, disjunction, truth, exists_previously, all_previously}

-- A form of a rule's text (01, The rule): (at p b), a word alone, a word and one form, a word and two forms.
pub data Formula : Type 0 where
  atom : (p b : ℕ) → Formula
  constant : (w : Constant) → Formula
  unary : (w : Unary) (f : Formula) → Formula
  binary : (w : Binary) (f g : Formula) → Formula

-- The meaning of a word alone: true; false = ¬true.
unfoldable pub constant_meaning : (True : Constant) → Pactl
constant_meaning True = truth
constant_meaning False = negation truth

-- The meaning of a word with one form: AY φ = ¬EY¬φ, EH φ = ¬AP¬φ, AH φ = ¬EP¬φ.
unfoldable pub unary_meaning : (Not : Unary) (x : Pactl) → Pactl
unary_meaning Not x = negation x
unary_meaning Ey x = exists_yesterday x
unary_meaning Ep x = exists_previously x
unary_meaning Ap x = all_previously x
unary_meaning Ay x = negation (exists_yesterday (negation x))
unary_meaning Eh x = negation (all_previously (negation x))
unary_meaning Ah x = negation (exists_previously (negation x))

-- The meaning of a word with two forms.
unfoldable pub binary_meaning : (And : Binary) (x y : Pactl) → Pactl
binary_meaning And x y = conjunction x y
binary_meaning Es x y = exists_since x y
binary_meaning As x y = all_since x y
binary_meaning Or x y = disjunction x y

-- The PaCTL formula that a form stands for.
unfoldable pub meaning : (f : Formula) → Pactl
meaning (atom p b) = proposition p b
meaning (constant w) = constant_meaning w
meaning (unary w f) = unary_meaning w (meaning f)
meaning (binary w f g) = binary_meaning w (meaning f) (meaning g)

-- Each (at p b) in a form has numbers p and b as asked.
unfoldable pub Atoms : (ok : ℕ → ℕ → Type 0) (f : Formula) → Type 0
Atoms ok (atom p b) = ok p b
Atoms ok (constant w) = Unit {0}
Atoms ok (unary w f) = Atoms ok f
Atoms ok (binary w f g) = Atoms ok f × Atoms ok g

-- Each (at p b) in a form names one of k processes and of eight propositions.
abbrev pub AtomsBelow : (k : ℕ) (f : Formula) → Type 0
AtomsBelow k f = Atoms (λ p b. (p < k) × (b ≤ 7)) f
