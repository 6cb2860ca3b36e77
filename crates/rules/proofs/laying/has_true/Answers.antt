-- A word that is none of the four has no lines of true.
use mathlib.Core.Bool.{false}
use mathlib.Core.Path.{◌≡◌, refl}
use Rattle.rules.specs.declared.Unary.{Unary}
use Rattle.rules.specs.declared.Unary.TheVariants.{Not, Ey, Ep, Ap, Ay, Eh, Ah}
use Rattle.rules.specs.Laying.{has_true}
use Rattle.std.proofs.Common.{rules}
use Rattle.rules.proofs.laying.has_true.Goals as goal

others : (w : Unary) → (w ≡ Ep → ⊥) → (w ≡ Ap → ⊥) → (w ≡ Eh → ⊥) → (w ≡ Ah → ⊥) → false ≡ has_true w
unfolding has_true
others Not a b c d = refl
others Ey a b c d = refl
others Ep a b c d = absurd (a refl)
others Ap a b c d = absurd (b refl)
others Ay a b c d = refl
others Eh a b c d = absurd (c refl)
others Ah a b c d = absurd (d refl)

pub returns-in_default : goal.returns-in_default
returns-in_default c = others c.args.word (search rules) (search rules) (search rules) (search rules)
