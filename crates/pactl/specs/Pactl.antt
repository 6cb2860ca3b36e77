-- PaCTL formulas, and the operators that are made of others (source 000, section 2).
use Rattle.std.specs.Prelude.{ℕ}

-- A formula of PaCTL (source 000, section 2: the logic's syntax).
pub data Pactl : Type 0 where
  -- proposition b of process p
  proposition : (p b : ℕ) → Pactl
  negation : (f : Pactl) → Pactl
  conjunction : (f g : Pactl) → Pactl
  -- EY φ: some preceding cut has φ
  exists_yesterday : (f : Pactl) → Pactl
  -- E(φ S ψ)
  exists_since : (f g : Pactl) → Pactl
  -- A(φ S ψ)
  all_since : (f g : Pactl) → Pactl

-- φ ∨ ψ = ¬(¬φ ∧ ¬ψ) (source 000, section 2: additional operators; so are the next seven).
unfoldable pub disjunction : (x y : Pactl) → Pactl
disjunction x y = negation (conjunction (negation x) (negation y))

-- true = q ∨ ¬q, with q proposition 0 of process 0.
unfoldable pub truth : Pactl
truth = disjunction (proposition 0 0) (negation (proposition 0 0))

-- EP φ = E(true S φ).
unfoldable pub exists_previously : (x : Pactl) → Pactl
exists_previously x = exists_since truth x

-- AP φ = A(true S φ).
unfoldable pub all_previously : (x : Pactl) → Pactl
all_previously x = all_since truth x
