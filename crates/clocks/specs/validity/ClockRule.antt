-- A history under any rule for valid clocks is causal, so that everything about causal histories holds of it.

use Rattle.std.specs.Prelude.{ℕ, ◌≤◌, ◌≡◌, refl, List, [], ◌∷◌}
use Rattle.std.proofs.Common.{arith}
use Rattle.clocks.specs.declared.Event.{Event}
use Rattle.clocks.specs.History.{taken, Consistent}
use Rattle.clocks.specs.Causal.{Follows, Causal}
use Rattle.clocks.specs.Event.{Cut}
use Rattle.clocks.specs.Valid.{Takeable, History, ClockRule}

pub takeable_follows : (k : ℕ) (valid : List Event → Event → Type 0) → ClockRule k valid → (ts : List Event) (e : Event) → History k valid ts → Takeable k valid ts e → Follows ts e
takeable_follows k valid r ts e h t = record { occupied = t.formed.occupied; ready = t.ready; knows = r.sound ts e h t }

pub history_causal : (k : ℕ) (valid : List Event → Event → Type 0) → ClockRule k valid → (ts : List Event) → History k valid ts → Causal ts
history_causal k valid r [] h = tt
history_causal k valid r (e ∷ ts) h = (takeable_follows k valid r ts e h.1 h.0, history_causal k valid r ts h.1)

-- ---- processes from k up
-- no event of theirs is ever taken, so a consistent cut counts none
pub taken-silent : (k : ℕ) (valid : List Event → Event → Type 0) (ts : List Event) → History k valid ts → (p : ℕ) → k ≤ p → taken ts p ≡ 0
unfolding taken
taken-silent k valid [] h p l = refl
taken-silent k valid (e ∷ ts) h p l = rw (h.0.formed.below p l, taken-silent k valid ts h.1 p l)

pub consistent-silent : (k : ℕ) (valid : List Event → Event → Type 0) (ts : List Event) → History k valid ts → (S : Cut) → Consistent ts S → (p : ℕ) → k ≤ p → S p ≡ 0
consistent-silent k valid ts h S c p l = omega (arith, c.within p, taken-silent k valid ts h p l)
