-- What precedes a cut after one more event: for an old cut what it was, for a new one the cut it came from and new
-- ones.
use Rattle.std.specs.Prelude.{ℕ, ◌≤◌, ◌≡◌, refl, true, List, ◌∷◌, ◌⊎◌, ◌↔◌}
use Rattle.std.proofs.Common.{arith, sym, ap, inl, inr}
use mathlib.Core.List.Memᴰ
use Rattle.clocks.specs.declared.Event.{Event}
use Rattle.clocks.specs.Event.{Cut, involved, Ready, apply}
use Rattle.clocks.specs.cuts.EventLaws.{T_true, ready_next, apply_next, apply_injective}
use Rattle.clocks.specs.History.{taken, Consistent, In, Precedes, Agree}
use Rattle.clocks.specs.Causal.{Follows, Causal}
use Rattle.clocks.specs.cuts.Step.{Advanced, step, consistent-old}
use Rattle.clocks.specs.cuts.Preceding.{precedes_consistent}
use Rattle.clocks.specs.cuts.Agree.{agree_old, agree_sym, agree_precedes}

pub precedes_old : (e : Event) (ts : List Event) → Causal (e ∷ ts) → (S' S : Cut) → Consistent ts S → Precedes ts S' S ↔ Precedes (e ∷ ts) S' S
precedes_old e ts c S' S s =
    let a : Agree S ts (e ∷ ts) = agree_old e ts S s.within in
    (agree_precedes ts (e ∷ ts) c.1 c S a S', agree_precedes (e ∷ ts) ts c c.1 S (agree_sym a) S')

-- the new event leads to no old cut
new_beyond : (e : Event) (ts : List Event) → Follows ts e → (S' S : Cut) → Ready e S' → S ≡ apply e S' → ((p : ℕ) → S p ≤ taken ts p) → ⊥
new_beyond e ts f S' S r l w =
    let o : ℕ = f.occupied.0 in
    let b : involved e o ≡ true = T_true _ f.occupied.1 in
    let s : S o ≡ apply e S' o = ap (λ (R : Cut). R o) l in
    omega (arith, w o, apply_next e S' o b, ready_next e S' r o b, ready_next e (taken ts) f.ready o b)

-- what precedes a new cut is the cut that it came from, or a new cut itself
pub precedes_new : (e : Event) (ts : List Event) → Causal ts → Follows ts e → (S₀ S' : Cut) → Ready e S₀ → Precedes (e ∷ ts) S' (apply e S₀) → (S' ≡ S₀) ⊎ Advanced ts e S'
precedes_new e ts c f S₀ S' r h = go (Memᴰ.cases_cons h.among) ((step e ts c f S').0 h.before)
  where
    go : (h.by ≡ e) ⊎ In h.by ts → Consistent ts S' ⊎ Advanced ts e S' → (S' ≡ S₀) ⊎ Advanced ts e S'
    go (inl s) d = inl (sym (apply_injective e S₀ S' (rw s at h.leads)))
    go (inr m) (inr a) = inr a
    -- an old event leads from an old cut to an old one only
    go (inr m) (inl o) =
        let old : Consistent ts (apply e S₀) = precedes_consistent ts c S' (apply e S₀) (record { before = o; by = h.by; among = m; enabled = h.enabled; leads = h.leads }) in
        absurd (new_beyond e ts f S₀ (apply e S₀) r refl old.within)

pub origin_precedes : (e : Event) (ts : List Event) (S₀ : Cut) → Consistent ts S₀ → Ready e S₀ → Precedes (e ∷ ts) S₀ (apply e S₀)
origin_precedes e ts S₀ c r = record { before = consistent-old e ts S₀ c; by = e; among = Memᴰ.head refl; enabled = r; leads = refl }
