-- Between two consistent cuts, one inside the other, there are steps: where they are not the same, some cut precedes
-- the larger one and has the smaller one still inside (source 000, section 2: the order of cuts by inclusion is the
-- transitive closure of what precedes what).
use Rattle.std.specs.Prelude.{ℕ, ◌≤◌, ◌≡◌, true, false, List, [], ◌∷◌, ◌⊎◌}
use Rattle.std.proofs.Common.{arith, sym, ap, ◌∙◌, inl, inr, ⊎_elim}
use Rattle.std.proofs.Math.Path.{fun_ext}
use mathlib.Core.List.Memᴰ
use Rattle.clocks.specs.declared.Event.{Event}
use Rattle.clocks.specs.Event.{Cut, involved, Ready, apply}
use Rattle.clocks.specs.History.{taken, Consistent, Precedes}
use Rattle.clocks.specs.Causal.{Follows, Causal}
use Rattle.clocks.specs.cuts.EventLaws.{either, ready_next, ready_known, ready_i, apply_next, apply_other, apply_up, apply_comm}
use Rattle.clocks.specs.cuts.Step.{Advanced, consistent-within, consistent-new, step, advanced-complete}
use Rattle.clocks.specs.cuts.PrecedingStep.{precedes_old, origin_precedes}

-- Nowhere above.
abbrev pub Inside : Cut → Cut → Type 0
Inside R S = (p : ℕ) → R p ≤ S p

-- The cut that is next on the way from S down to R, where they differ.
abbrev Descent : List Event → Cut → Cut → Type 0
Descent ts R S = (R ≡ S) ⊎ ((S' : Cut) × Precedes ts S' S × Inside R S')

abbrev Descends : List Event → Type 0
Descends ts = (R S : Cut) → Consistent ts R → Consistent ts S → Inside R S → Descent ts R S

-- Where an event is the last one of both cuts, and one precedes without it, one precedes with it.
module _ (e : Event) (ts : List Event) (F : Follows ts e) (R S : Cut) (r : Ready e R) (s : Ready e S)
    (S' : Cut) (l : Precedes ts S' S) (below : Inside R S') where
  inside : Inside S' S
  inside p = omega (arith, ap (λ (Q : Cut). Q p) l.leads, apply_up l.by S' p)

  unmoved : (p : ℕ) → involved e p ≡ true → S' p ≡ S p
  unmoved p b = omega (arith, ready_next e R r p b, ready_next e S s p b, below p, inside p)

  ready_still : Ready e S'
  ready_still = ready_i e S'
      (λ p b. omega (arith, ready_next e S s p b, unmoved p b))
      (λ p b. omega (arith, ready_known e R r p b, below p))

  -- so the two events have no common process
  other : (p : ℕ) → involved l.by p ≡ true → involved e p ≡ false
  other p b = ⊎_elim
      (λ a. absurd (omega (arith, unmoved p a, ap (λ (Q : Cut). Q p) l.leads, apply_next l.by S' p b)))
      (λ a. a) (either (involved e p))

  with_last : Precedes (e ∷ ts) (apply e S') (apply e S)
  with_last = record {
    before = consistent-new e ts S' F.ready l.before ready_still;
    by = l.by;
    among = Memᴰ.tail l.among;
    enabled = ready_i l.by (apply e S')
        (λ p b. omega (arith, ready_next l.by S' l.enabled p b, apply_other e S' p (other p b)))
        (λ p b. omega (arith, ready_known l.by S' l.enabled p b, apply_up e S' p));
    leads = ap (apply e) l.leads ∙ apply_comm e l.by S';
  }

inside_apply : (e : Event) (R S : Cut) → Inside R S → Inside (apply e R) (apply e S)
unfolding apply
inside_apply e R S h p = omega (arith, h p)

apply_inside : (e : Event) (R S : Cut) → Inside (apply e R) (apply e S) → Inside R S
unfolding apply
apply_inside e R S h p = omega (arith, h p)

-- ---- Theorem
pub descend : (ts : List Event) → Causal ts → (R S : Cut) → Consistent ts R → Consistent ts S → Inside R S
    → (R ≡ S) ⊎ ((S' : Cut) × Precedes ts S' S × Inside R S')
unfolding taken
descend [] C R S r s h = inl (fun_ext (λ p. omega (arith, s.within p, h p)))
descend (e ∷ ts) C R S r s h =
    let rest = descend ts C.1 in
    ⊎_elim (old rest) (λ a. ⊎_elim (grown a) (both rest a) ((step e ts C.1 C.0 R).0 r))
    ((step e ts C.1 C.0 S).0 s)
  where
    -- neither has the newest event
    old : Descends ts → Consistent ts S → Descent (e ∷ ts) R S
    old rest t =
        let u : Consistent ts R = consistent-within e ts R r (λ p. omega (arith, h p, t.within p)) in
        ⊎_elim (λ q. inl q) (λ x. inr (x.0, (precedes_old e ts C x.0 S t).0 x.1, x.2))
        (rest R S u t h)

    -- only the larger one has it
    grown : Advanced ts e S → Consistent ts R → Descent (e ∷ ts) R S
    grown a u =
        let S₀ = a.from in
        let below : Inside R S₀ = λ p. ⊎_elim
        (λ b. omega (arith, u.within p, advanced-complete e ts S₀ C.0 a.enabled p b))
        (λ b. omega (arith, h p, ap (λ (Q : Cut). Q p) a.leads, apply_other e S₀ p b)) (either (involved e p)) in
        inr (S₀, rw a.leads (origin_precedes e ts S₀ a.consistent a.enabled), below)

    -- both have it
    both : Descends ts → Advanced ts e S → Advanced ts e R → Descent (e ∷ ts) R S
    both rest a b =
        let S₀ = a.from in
        let R₀ = b.from in
        let below : Inside R₀ S₀ = apply_inside e R₀ S₀ (rw (a.leads, b.leads) at h) in
        ⊎_elim (λ q. inl (b.leads ∙ ap (apply e) q ∙ sym a.leads))
        (λ x. inr (
          apply e x.0,
          rw a.leads (with_last e ts C.0 R₀ S₀ b.enabled a.enabled x.0 x.1 x.2),
          rw b.leads (inside_apply e R₀ x.0 x.2),
        ))
        (rest R₀ S₀ b.consistent a.consistent below)
