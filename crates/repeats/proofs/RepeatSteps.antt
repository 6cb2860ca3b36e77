-- What the derived equality of events tests, and what a look at the first counts tells.
use Rattle.std.specs.Prelude.{◌≡◌, refl, Bool, ◌&&◌, length, eqb, T}
use Rattle.std.specs.Str.{bytes_eq}
use Rattle.std.proofs.Common.{arith, subst}
use Rattle.std.proofs.Math.Dec.{eqb_refl}
use Rattle.std.proofs.Math.Facts.{eqb_yes}
use Rattle.std.proofs.lemmas.Slice.Eq.{bytes_eq-Decides}
use Rattle.clocks.specs.declared.Event.{Event}
use Rattle.clocks.specs.Counts.{at}
use Rattle.clocks.specs.SameEvent.{same_at, same_event}
use Rattle.clocks.specs.cuts.EventLaws.{true-T, T_true}
use Rattle.clocks.specs.stored.BoundedLaws.{all_e, and_i, and_l, and_r, same_test}
use Rattle.clocks.specs.stored.SameEventLaws.{same_refl, same-event-test}

-- Mask, clock and labels, each compared as a whole.
derived : Event → Event → Bool
derived e f = eqb e.mask f.mask && (bytes_eq e.clock f.clock && bytes_eq e.labels f.labels)

derived_refl : (e : Event) → T (derived e e)
unfolding derived
derived_refl e =
    and_i _ _ (eqb_refl e.mask) (and_i _ _ (true-T ((bytes_eq-Decides e.clock e.clock).1 refl)) (true-T ((bytes_eq-Decides e.labels e.labels).1 refl)))

pub derived_same : (e f : Event) → length e.clock ≡ 8 → length f.clock ≡ 8 → length e.labels ≡ 8 → length f.labels ≡ 8
    → (eqb e.mask f.mask && (bytes_eq e.clock f.clock && bytes_eq e.labels f.labels)) ≡ same_event e f
unfolding derived
derived_same e f ec fc el fl = same_test (derived e f) (same_event e f) there back
  where
    there : T (derived e f) → T (same_event e f)
    there t =
        let rest = and_r (eqb e.mask f.mask) _ t in
        let masks : e.mask ≡ f.mask = eqb_yes (and_l (eqb e.mask f.mask) _ t) in
        let clocks : e.clock ≡ f.clock = (bytes_eq-Decides e.clock f.clock).0 (T_true _ (and_l (bytes_eq e.clock f.clock) _ rest)) in
        let labels : e.labels ≡ f.labels = (bytes_eq-Decides e.labels f.labels).0 (T_true _ (and_r (bytes_eq e.clock f.clock) _ rest)) in
        let same : e ≡ f = λ i. record { mask = masks i; clock = clocks i; labels = labels i } in
        subst (λ (g : Event). T (same_event e g)) same (same_refl e)

    back : T (same_event e f) → T (derived e f)
    back t = subst (λ (g : Event). T (derived e g)) ((same-event-test e f ec fc el fl).0 t) (derived_refl e)

-- Events with other counts of the first process are not the same.
pub differ_first : (e f : Event) → (at e.clock 0 ≡ at f.clock 0 → ⊥) → eqb (at e.clock 0) (at f.clock 0) ≡ same_event e f
unfolding same_event
differ_first e f other =
    same_test _ _ (λ t. absurd (other (eqb_yes t)))
    (λ t. absurd (other (eqb_yes (and_l _ _ (all_e 8 (same_at e f) (and_r (eqb e.mask f.mask) _ t) 0 (omega arith))))))
