-- An event is the same as one of a list exactly if it stands there.
use Rattle.std.specs.Prelude.{◌≡◌, ◌↔◌, T, length}
use Rattle.std.proofs.Common.{subst, sym}
use mathlib.Core.List.{List, Memᴰ}
use Rattle.clocks.specs.declared.Event.{Event}
use Rattle.clocks.specs.SameEvent.{same_event}
use Rattle.clocks.specs.stored.BoundedLaws.{any_of_i, any_of_e}
use Rattle.clocks.specs.stored.SameEventLaws.{same-event-test, same_refl}
use Rattle.repeats.specs.Repeats.{repeated}

-- An event has eight counts and eight labels.
abbrev Eights : Event → Type 0
Eights e = (length e.clock ≡ 8) × (length e.labels ≡ 8)

pub repeated_exactly : (e : Event) (fs : List Event) → Eights e → ((f : Event) → Memᴰ f fs → Eights f)
    → T (repeated e fs) ↔ Memᴰ e fs
unfolding repeated
repeated_exactly e fs eight eights = (there, λ m. any_of_i (same_event e) fs e m (same_refl e))
  where
    there : T (repeated e fs) → Memᴰ e fs
    there t =
        let f = any_of_e (same_event e) fs t in
        let g = eights f.0 f.1 in
        subst (λ (h : Event). Memᴰ h fs)
        (sym ((same-event-test e f.0 eight.0 g.0 eight.1 g.1).0 f.2)) f.1
