-- The test of equal events says that they are equal.
use Rattle.std.specs.Prelude.{ℕ, ◌<◌, ◌≡◌, List, ◌↔◌, T, eqb, length}
use Rattle.std.proofs.Common.{arith, sym, ◌∙◌, eqb→eq, ext_get_or}
use Rattle.std.proofs.Math.Dec.{eqb_refl}
use Rattle.clocks.specs.declared.Event.{Event}
use Rattle.clocks.specs.Bounded.{all_below}
use Rattle.clocks.specs.stored.BoundedLaws.{and_i, and_l, and_r, all_i, all_e}
use Rattle.clocks.specs.Counts.{at}
use Rattle.clocks.specs.SameEvent.{same_at, same_event}

pub same_refl : (e : Event) → T (same_event e e)
unfolding same_event
same_refl e =
    and_i (eqb e.mask e.mask) (all_below 8 (same_at e e)) (eqb_refl e.mask)
    (all_i 8 (same_at e e) (λ p l. and_i (eqb (at e.clock p) (at e.clock p)) (eqb (at e.labels p) (at e.labels p)) (eqb_refl (at e.clock p)) (eqb_refl (at e.labels p))))

-- Eight elements each, the same ones.
same-eight : (l r : List ℕ) → length l ≡ 8 → length r ≡ 8 → ((p : ℕ) → p < 8 → at l p ≡ at r p) → l ≡ r
same-eight l r a b h = ext_get_or 0 l r (a ∙ sym b) (λ p j. h p (omega arith))

pub same-equal : (e f : Event) → length e.clock ≡ 8 → length f.clock ≡ 8 → length e.labels ≡ 8 → length f.labels ≡ 8 → T (same_event e f) → e ≡ f
unfolding same_event
same-equal e f ec fc el fl t = λ i. record { mask = masks i; clock = clocks i; labels = labels i }
  where
    each : (p : ℕ) → p < 8 → T (same_at e f p)
    each = all_e 8 (same_at e f) (and_r (eqb e.mask f.mask) (all_below 8 (same_at e f)) t)

    masks : e.mask ≡ f.mask
    masks = eqb→eq e.mask f.mask (and_l (eqb e.mask f.mask) (all_below 8 (same_at e f)) t)

    clocks : e.clock ≡ f.clock
    clocks = same-eight e.clock f.clock ec fc (λ p l. eqb→eq _ _ (and_l (eqb (at e.clock p) (at f.clock p)) (eqb (at e.labels p) (at f.labels p)) (each p l)))

    labels : e.labels ≡ f.labels
    labels = same-eight e.labels f.labels el fl (λ p l. eqb→eq _ _ (and_r (eqb (at e.clock p) (at f.clock p)) (eqb (at e.labels p) (at f.labels p)) (each p l)))

-- ---- Theorem
pub same-event-test : (e f : Event) → length e.clock ≡ 8 → length f.clock ≡ 8 → length e.labels ≡ 8 → length f.labels ≡ 8 → T (same_event e f) ↔ (e ≡ f)
same-event-test e f ec fc el fl = (same-equal e f ec fc el fl, λ q. rw q (same_refl f))
