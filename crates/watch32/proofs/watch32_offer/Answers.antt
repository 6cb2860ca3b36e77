-- The counts out of four words fit four bytes; the rest is the call's own promise.
use mathlib.Core.List.{[], ◌∷◌}
use Rattle.call_words.specs.WordLaws.{counts_fit}
use Rattle.watch32.proofs.watch32_offer.Goals as goal

pub offer-requires-clause-by_index : goal.offer-requires-clause-by_index
offer-requires-clause-by_index c =
    let a = c.args in
    λ p. rw c.unpack_wide_counts-clock.ensures (counts_fit 4 (a.c01 ∷ a.c23 ∷ a.c45 ∷ a.c67 ∷ []) p)

pub returns : goal.returns
returns c = rw (← c.unpack_wide_counts-clock.ensures, ← c.unpack_labels-bytes.ensures) c.offer.ensures
