-- The counts out of two words fit two bytes; the rest is the call's own promise.
use mathlib.Core.List.{[], ◌∷◌}
use Rattle.call_words.specs.WordLaws.{counts_fit}
use Rattle.watch.proofs.watch_offer.Goals as goal

pub offer-requires-clause-by_index : goal.offer-requires-clause-by_index
offer-requires-clause-by_index c =
    let a = c.args in
    λ p. rw c.unpack_counts-clock.ensures (counts_fit 2 (a.low ∷ a.high ∷ []) p)

pub returns : goal.returns
returns c = rw (← c.unpack_counts-clock.ensures, ← c.unpack_labels-bytes.ensures) c.offer.ensures
