-- The closure takes each part.
use Rattle.std.proofs.Common.{List, ℕ, [], ◌∷◌, ◌/◌, ◌%◌, get_or, rules}
use Rattle.clocks.specs.Counts.{list_of}
use Rattle.clocks.specs.stored.CallLaws.{made_called}
use Rattle.call_words.specs.Words.{part, unpack_counts}
use Rattle.call_words.proofs.unpack_counts.Goals as goal

pub returns : goal.returns
unfolding unpack_counts list_of
returns c =
    let a = c.args in
    let words : List ℕ = a.low ∷ a.high ∷ [] in
    made_called (λ p. part 16 (get_or words (p / 4) 0) (p % 4)) _ 8 0 c.from_fn.result c.from_fn.ensures.items (λ p y q l k. search rules)
