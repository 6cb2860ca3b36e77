-- The word of the numbers that were taken, which are the last ones. Each turn is `word_next`, and `word_fits` that it
-- does not overflow.
use Rattle.std.proofs.Common.{◌≡◌, map, reverse}
use Rattle.lines.specs.Words.{packed_word}
use Rattle.lines.proofs.words.word_of.Given as goal

abbrev pub invariant-loop-v : goal.invariant-loop-v
invariant-loop-v l = l.word ≡ packed_word l.base (reverse (map (λ x. x.now) l.yielded))
