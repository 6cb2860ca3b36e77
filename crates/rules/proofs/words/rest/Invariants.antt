-- The loop has met the letters before j: what is left of the word decides. Each turn is `rest_at_next`.
use Prim.Native.Nat.{◌+◌}
use mathlib.Core.Path.{◌≡◌}
use lib.ListN.{length, drop}
use Rattle.rules.specs.Reader.{rest_at}
use Rattle.rules.specs.ReaderCode.{word_then}
use Rattle.rules.proofs.words.rest.Given as goal

abbrev pub invariant-loop-j : goal.invariant-loop-j
invariant-loop-j l =
    let word = word_then l.word (l.i + length l.letters) in
    rest_at l.text l.i l.letters word ≡ rest_at l.text (l.i + l.j) (drop l.j l.letters) word
