-- The words are those of `words_made`.
use Rattle.std.proofs.Common.{◌≡◌, length, rules}
use Rattle.lines.proofs.did.DidSteps.{words_made}
use Rattle.lines.proofs.did.did_of.Goals as goal

pub returns : goal.returns
returns c =
    let a = c.args in
    let l : length a.counts.now ≡ 8 = search rules in
    words_made a.n a.processes.now a.counts.now a.labels.now _ _ _ _ _ _ _ _ l c.place.ensures c.word_of.ensures
    c.word_of-2.ensures c.word_of-3.ensures c.word_of-4.ensures c.word_of-5.ensures c.place-2.ensures
    c.word_of-6.ensures
    c.requires
