-- The eight counts are read before they are written to the lent tail: the laws `lent_tail` and `eight_read`.
use lib.ListN.{drop}
use Rattle.frontiers.specs.Bytes.{count_bytes}
use Rattle.frontiers.specs.StoreLaws.{lent_tail}
use Rattle.call_move.specs.Move.{counts_from}
use Rattle.call_move.proofs.CountSteps.{eight_read, read_fit}
use Rattle.call_move.proofs.counts.move_eight.Goals as goal

pub write_counts-requires-clause-by_index : goal.write_counts-requires-clause-by_index
write_counts-requires-clause-by_index c =
    let a = c.args in
    let fit = read_fit a.v a.w a.s.now a.from c.requires.s_value in
    λ p. rw c.read_counts-counts.ensures (fit p)

pub returns : goal.returns
returns c =
    let a = c.args in
    let read = eight_read a.v a.s.now a.from in
    cc (lent_tail a.target.now a.to (count_bytes a.w (counts_from a.v 8 (drop a.from a.s.now))))
