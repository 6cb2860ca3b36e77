-- The loop stores the counts before the index, one more with each turn: the law `counts_more`.
use Rattle.std.proofs.Common.{◌≡◌, ◌*◌, take}
use Rattle.std.proofs.lemmas.List.Edits.{sets}
use Rattle.frontiers.specs.Bytes.{count_bytes}
use Rattle.frontiers.proofs.counts.write_counts.Given as goal

abbrev pub invariant-loop-count : goal.invariant-loop-count
invariant-loop-count l = (l.next ≡ l.count-index * l.w) × (l.s ≡ sets l.initial.s 0 (count_bytes l.w (take l.count-index l.fn.counts)))
