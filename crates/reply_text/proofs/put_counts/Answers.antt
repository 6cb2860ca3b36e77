-- Each count goes after those before it (`counts_next`), and at the end all are there (`counts_end`).
use native.Mathlib.Omega.{arith}
use mathlib.Core.Path.{refl, sym, ◌∙◌}
use mathlib.Core.List.{append-nil, [], ◌∷◌}
use lib.ListN.{take}
use Rattle.codec.specs.Decimal.{numeral}
use Rattle.reply_text.specs.Texts.{more_counts}
use Rattle.reply_text.proofs.TextSteps.{behind, count_here, counts_long, counts_next, counts_end}
use Rattle.codec.specs.Ascii.{ascii}
use Rattle.std.proofs.Common.{rules}
use Rattle.reply_text.proofs.put_counts.Goals as goal

pub loop-count-init : goal.loop-count-init
unfolding more_counts
loop-count-init c = (omega arith, refl, sym (append-nil _))

pub loop-count-preserved : goal.loop-count-preserved
loop-count-preserved c =
    let a = c.args in
    let l = c.loop-count in
    let f = c.piece-at-in-loop-count in (
      omega arith,
      search rules,
      behind (numeral _) (behind (32 ∷ []) l.invariant.2 refl) f.ensures.out_after
          ∙ counts_next (take c.piece-at.result c.piece-at.new.out) a.counts l.count-index _
          (c.from-in-loop-count.ensures ∙ count_here a.counts _ l.count-index c.loop-count-test.true),
    )

pub returns-clause-out_after : goal.returns-clause-out_after
returns-clause-out_after c =
    let a = c.args in
    let l = c.loop-count in
    let long = counts_long a.counts a.k (omega arith) (omega arith) in
    behind (more_counts _ _) c.piece-at.ensures.out_after l.invariant.2
    ∙ counts_end (ascii "(state (") a.counts a.k l.count-index _
    (omega (arith, rw c.max.ensures at c.loop-count-test.false, rw c.max.ensures at l.auto.count-index-end, long)) c.from.ensures
