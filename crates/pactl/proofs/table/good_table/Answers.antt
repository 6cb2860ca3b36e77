-- The closure checks line i: the law `good-each`.
use Rattle.std.proofs.Common.{◌∙◌, refl, arith, rules}
use Rattle.std.proofs.lemmas.Iterator.{YieldsList-from_range}
use Rattle.std.proofs.lemmas.Iterator.Search.{all_from_yields_List}
use Rattle.pactl.specs.Table.{good_line}
use Rattle.pactl.specs.TableBytes.{line_at}
use Rattle.pactl.specs.TableBytesLaws.{good-each}
use Rattle.pactl.proofs.table.good_table.Goals as goal

pub returns : goal.returns
returns c =
    let a = c.args in
    all_from_yields_List (λ i. good_line a.k i (line_at a.table.now i)) _ _ _ c.all.ensures.ran (YieldsList-from_range 0 a.lines a.lines refl (omega arith)) (λ i b q k. search rules)
    ∙ good-each a.k a.table.now a.lines 0
