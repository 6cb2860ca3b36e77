use Rattle.std.proofs.Common.{◌≡◌, ℕ, ◌+◌, ◌*◌, ◌-◌, ◌<◌, take, get_or, get_or-take, length-take, arith, ap, ◌∙◌}
use Rattle.clocks.specs.Counts.{at}
use Rattle.std.proofs.lemmas.List.Edits.{sets}
use Rattle.call_page.specs.Page.{columns}
use Rattle.call_page.proofs.StoreSteps.{blanked}
use Rattle.call_page.proofs.RowSteps.{no_columns, next_column, row_stands}
use Rattle.call_page.proofs.row.put_row.Goals as goal

pub loop-p-init : goal.loop-p-init
loop-p-init c = no_columns c.args.page.now c.args.at c.args.k c.args.counts

pub loop-p-preserved : goal.loop-p-preserved
loop-p-preserved c =
    let l = c.loop-p in
    let a = c.args in
    let inside : l.p < a.k = omega (arith, length-take a.k a.counts) in
    let read : get_or (take a.k a.counts) l.p 0 ≡ at a.counts l.p = get_or-take a.k a.counts l.p 0 inside in
    let next = next_column a.page.now a.at a.k a.counts c.requires.ten_digits l.p inside in
    cc

pub returns : goal.returns
returns c =
    let l = c.loop-p in
    let a = c.args in
    let all : l.p ≡ a.k = omega (arith, length-take a.k a.counts) in
    let columned = l.invariant ∙ ap (λ (n : ℕ). sets a.page.now a.at (columns a.k a.counts n)) all in
    let blank = blanked l.page (a.at + 11 * a.k) (a.at + 88) (11 * (8 - a.k)) _ (omega arith) (omega arith) (c.fill.ensures.after (λ y e. e)) in
    c.put_ending.ensures
    ∙ row_stands a.page.now a.at a.k a.counts a.holds c.requires.ten_digits c.requires.k_bound _ l.page columned blank
