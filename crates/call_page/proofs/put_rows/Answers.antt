use Rattle.std.proofs.Common.{◌≡◌, length, arith, take_all}
use Rattle.call_page.proofs.PageSteps.{no_row, next_row}
use Rattle.call_page.proofs.put_rows.Goals as goal

pub loop-i-init : goal.loop-i-init
loop-i-init c =
    let a = c.args in
    no_row a.page.now a.laid.now a.k a.line

pub put_row-requires-clause-ten_digits : goal.put_row-requires-clause-ten_digits
put_row-requires-clause-ten_digits c =
    rw c.counts_at-counts.ensures (c.requires.ten_digits c.loop-i.i (omega arith))

pub loop-i-preserved : goal.loop-i-preserved
loop-i-preserved c =
    let l = c.loop-i in
    let a = c.args in
    next_row a.page.now a.laid.now a.k a.line l.i (omega arith) l.page _ c.counts_at-counts.result c.values_at.result
    c.has_bit-holds.result l.invariant (rw c.counts_at-counts.ensures (c.requires.ten_digits l.i (omega arith)))
    c.counts_at-counts.ensures c.values_at.ensures.value c.has_bit-holds.ensures c.put_row.ensures

pub returns : goal.returns
returns c =
    let a = c.args in
    let all : c.loop-i.i ≡ length a.laid.now = omega arith in
    let whole = take_all c.loop-i.i a.laid.now (omega arith) in
    rw whole at c.loop-i.invariant.stand
