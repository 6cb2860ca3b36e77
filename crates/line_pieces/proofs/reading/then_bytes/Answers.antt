use Rattle.std.proofs.Common.{sym, ◌∙◌}
use Rattle.std.proofs.lemmas.Result.{err_from_is_err_and}
use Rattle.line_pieces.proofs.reading.ReadingSteps.{then_bytes_next, then_bytes-end, then_bytes-refused}
use Rattle.line_pieces.proofs.reading.then_bytes.Goals as goal

pub returns-in_err-read : goal.returns-in_err-read
returns-in_err-read c =
    let a = c.args in
    let l = c.loop-b in
    let p = err_from_is_err_and c.from_residual.result c.from_residual.ensures.1 in
    rw (p.1, p.2)
    (sym (l.invariant ∙ then_bytes_next a.line.now a.bytes.now l.b-index _ c.loop-b-test.true
    ∙ rw (← c.in_err-read.ensures) (then_bytes-refused a.line.now _ _ _)))

pub loop-b-preserved : goal.loop-b-preserved
loop-b-preserved c =
    let a = c.args in
    let l = c.loop-b in
    l.invariant ∙ then_bytes_next a.line.now a.bytes.now l.b-index _ c.loop-b-test.true ∙ rw c.in_ok-read.ensures

pub returns : goal.returns
returns c =
    let a = c.args in
    let l = c.loop-b in
    sym (l.invariant ∙ then_bytes-end a.line.now a.bytes.now l.b-index _ c.loop-b-test.false)
