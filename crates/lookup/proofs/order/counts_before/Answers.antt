use Rattle.std.proofs.Common.{sym, ◌∙◌, rules}
use Rattle.lookup.specs.OrderLaws.{before-drop-equal, before-drop_other, before-drop-end}
use Rattle.lookup.proofs.order.counts_before.Goals as goal

pub returns-then-a-p : goal.returns-then-a-p
returns-then-a-p c =
    let a = c.args in
    let l = c.loop-p in
    sym (l.invariant ∙ before-drop_other a.a a.b l.p (search rules) (search rules) c.if-a-p.true)

pub loop-p-preserved : goal.loop-p-preserved
loop-p-preserved c =
    let a = c.args in
    let l = c.loop-p in
    l.invariant ∙ before-drop-equal a.a a.b l.p (search rules) (search rules) c.if-a-p.false

pub returns : goal.returns
returns c =
    let a = c.args in
    let l = c.loop-p in
    sym (l.invariant ∙ before-drop-end a.a a.b l.p (search rules))
