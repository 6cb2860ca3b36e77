-- Each arm is the definition under the tests of the kind.
use Rattle.std.proofs.Common.{◌≢◌, arith, ne_eqb}
use Rattle.pactl.specs.Table.{good_line}
use Rattle.pactl.proofs.table.good_line.Goals as goal

pub returns-in-0 : goal.returns-in-0
unfolding good_line
returns-in-0 c = rw (c.in-0.is, c.from-a.ensures, c.from-b.ensures)

pub returns-in_default : goal.returns-in_default
unfolding good_line
returns-in_default c =
    let kind = c.args.line.kind in
    let not_0 : kind ≢ 0 = omega arith in
    rw (ne_eqb kind 0 not_0, c.if-kind.true, c.from-a.ensures, c.from-b.ensures)

pub returns-in_default-2 : goal.returns-in_default-2
unfolding good_line
returns-in_default-2 c =
    let kind = c.args.line.kind in
    let not_0 : kind ≢ 0 = omega arith in
    rw (ne_eqb kind 0 not_0, c.if-kind.false, c.from-a.ensures, c.from-b.ensures)
