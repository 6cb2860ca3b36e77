-- Each arm is the definition under the tests of the kind.
use Rattle.std.proofs.Common.{◌≢◌, arith, ne_eqb}
use Rattle.pactl.specs.Judge.{judge_line}
use Rattle.pactl.proofs.judging.judge_line.Goals as goal

pub returns-in-0 : goal.returns-in-0
unfolding judge_line
returns-in-0 c = rw c.in-0.is c.judge_proposition.ensures

pub returns-in-1 : goal.returns-in-1
unfolding judge_line
returns-in-1 c = rw c.in-1.is c.judge_not.ensures

pub returns-in-2 : goal.returns-in-2
unfolding judge_line
returns-in-2 c = rw c.in-2.is c.judge_and.ensures

pub returns-in-3 : goal.returns-in-3
unfolding judge_line
returns-in-3 c = rw c.in-3.is c.judge_ey.ensures

pub returns-in-4 : goal.returns-in-4
unfolding judge_line
returns-in-4 c = rw c.in-4.is c.judge_es.ensures

pub returns-in_default : goal.returns-in_default
unfolding judge_line
returns-in_default c =
    let kind = c.args.line.kind in
    let not_0 : kind ≢ 0 = omega arith in
    let not_1 : kind ≢ 1 = omega arith in
    let not_2 : kind ≢ 2 = omega arith in
    let not_3 : kind ≢ 3 = omega arith in
    let not_4 : kind ≢ 4 = omega arith in
    rw (ne_eqb kind 0 not_0, ne_eqb kind 1 not_1, ne_eqb kind 2 not_2, ne_eqb kind 3 not_3, ne_eqb kind 4 not_4) c.judge_as.ensures
