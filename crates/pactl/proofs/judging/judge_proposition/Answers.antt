-- There are eight label bytes; a process behind them has no proposition.
use native.Mathlib.Omega.{arith}
use mathlib.Core.Path.{◌≡◌, sym}
use lib.ListN.{get_or-eq_default, length}
use Rattle.codec.specs.BitLaws.{bit-zero}
use Rattle.pactl.specs.Judge.{proposition_judged}
use Rattle.std.proofs.Common.{rules, le-ltb}
use Rattle.pactl.proofs.judging.judge_proposition.Goals as goal

pub returns-then-a-lt8 : goal.returns-then-a-lt8
unfolding proposition_judged
returns-then-a-lt8 c = cc

pub returns-else-a-lt8 : goal.returns-else-a-lt8
unfolding proposition_judged
returns-else-a-lt8 c =
    let e : length c.args.labels ≡ 8 = search rules in
    rw (le-ltb c.args.a 8 c.if-a-lt8.false, get_or-eq_default c.args.labels 0 {n = c.args.a} (omega arith)) (sym (bit-zero c.args.b))
