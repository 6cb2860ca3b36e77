use Prim.Native.Nat.{◌-◌}
use native.Mathlib.Omega.{arith}
use mathlib.Core.Path.{◌≡◌, sym, ap, ◌∙◌}
use Rattle.pactl.specs.JudgeLaws.{judge_from_next, judge_from-end, with_bit-lt}
use Rattle.pactl.specs.TableBytes.{line_at}
use Rattle.pactl.specs.Judge.{judge_line, with_bit}
use Rattle.std.proofs.Common.{rules}
use Rattle.pactl.proofs.judging.judge.Goals as goal

pub loop-i-init : goal.loop-i-init
loop-i-init c =
    let e : c.args.lines - 0 ≡ c.args.lines = omega arith in (search rules, rw e)

pub loop-i-preserved : goal.loop-i-preserved
loop-i-preserved c =
    let a = c.args in
    let l = c.loop-i in
    let t = judge_line a.labels l.v a.any a.all a.preceded l.i (line_at a.table.now l.i) in
    let e : c.with_bit-v.result ≡ with_bit l.v l.i t =
    c.with_bit-v.ensures
    ∙ ap (with_bit l.v l.i) (c.judge_line-holds.ensures ∙ ap (judge_line a.labels l.v a.any a.all a.preceded l.i) c.read_line.ensures)
    in (
      rw e (with_bit-lt l.v l.i t l.invariant.0),
      rw e (l.invariant.1 ∙ judge_from_next a.labels a.any a.all a.preceded l.v a.table.now a.lines l.i c.loop-i-test.true),
    )

pub returns : goal.returns
returns c =
    let a = c.args in
    let l = c.loop-i in
    sym (l.invariant.1 ∙ judge_from-end a.labels a.any a.all a.preceded l.v a.table.now a.lines l.i c.loop-i-test.false)
