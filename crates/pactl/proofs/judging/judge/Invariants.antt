-- The word so far has the bits of the lines before i. Each turn is `judge_from_next`.
use Prim.Native.Nat.{◌^◌, ◌<◌, ◌-◌}
use mathlib.Core.Path.{◌≡◌}
use Rattle.pactl.specs.TableBytes.{lines_from, lines_of}
use Rattle.pactl.specs.Judge.{judge_from, judge as judged}
use Rattle.pactl.proofs.judging.judge.Given as goal

abbrev pub invariant-loop-i : goal.invariant-loop-i
invariant-loop-i l = (l.v < 2 ^ l.i)
    × (judged l.labels l.any l.all l.preceded (lines_of l.table l.lines) ≡ judge_from l.labels l.any l.all l.preceded l.v l.i (lines_from l.table (l.lines - l.i) l.i))
