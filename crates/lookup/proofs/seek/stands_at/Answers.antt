use native.Mathlib.Omega.{arith}
use mathlib.Core.Path.{◌≡◌, sym, ◌∙◌}
use Rattle.std.proofs.Common.{rules, [], get_or}
use Rattle.lookup.specs.Seek.{keys_of}
use Rattle.lookup.proofs.seek.SeekSteps.{standing_other, standing-equal, standing-end}
use Rattle.lookup.proofs.seek.stands_at.Goals as goal

pub returns-then-count-key : goal.returns-then-count-key
returns-then-count-key c =
    let a = c.args in
    let counts = get_or (keys_of a.laid.now) a.i [] in
    let read = c.count_at-count.ensures in
    let other = standing_other counts a.key read.eight (search rules) c.loop-p.p (search rules) (λ q. c.if-count-key.true (read.value ∙ q)) in
    c.cmp.ensures ∙ rw read.value (sym (c.loop-p.invariant.1 ∙ other))

pub loop-p-preserved : goal.loop-p-preserved
loop-p-preserved c =
    let a = c.args in
    let counts = get_or (keys_of a.laid.now) a.i [] in
    let read = c.count_at-count.ensures in
    let equal = standing-equal counts a.key read.eight (search rules) c.loop-p.p (search rules) (sym read.value ∙ c.if-count-key.false) in
    (λ _. read.eight, c.loop-p.invariant.1 ∙ equal)

pub returns : goal.returns
returns c =
    let a = c.args in
    let counts = get_or (keys_of a.laid.now) a.i [] in
    let all : c.loop-p.p ≡ 8 = omega arith in
    let long = c.loop-p.invariant.0 (omega arith) in
    sym (rw all at c.loop-p.invariant.1 ∙ standing-end counts a.key long (search rules))
