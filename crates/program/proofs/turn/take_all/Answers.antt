use native.Mathlib.Omega.{arith}
use mathlib.Core.Path.{refl}
use Prim.Native.Nat.{◌+◌, ◌-◌}
use Rattle.program.proofs.TurnSteps.{ahead_step, ahead_none, ahead_last}
use Rattle.program.proofs.turn.take_all.Goals as goal

pub loop-init : goal.loop-init
loop-init c = record { room = omega arith; ahead = record { text = refl; bytes = refl; kept = refl; spent = refl } }

pub loop-preserved : goal.loop-preserved
loop-preserved c =
    let a = c.args in
    let l = c.loop in
    let t = c.take_next-took in
    let e = t.ensures in
    record {
      room = omega (arith, e.end);
      ahead = ahead_step _ _ l.follows a.k (33 - l.counter) (33 - (l.counter + 1)) t.result.follows
          l.«record» l.window l.scratch _ _ _ _ _
          c.if-not-follows.false (omega arith) l.invariant.ahead e.follows e.bytes e.window e.scratch e.text;
    }

pub returns-after-loop : goal.returns-after-loop
returns-after-loop c =
    let l = c.loop in
    let z = ahead_last _ _ _ _ _ _ _ _ _ (omega arith) l.invariant.ahead in
    record { end = omega arith; text = z.0; bytes = z.1; window = z.2; scratch = z.3 }

pub returns-then-not-follows : goal.returns-then-not-follows
returns-then-not-follows c =
    let l = c.loop in
    let z = ahead_none _ _ _ _ _ _ _ _ _ c.if-not-follows.true l.invariant.ahead in
    record { end = omega arith; text = z.0; bytes = z.1; window = z.2; scratch = z.3 }
