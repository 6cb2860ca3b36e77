use native.Mathlib.Omega.{arith}
use mathlib.Core.Path.{◌≡◌, refl, ◌∙◌}
use Prim.Native.Nat.{◌^◌}
use lib.Pow.{shl_exact}
use native.Mathlib.Nat.{zero-mul, one-mul, add-mul}
use Rattle.frontiers.specs.BytesLaws.{count-within}
use Rattle.clocks.specs.Counts.{list_of}
use Rattle.records.specs.Record.{event_length, events_bytes}
use Rattle.call_busiest.specs.Busiest.{singles}
use Rattle.call_busiest.proofs.DaySteps.{singles_step, singles_blank}
use Rattle.std.proofs.Common.{rules}
use Rattle.call_busiest.proofs.put_singles.Goals as goal

pub loop-i-init : goal.loop-i-init
unfolding events_bytes singles list_of
loop-i-init c = (omega (arith, zero-mul (event_length c.args.w)), refl)

pub put_single-requires-clause-mask_value : goal.put_single-requires-clause-mask_value
put_single-requires-clause-mask_value c =
    let a = c.args in
    shl_exact {a = 1} 1 a.p 8 (omega arith) (omega arith) ∙ one-mul (2 ^ a.p)

pub put_single-requires-clause-w_in_bounds : goal.put_single-requires-clause-w_in_bounds
put_single-requires-clause-w_in_bounds c =
    let l = c.loop-i in
    let a = c.args in
    omega (arith, l.invariant.0, count-within l.i a.n (event_length a.w) (search rules))

pub put_single-requires-clause-blank : goal.put_single-requires-clause-blank
put_single-requires-clause-blank c =
    let l = c.loop-i in
    let a = c.args in
    let blank = singles_blank a.w a.p a.events.now a.place l.i (search rules) in
    λ j m. rw l.invariant.1 (blank j (omega (arith, l.invariant.0)))

pub overflow_add-at : goal.overflow_add-at
overflow_add-at c =
    let l = c.loop-i in
    let a = c.args in
    record {
      fits = omega (
        arith,
        l.invariant.0,
        c.event_length-size.ensures.0,
        count-within l.i a.n (event_length a.w) (search rules),
      );
    }

pub loop-i-preserved : goal.loop-i-preserved
loop-i-preserved c =
    let l = c.loop-i in
    let a = c.args in (
      omega (arith, l.invariant.0, c.event_length-size.ensures.0, add-mul l.i 1 (event_length a.w)),
      singles_step a.w a.p a.events.now a.place l.i l.events l.at _ l.invariant.1 l.invariant.0
          c.put_single.ensures,
    )

pub returns : goal.returns
returns c =
    let l = c.loop-i in
    let all : l.i ≡ c.args.n = omega arith in
    rw all at l.invariant.1
