use native.Mathlib.Omega.{arith}
use mathlib.Core.Path.{◌≡◌, refl, sym, ap, ◌∙◌}
use Prim.Native.Nat.{ℕ, ◌≤◌, ◌<◌}
use lib.ListN.{length, length-replicate}
use native.Mathlib.Nat.{zero-mul, mul-le-mul}
use Rattle.codec.specs.SetsLaws.{sets_whole}
use Rattle.clocks.specs.Counts.{list_of}
use Rattle.records.specs.Record.{event_length, events_bytes}
use Rattle.call_busiest.specs.Sharing.{evenly, total}
use Rattle.call_busiest.specs.SharingLaws.{share-within}
use Rattle.call_busiest.specs.Busiest.{day}
use Rattle.call_busiest.specs.BusiestCode.{sharing, Blank}
use Rattle.call_busiest.specs.DayBytes.{length-day}
use Rattle.call_busiest.proofs.DaySteps.{day_step, day_blank, place-within, place_next, blank_zeros}
use Rattle.std.proofs.Common.{rules}
use Rattle.call_busiest.proofs.put_day.Goals as goal

pub loop-p-init : goal.loop-p-init
unfolding events_bytes day total list_of
loop-p-init c = (
  sym (zero-mul (event_length c.args.w)),
  refl,
)

pub put_singles-requires-clause-n_bound : goal.put_singles-requires-clause-n_bound
put_singles-requires-clause-n_bound c =
    let l = c.loop-p in
    let a = c.args in
    let f = evenly a.shares.each a.shares.more in
    let mine = c.of-count.ensures.0 in
    let inside : l.p < a.shares.processes = search rules in
    omega (arith, share-within f l.p a.shares.processes inside, mine)

pub put_singles-requires-clause-w_in_bounds : goal.put_singles-requires-clause-w_in_bounds
put_singles-requires-clause-w_in_bounds c =
    let l = c.loop-p in
    let a = c.args in
    let f = evenly a.shares.each a.shares.more in
    let mine = c.of-count.ensures.0 in
    let inside : l.p < a.shares.processes = search rules in
    let long : length c.clear_all.new.s ≡ length a.events.now =
    ap length c.clear_all.ensures ∙ length-replicate {A = ℕ} (length a.events.now) 0 in
    omega (arith, l.invariant.0, c.loop-p.auto.events, long, place-within a.w f l.p a.shares.processes _ inside mine)

pub put_singles-requires-clause-blank : goal.put_singles-requires-clause-blank
put_singles-requires-clause-blank c =
    let l = c.loop-p in
    let a = c.args in
    let f = evenly a.shares.each a.shares.more in
    let clear : Blank c.clear_all.new.s 0 =
    λ i m. rw c.clear_all.ensures (blank_zeros (length a.events.now) i) in
    λ i m.
    rw l.invariant.1
    (day_blank a.w f c.clear_all.new.s l.p clear i (omega (arith, l.invariant.0)))

pub overflow_add-place : goal.overflow_add-place
overflow_add-place c =
    let l = c.loop-p in
    let a = c.args in
    let f = evenly a.shares.each a.shares.more in
    let some : total (sharing a.shares.processes a.shares.each a.shares.more) ≤ 65535 = search rules in
    let wide : event_length a.w ≤ 48 = omega arith in
    record {
      fits =
          rw c.event_length-size.ensures.0
          (omega (
            arith,
            l.invariant.0,
            place-within a.w f l.p a.shares.processes c.of-count.result (search rules) c.of-count.ensures.0,
            mul-le-mul {n₂ = 65535} {m₂ = 48} some wide,
          ));
    }

pub loop-p-preserved : goal.loop-p-preserved
loop-p-preserved c =
    let l = c.loop-p in
    let a = c.args in
    let f = evenly a.shares.each a.shares.more in (
      rw (c.event_length-size.ensures.0, l.invariant.0)
          (place_next a.w f l.p c.of-count.result c.of-count.ensures.0),
      day_step a.w f c.clear_all.new.s l.p l.events l.place c.of-count.result _ l.invariant.1
          l.invariant.0 c.of-count.ensures.0 c.put_singles.ensures,
    )

pub returns : goal.returns
returns c =
    let l = c.loop-p in
    let a = c.args in
    let f = evenly a.shares.each a.shares.more in
    let all : l.p ≡ a.shares.processes = omega arith in
    let long : length (events_bytes a.w (day f a.shares.processes)) ≡ length c.clear_all.new.s =
    length-day a.w f a.shares.processes
    ∙ sym (ap length c.clear_all.ensures ∙ length-replicate {A = ℕ} (length a.events.now) 0 ∙ search rules) in
    (rw all at l.invariant.1) ∙ sets_whole c.clear_all.new.s (events_bytes a.w (day f a.shares.processes)) long
