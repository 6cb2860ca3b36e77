use native.Mathlib.Omega.{arith}
use mathlib.Core.Path.{◌≡◌, sym, ap, ◌∙◌}
use Prim.Native.Nat.{ℕ, ◌≤◌, ◌<◌, ◌+◌, ◌*◌}
use mathlib.Core.Bool.{Bool}
use lib.ListN.{length, get_or}
use Rattle.frontiers.specs.declared.Frontier.{Frontier}
use Rattle.frontiers.specs.Bytes.{frontier_length, frontier_at}
use Rattle.frontiers.specs.WindowLaws.{place-within}
use Rattle.window.specs.StepCode.{stays_with}
use Rattle.call_close.proofs.StayingSteps.{laid_none, read_here, laid_next, laid_passed}
use Rattle.std.proofs.Common.{rules}
use Rattle.call_close.proofs.staying.keep_staying.Goals as goal
use Rattle.call_close.proofs.staying.keep_staying.Goals.{then-stays, else-stays}

pub loop-i-init : goal.loop-i-init
loop-i-init c =
    let a = c.args in
    (search rules, laid_none (λ f. stays_with a.k a.closed a.reached f.counts) a.w a.window.now)

pub counts_at-counts-requires-clause-w_in_bounds : goal.counts_at-counts-requires-clause-w_in_bounds
counts_at-counts-requires-clause-w_in_bounds c =
    let a = c.args in
    omega (arith, place-within c.loop-i.i a.n a.w (search rules))

pub settle-requires-clause-place_for : goal.settle-requires-clause-place_for
settle-requires-clause-place_for c =
    let a = c.args in
    let room = place-within c.loop-i.i a.n a.w (search rules) in
    (search rules, omega (arith, room))

pub loop-i-preserved : goal.loop-i-preserved
loop-i-preserved c =
    let a = c.args in
    let s = a.window.now in
    let l = c.loop-i in
    let t : Frontier → Bool = λ f. stays_with a.k a.closed a.reached f.counts in
    let room = place-within l.i a.n a.w (search rules) in
    let fits : l.i * frontier_length a.w + frontier_length a.w ≤ length s = omega (arith, room) in
    let bytes : (i : ℕ) → get_or s i 0 < 256 = λ i. search rules in
    let same = read_here t a.w s l.i bytes fits l.m l.window l.invariant.1 in
    let here : t (frontier_at a.w s l.i) ≡ c.stays.result =
    sym (c.stays.ensures a.k a.closed (search rules) c.open_ones-opens.ensures
    ∙ ap (stays_with a.k a.closed a.reached) c.counts_at-counts.ensures
    ∙ ap t same) in
    let next = laid_next t a.w s l.i bytes fits l.m l.window l.invariant.1 in
    let passed = laid_passed t a.w s l.i bytes fits l.m l.window l.invariant.1 in (
      search rules,
      elim c.if-stays.branch [
        | then-stays v ↦ rw v.m-is (next c.if-stays.window (here ∙ v.if-stays.true) (v.window-is ∙ v.settle.ensures))
        | else-stays v ↦ rw (v.window-is, v.m-is) (passed (here ∙ v.if-stays.false))
      ],
    )

pub returns-clause-value : goal.returns-clause-value
returns-clause-value c =
    let l = c.loop-i in
    let e : l.i ≡ c.args.n = omega arith in
    rw (← e) l.invariant.1.number

pub returns-clause-window_after : goal.returns-clause-window_after
returns-clause-window_after c =
    let l = c.loop-i in
    let e : l.i ≡ c.args.n = omega arith in
    rw (← e) l.invariant.1.bytes
