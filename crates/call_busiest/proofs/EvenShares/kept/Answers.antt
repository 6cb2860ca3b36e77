use native.Mathlib.Omega.{arith}
use mathlib.Core.Path.{◌≡◌, refl}
use Prim.Native.Nat.{◌≤◌, ◌+◌, ◌*◌}
use Rattle.clocks.specs.Counts.{list_of}
use Rattle.call_busiest.specs.Sharing.{evenly, sharing_keeps, product as product_of}
use Rattle.call_busiest.specs.BusiestCode.{sharing}
use Rattle.call_busiest.proofs.KeptSteps.{kept_step, product_step, kept_passed, kept_small, product_small}
use Rattle.std.proofs.Common.{rules}
use Rattle.call_busiest.proofs.EvenShares.kept.Goals as goal
use Rattle.call_busiest.proofs.EvenShares.kept.Goals.{After-of-count, Else-kept-gt-FRONTIERS}

-- What is kept with the next process.
now_kept : (c : After-of-count)
    → c.loop-p.kept * (c.of-count.result + 1) + c.loop-p.product
    ≡ sharing_keeps (sharing (c.loop-p.p + 1) c.args.self.each
    c.args.self.more)
now_kept c =
    let l = c.loop-p in
    let a = c.args in
    kept_step (evenly a.self.each a.self.more) l.p l.kept l.product c.of-count.result l.invariant.0 l.invariant.1
    c.of-count.ensures.0

pub loop-p-init : goal.loop-p-init
unfolding sharing_keeps product_of list_of
loop-p-init c = (refl, refl, search rules, search rules)

-- What the next process brings, as long as no more than 1,024 are kept.
small : (c : After-of-count) → c.loop-p.kept * (c.of-count.result + 1) ≤ 67109888
small c = let l = c.loop-p in kept_small l.kept c.of-count.result l.invariant.2 c.of-count.ensures.1

pub overflow_mul-kept : goal.overflow_mul-kept
overflow_mul-kept c = record { fits = omega (arith, small (goal.at.overflow_mul-kept c).After-of-count) }

pub overflow_add-kept-in-loop-p : goal.overflow_add-kept-in-loop-p
overflow_add-kept-in-loop-p c =
    record { fits = omega (arith, small (goal.at.overflow_add-kept-in-loop-p c).After-of-count, c.loop-p.invariant.3) }

pub returns-then-kept-gt-FRONTIERS : goal.returns-then-kept-gt-FRONTIERS
returns-then-kept-gt-FRONTIERS c =
    let l = c.loop-p in
    let a = c.args in
    kept_passed (evenly a.self.each a.self.more) l.p a.self.processes (search rules) (omega (arith, now_kept (goal.at.returns-then-kept-gt-FRONTIERS c).After-of-count, c.if-kept-gt-FRONTIERS.true))

-- The product is no larger than what is kept, so the next one is small too.
small_next : (c : Else-kept-gt-FRONTIERS)
    → c.loop-p.product * c.of-count.result ≤ 67108864
small_next c =
    let l = c.loop-p in
    product_small l.product c.of-count.result (omega (arith, c.if-kept-gt-FRONTIERS.false)) c.of-count.ensures.1

pub overflow_mul-product : goal.overflow_mul-product
overflow_mul-product c =
    record { fits = omega (arith, small_next (goal.at.overflow_mul-product c).Else-kept-gt-FRONTIERS) }

pub loop-p-preserved : goal.loop-p-preserved
loop-p-preserved c =
    let l = c.loop-p in
    let a = c.args in (
      now_kept (goal.at.loop-p-preserved c).After-of-count,
      product_step (evenly a.self.each a.self.more) l.p l.product c.of-count.result l.invariant.1
          c.of-count.ensures.0,
      omega (arith, c.if-kept-gt-FRONTIERS.false),
      small_next (goal.at.loop-p-preserved c).Else-kept-gt-FRONTIERS,
    )

pub returns : goal.returns
returns c =
    let l = c.loop-p in
    let all : l.p ≡ c.args.self.processes = omega arith in
    (rw all at l.invariant.0, l.invariant.2)
