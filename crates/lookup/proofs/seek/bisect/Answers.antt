use Rattle.std.proofs.Common.{length}
use Prim.Native.Nat.{◌/◌, ◌-◌, ◌+◌}
use mathlib.Core.Path.{◌≡◌, sym, ◌∙◌}
use Rattle.lookup.proofs.seek.SeekSteps.{bisect-end_keys, bisect_step_keys}
use Rattle.lookup.specs.Seek.{bisect, keys_of}
use Rattle.std.specs.declared.cmp.Ordering.{Ordering}
use Rattle.std.specs.declared.cmp.Ordering.TheVariants.{Less, Equal, Greater}
use Rattle.std.proofs.Common.{rules}
use Rattle.lookup.proofs.seek.bisect.Goals as goal
use Rattle.lookup.proofs.seek.bisect.Goals.{After-stands_at}

-- What a turn does, by how the middle stands to the key.
turn : (c : After-stands_at) (b : Ordering) → c.stands_at.result ≡ b → let a = c.args in
    let lo = c.loop-lo.lo in
    let hi = c.loop-lo.hi in
    bisect (keys_of a.laid.now) a.key (length a.laid.now) a.low a.high ≡ elim b [
      | Less ↦ bisect (keys_of a.laid.now) a.key (length a.laid.now) (lo + (hi - lo) / 2 + 1) hi
      | Equal ↦ lo + (hi - lo) / 2
      | Greater ↦ bisect (keys_of a.laid.now) a.key (length a.laid.now) lo (lo + (hi - lo) / 2)
    ]
turn c b q =
    let a = c.args in
    let l = c.loop-lo in
    l.invariant.1 ∙ bisect_step_keys a.laid.now a.key l.lo l.hi (search rules) l.invariant.0 b (sym c.stands_at.ensures ∙ q)

pub returns-in-Equal-clause-place : goal.returns-in-Equal-clause-place
returns-in-Equal-clause-place c = sym (turn (goal.at.returns-in-Equal-clause-place c).After-stands_at Equal c.in-Equal.is)

pub loop-lo-preserved-in-Less : goal.loop-lo-preserved-in-Less
loop-lo-preserved-in-Less c =
    (search rules, turn (goal.at.loop-lo-preserved-in-Less c).After-stands_at Less c.in-Less.is)

pub loop-lo-preserved : goal.loop-lo-preserved
loop-lo-preserved c = (search rules, turn (goal.at.loop-lo-preserved c).After-stands_at Greater c.in-Greater.is)

pub returns-clause-place : goal.returns-clause-place
returns-clause-place c =
    let a = c.args in
    let l = c.loop-lo in
    sym (l.invariant.1 ∙ bisect-end_keys a.laid.now a.key l.lo l.hi (search rules))
