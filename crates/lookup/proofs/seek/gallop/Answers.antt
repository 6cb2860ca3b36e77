use Rattle.std.proofs.Common.{length}
use Prim.Native.Nat.{◌+◌, ◌*◌}
use mathlib.Core.Path.{◌≡◌, sym, ◌∙◌}
use Rattle.lookup.proofs.seek.SeekSteps.{gallop_past_keys, gallop_step_keys}
use Rattle.lookup.specs.Seek.{bisect, gallop, keys_of}
use Rattle.std.specs.declared.cmp.Ordering.{Ordering}
use Rattle.std.specs.declared.cmp.Ordering.TheVariants.{Less, Equal, Greater}
use Rattle.std.proofs.Common.{rules}
use Rattle.lookup.proofs.seek.gallop.Goals as goal
use Rattle.lookup.proofs.seek.gallop.Goals.{After-stands_at}

pub returns-then-n-far-clause-place : goal.returns-then-n-far-clause-place
returns-then-n-far-clause-place c =
    let a = c.args in
    let l = c.loop-key in
    (rw c.len-n.ensures.value at c.bisect.ensures.place)
    ∙ sym (l.invariant.5 ∙ gallop_past_keys a.laid.now a.key l.lo l.width (search rules) (search rules))

-- What a turn within does, by how the counts there stand to the key.
turn : (c : After-stands_at) (b : Ordering) → c.stands_at.result ≡ b → let a = c.args in
    let far = c.loop-key.lo + c.loop-key.width in
    gallop (keys_of a.laid.now) a.key (length a.laid.now) a.low 1 ≡ elim b [
      | Less ↦ gallop (keys_of a.laid.now) a.key (length a.laid.now) far (c.loop-key.width * 2)
      | Equal ↦ far
      | Greater ↦ bisect (keys_of a.laid.now) a.key (length a.laid.now) (c.loop-key.lo + 1) far
    ]
turn c b q =
    let a = c.args in
    let l = c.loop-key in
    l.invariant.5 ∙ gallop_step_keys a.laid.now a.key l.lo l.width (search rules) (search rules) b (sym c.stands_at.ensures ∙ q)

pub returns-in-Equal-clause-place : goal.returns-in-Equal-clause-place
returns-in-Equal-clause-place c = sym (turn (goal.at.returns-in-Equal-clause-place c).After-stands_at Equal c.in-Equal.is)

pub returns-in-Greater-clause-place : goal.returns-in-Greater-clause-place
returns-in-Greater-clause-place c =
    c.bisect-in-Greater.ensures.place ∙ sym (turn (goal.at.returns-in-Greater-clause-place c).After-stands_at Greater c.in-Greater.is)

pub loop-key-preserved : goal.loop-key-preserved
loop-key-preserved c =
    let l = c.loop-key in
    (l.invariant.0, l.invariant.1, search rules, search rules, search rules, turn (goal.at.loop-key-preserved c).After-stands_at Less c.in-Less.is)
