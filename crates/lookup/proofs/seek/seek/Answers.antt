-- The first test leads as in the definition: the laws `seek_whole_keys` and `seek_step_keys`.
use Rattle.std.proofs.Common.{length}
use mathlib.Core.Path.{◌≡◌, sym, ◌∙◌}
use Rattle.lookup.proofs.seek.SeekSteps.{seek_whole_keys, seek_step_keys}
use Rattle.lookup.specs.Seek.{bisect, gallop, seek, keys_of}
use Rattle.std.specs.declared.cmp.Ordering.{Ordering}
use Rattle.std.specs.declared.cmp.Ordering.TheVariants.{Less, Equal, Greater}
use Rattle.std.proofs.Common.{rules}
use Rattle.lookup.proofs.seek.seek.Goals as goal
use Rattle.lookup.proofs.seek.seek.Goals.{After-stands_at}

pub returns-then-n-hint-clause-place : goal.returns-then-n-hint-clause-place
returns-then-n-hint-clause-place c =
    let a = c.args in
    (rw c.len-n.ensures.value at c.bisect.ensures.place)
    ∙ sym (seek_whole_keys a.laid.now a.key a.hint (search rules))

-- What is done by how the counts at the hint stand to the key.
turn : (c : After-stands_at) (b : Ordering) → c.stands_at.result ≡ b → let a = c.args in
    seek (keys_of a.laid.now) a.key a.hint ≡ elim b [
      | Less ↦ gallop (keys_of a.laid.now) a.key (length a.laid.now) a.hint 1
      | Equal ↦ a.hint
      | Greater ↦ bisect (keys_of a.laid.now) a.key (length a.laid.now) 0 a.hint
    ]
turn c b q =
    let a = c.args in
    seek_step_keys a.laid.now a.key a.hint (search rules) b (sym c.stands_at.ensures ∙ q)

pub returns-in-Equal-clause-place : goal.returns-in-Equal-clause-place
returns-in-Equal-clause-place c = sym (turn (goal.at.returns-in-Equal-clause-place c).After-stands_at Equal c.in-Equal.is)

pub returns-in-Less-clause-place : goal.returns-in-Less-clause-place
returns-in-Less-clause-place c =
    c.gallop.ensures.place ∙ sym (turn (goal.at.returns-in-Less-clause-place c).After-stands_at Less c.in-Less.is)

pub returns-in-Greater-clause-place : goal.returns-in-Greater-clause-place
returns-in-Greater-clause-place c =
    c.bisect-in-Greater.ensures.place ∙ sym (turn (goal.at.returns-in-Greater-clause-place c).After-stands_at Greater c.in-Greater.is)
