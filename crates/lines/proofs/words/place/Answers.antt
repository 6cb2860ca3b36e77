use Rattle.std.proofs.Common.{refl}
use Rattle.clocks.specs.Counts.{at}
use Rattle.lines.specs.Words.{placed}
use Rattle.lines.proofs.words.WordSteps.{placed_next}
use Rattle.lines.proofs.words.place.Goals as goal

pub loop-j-init : goal.loop-j-init
unfolding placed
loop-j-init c = refl

pub loop-j-preserved : goal.loop-j-preserved
loop-j-preserved c =
    let l = c.loop-j in
    let a = c.args in
    rw (placed_next l.j (at a.places.now) (at a.values.now), ← l.invariant) c.keep.ensures
