-- Nothing is known yet.
use mathlib.Core.Path.{refl}
use Rattle.replies.specs.Replies.{parts_of}
use Rattle.program.specs.Turn.{at_first}
use Rattle.program.proofs.turn.begin.Goals as goal

pub returns-clause-by_index : goal.returns-clause-by_index
unfolding at_first parts_of
returns-clause-by_index c =
    λ rule bytes window. record {
      replied = refl;
      stage = refl;
      processes = refl;
      frontiers = refl;
      text = refl;
      bytes = refl;
      kept = refl;
    }
