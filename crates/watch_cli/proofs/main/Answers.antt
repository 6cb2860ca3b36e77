-- The program begins at the watch line, and so is not over.
use Rattle.std.proofs.Common.{arith, refl, []}
use Rattle.program.specs.Turn.{at_first}
use Rattle.watch_cli.proofs.main.Goals as goal

pub loop-init : goal.loop-init
unfolding at_first
loop-init c =
    let first = (c.begin-session.ensures.by_index [] [] []).stage in
    record {
      not_over = omega (arith, first);
      within = c.begin-session.ensures.by_index_2 4112;
      line = refl;
      rule = refl;
      bytes = refl;
      window = refl;
      scratch = refl;
      out = refl;
    }
