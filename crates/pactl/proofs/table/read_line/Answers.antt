-- The three bytes of the line.
use mathlib.Core.Path.{refl}
use Rattle.pactl.specs.TableBytes.{line_at}
use Rattle.pactl.proofs.table.read_line.Goals as goal

pub returns : goal.returns
unfolding line_at
returns c = refl
