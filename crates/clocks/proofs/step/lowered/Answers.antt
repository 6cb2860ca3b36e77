-- What the event knows of is its clock less its own mask: the law `lowered-minus`.
use mathlib.Core.Path.{sym, ap, ◌∙◌}
use Rattle.clocks.specs.Counts.{list_of}
use Rattle.clocks.specs.stored.StepCountLaws.{lowered-minus}
use Rattle.clocks.proofs.step.lowered.Goals as goal

pub returns : goal.returns
returns c = c.minus.ensures ∙ ap (list_of 8) (sym (lowered-minus c.args.e))
