-- Only stage and reply are others.
use mathlib.Core.Path.{◌∙◌}
use Rattle.program.specs.Stages.{refuse}
use Rattle.replies.specs.Replies.{parts_of}
use Rattle.program.proofs.stages.refuse.Goals as goal

pub returns-clause-stands : goal.returns-clause-stands
unfolding refuse parts_of
returns-clause-stands c =
    λ t rule bytes window h. record {
      replied = c.from-session.ensures ∙ c.from.ensures;
      stage = c.after-session.ensures ∙ rw h.stage;
      processes = h.processes;
      frontiers = h.frontiers;
      text = h.text;
      bytes = h.bytes;
      kept = h.kept;
    }
