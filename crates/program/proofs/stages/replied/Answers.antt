-- A refusal is known by its number, which is not 0.
use mathlib.Core.Path.{refl, ◌∙◌}
use Rattle.program.proofs.StageSteps.{refused_told}
use Rattle.program.proofs.stages.replied.Goals as goal

pub returns : goal.returns
returns c =
    let d = c.decode-reply in
    record {
      processes = refl;
      frontiers = refl;
      text = refl;
      reply = λ a f e. (
        c.from-session.ensures ∙ d.ensures a f e,
        c.after-session.ensures ∙ rw (c.is_err.ensures.value, refused_told a d.result f (d.ensures a f e)),
      );
    }
