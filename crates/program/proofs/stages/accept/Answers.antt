-- The parts are those of an answer that says nothing.
use mathlib.Core.Path.{refl}
use Rattle.replies.specs.Replies.{parts_of}
use Rattle.program.proofs.stages.accept.Goals as goal

pub returns-clause-reply : goal.returns-clause-reply
unfolding parts_of
returns-clause-reply c = refl
