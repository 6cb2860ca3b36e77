-- What is told of a possible answer's parts is all of them (`possible_told`).
use Rattle.std.proofs.Common.{◌∙◌}
use Rattle.replies.specs.ReplyLaws.{possible_told}
use Rattle.replies.proofs.takes_again.Goals as goal

pub returns : goal.returns
returns c = λ counts a p e. c.take_follows.ensures counts a p (c.result.ensures ∙ possible_told a _ _ counts p e)
