-- The byte decides, as the definition says.
use Rattle.std.proofs.Common.{sym, ◌∙◌}
use Rattle.line_pieces.specs.NumberList.{then_list}
use Rattle.line_pieces.proofs.list.then_list.Goals as goal

pub returns-then-has_byte : goal.returns-then-has_byte
unfolding then_list
returns-then-has_byte c = rw (sym c.has_byte.ensures.value ∙ c.if-has_byte.true) c.no_numbers.ensures

pub returns : goal.returns
unfolding then_list
returns c = rw (sym c.has_byte.ensures.value ∙ c.if-has_byte.false) c.read_numbers.ensures
