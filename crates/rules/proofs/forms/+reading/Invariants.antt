-- The readers of a form, of what stands behind its word and of a form inside call each other. A form behind a word has
-- less allowance, a form inside has the allowance of what reads it: so the measure is three times the allowance, one
-- more for the form inside, two more behind a word.
use Rattle.std.proofs.Common.{◌+◌, ◌*◌}
use Rattle.rules.proofs.forms.+reading.Given as goal

abbrev pub decreases-read_binary : goal.decreases-read_binary
decreases-read_binary l = 3 * l.allowance + 2

abbrev pub decreases-read_form : goal.decreases-read_form
decreases-read_form l = 3 * l.allowance

abbrev pub decreases-read_inner : goal.decreases-read_inner
decreases-read_inner l = 3 * l.allowance + 1

abbrev pub decreases-read_unary : goal.decreases-read_unary
decreases-read_unary l = 3 * l.allowance + 2
