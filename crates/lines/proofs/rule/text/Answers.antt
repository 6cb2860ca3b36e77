-- The rule is empty in a line of six bytes or fewer.
use Rattle.std.proofs.Common.{sym, refl}
use Rattle.lines.proofs.rule.RuleSteps.{text_short, text_long}
use Rattle.lines.proofs.rule.text.Goals as goal

pub returns-then-line-lt7 : goal.returns-then-line-lt7
returns-then-line-lt7 c = sym (text_short c.args.line.now c.if-line-lt7.true)

pub returns-else-line-lt7 : goal.returns-else-line-lt7
returns-else-line-lt7 c = sym (text_long c.args.line.now _ c.if-line-lt7.false refl)
