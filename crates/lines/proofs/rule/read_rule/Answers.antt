-- The head decides first, then the rule and the last byte.
use Rattle.lines.specs.Lines.{rule_of, rule_line}
use Rattle.lines.specs.LinesCode.{rule_line_of}
use Rattle.lines.proofs.LineSteps.{fault_kept}
use Rattle.lines.proofs.rule.RuleSteps.{head_limited}
use Rattle.lines.proofs.rule.read_rule.Goals as goal

pub returns-in_err-limited-clause-value : goal.returns-in_err-limited-clause-value
unfolding rule_of rule_line
returns-in_err-limited-clause-value c =
    fault_kept rule_line_of _ _ c.from_residual.ensures.1
    (rw (← head_limited c.args.line.now _ _ c.head.ensures c.in_err-limited.ensures))

pub returns-clause-value : goal.returns-clause-value
unfolding rule_of rule_line
returns-clause-value c =
    rw (← head_limited c.args.line.now _ _ c.head.ensures c.in_ok-limited.ensures) c.closed.ensures.value
