-- The answer on the rule's bytes decides; those that are accepted are some, so the line has a last byte after them.
use Rattle.std.proofs.Common.{sym, refl, ◌∙◌, arith}
use Rattle.lines.specs.LinesCode.{rule_line_of}
use Rattle.lines.proofs.LineSteps.{fault_kept}
use Rattle.lines.proofs.rule.RuleSteps.{text_answer, closed_refused, closed_accepted, accepted_long}
use Rattle.lines.proofs.rule.closed.Goals as goal

pub returns-in_err-read_rule-clause-value : goal.returns-in_err-read_rule-clause-value
returns-in_err-read_rule-clause-value c =
    let s = c.args.line.now in
    fault_kept rule_line_of _ _ c.from_residual.ensures.1
    (closed_refused s c.args.k _ _ (c.in_err-read_rule.ensures.value ∙ text_answer s _ _ _ c.text.ensures refl))

pub overflow_sub-end : goal.overflow_sub-end
overflow_sub-end c =
    let s = c.args.line.now in
    let answer = text_answer s _ c.args.k _ c.text.ensures refl in
    let long = accepted_long s c.args.k _ (c.in_ok-read_rule.ensures.value ∙ answer) in
    omega (arith, long)

pub returns-then-not-has_byte-clause-value : goal.returns-then-not-has_byte-clause-value
returns-then-not-has_byte-clause-value c =
    let s = c.args.line.now in
    sym (closed_accepted s c.args.k _ (c.in_ok-read_rule.ensures.value ∙ text_answer s _ _ _ c.text.ensures refl)
    ∙ rw (sym c.has_byte.ensures.value ∙ c.if-not-has_byte.true))

pub returns-clause-value : goal.returns-clause-value
returns-clause-value c =
    let s = c.args.line.now in
    sym (closed_accepted s c.args.k _ (c.in_ok-read_rule.ensures.value ∙ text_answer s _ _ _ c.text.ensures refl)
    ∙ rw (sym c.has_byte.ensures.value ∙ c.if-not-has_byte.false))

pub returns-clause-rule_within : goal.returns-clause-rule_within
returns-clause-rule_within c =
    let s = c.args.line.now in
    let answer = text_answer s _ c.args.k _ c.text.ensures refl in
    let long = accepted_long s c.args.k _ (c.in_ok-read_rule.ensures.value ∙ answer) in
    (omega (arith, long), omega arith)
