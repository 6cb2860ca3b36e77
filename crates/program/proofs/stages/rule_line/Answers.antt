-- The reader says where the rule stands within its line, and what stands there is the rule's text (`rule_lies`).
use mathlib.Core.Path.{refl, sym, ◌∙◌, subst}
use Rattle.program.proofs.StageSteps.{rule_refused, rule_stands}
use Rattle.program.proofs.KeptRule.{Lies, rule_lies}
use Rattle.program.proofs.stages.rule_line.Goals as goal

pub returns-in-Err-clause-stands : goal.returns-in-Err-clause-stands
returns-in-Err-clause-stands c =
    let a = c.args in
    λ t bytes window h. rw (rule_refused t a.session a.rule.now bytes window h a.line.now _ (rw c.in-Err.is at c.read_rule.ensures.value) _ _ refl)
    (c.refuse.ensures.stands t a.rule.now bytes window h)

pub returns-in-Ok-clause-stands : goal.returns-in-Ok-clause-stands
returns-in-Ok-clause-stands c =
    let a = c.args in
    let e = c.accept.ensures in
    let read = rw c.in-Ok.is at c.read_rule.ensures.value in
    λ t bytes window h. rule_stands t a.session a.rule.now bytes window h a.line.now _ read _ _ c.accept.result _ e.stage e.processes e.frontiers e.reply refl
    (rw e.text (c.put.ensures.out_after ∙ subst (Lies _) (sym read) (rule_lies _ _)))
