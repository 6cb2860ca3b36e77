-- Without a conflict there is no repeat: the law `repeat_conflicts`.
use mathlib.Core.Path.{sym, ◌∙◌}
use Rattle.records.specs.Record.{pending_events}
use Rattle.call_offer.proofs.OfferSteps.{repeat_conflicts}
use Rattle.std.proofs.Common.{rules}
use Rattle.call_offer.proofs.sent_again.Goals as goal

pub returns-else-suspected : goal.returns-else-suspected
returns-else-suspected c =
    let a = c.args in
    c.if-suspected.false
    ∙ sym (repeat_conflicts a.e (pending_events a.w a.«record».now) (search rules) (search rules)
    (sym c.requires.suspected_value ∙ c.if-suspected.false))
