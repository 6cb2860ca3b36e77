-- The line holds at no frontier passed, by fours or one by one: the law `first_end`.
use Rattle.std.proofs.Common.{rules}
use Rattle.codec.specs.Bit.{bit}
use borrow.Author.Tests.{tests}
use Rattle.std.proofs.Common.{◌≡◌, true}
use Rattle.std.proofs.lemmas.Iterator.{first_from_Range}
use Rattle.call_find.specs.FindCode.{values_at}
use Rattle.call_find.proofs.FindSteps.{NotAt, first_end}
use Rattle.call_find.proofs.first_holding.Goals as goal

pub returns : goal.returns
returns c =
    let a = c.args in
    let start = c.pass_fours-start in
    let found = first_from_Range _ _ _ _ (λ i. bit (values_at a.laid.now i) a.line ≡ true) (NotAt a.line a.laid.now) c.find.ensures.ran
    (λ x q k. search (rules, tests)) (λ x q k. search (rules, tests)) in
    let both = first_end a.line a.laid.now c.find.result start.result start.ensures.upper_bound start.ensures.kept_value
    (rw c.len-kept.ensures.value at found) in
    record { nowhere = both.0; first = both.1; most = search rules }
