-- The line holds at none of the four that are passed: the law `fours_end`.
use Rattle.std.proofs.Common.{rules, arith, ◌≤◌, ◌*◌, ◌+◌, ◌/◌, ◌≡◌, length}
use borrow.Author.Tests.{tests}
use Rattle.std.proofs.lemmas.Iterator.{serves_from_Range, first_from_Range}
use Rattle.std.specs.Option.{unwrap_or}
use Rattle.call_find.specs.FindCode.{reply_from}
use Rattle.call_find.proofs.FindSteps.{NoneOfFour, fours_end}
use Rattle.call_find.proofs.pass_fours.Goals as goal
use Rattle.call_find.proofs.pass_fours.Goals.{After-find}

pub find-requires-clause-callable : goal.find-requires-clause-callable
find-requires-clause-callable c =
    let a = c.args in
    serves_from_Range (λ x q h. search rules) (λ x l m y e.
    let within : 4 * y.now + 4 ≤ length a.laid.now = omega arith in
    search rules)

passed : (c : After-find) → let a = c.args in let r = c.find.result in
    let n = length a.laid.now / 4 in
    (unwrap_or r n ≤ n) × (reply_from a.line a.laid.now 0 ≡ reply_from a.line a.laid.now (4 * unwrap_or r n))
passed c =
    let a = c.args in
    let found = first_from_Range _ _ _ _ (λ _. Unit {0}) (NoneOfFour a.line a.laid.now) c.find.ensures.ran (λ x q k. tt)
    (λ x q k. search (rules, tests)) in
    fours_end a.line a.laid.now c.find.result (rw c.len-fours.ensures.value at found)

pub overflow_mul-result : goal.overflow_mul-result
overflow_mul-result c =
    let within = (passed (goal.at.overflow_mul-result c).After-find).0 in
    record { fits = rw (c.unwrap_or.ensures, c.len-fours.ensures.value) (omega arith) }

pub returns-clause-kept_value : goal.returns-clause-kept_value
returns-clause-kept_value c =
    rw (c.unwrap_or.ensures, c.len-fours.ensures.value) (passed (goal.at.returns-clause-kept_value c).After-find).1
