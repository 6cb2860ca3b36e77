-- Every pending event passed has a key before the event's; the first that has not stands in its place: the law
-- `place_found`.
use Rattle.std.proofs.Common.{rules}
use borrow.Author.Tests.{tests}
use Rattle.std.proofs.lemmas.Iterator.{first_from_Range}
use Rattle.call_offer.proofs.OfferSteps.{Before, NotBefore, place_found}
use Rattle.call_offer.proofs.place_among.Goals as goal

pub returns : goal.returns
returns c =
    let a = c.args in
    let s = a.«record».now in
    let n = c.pending_count-n in
    let found = place_found a.w s a.e n.result n.ensures.0 c.find.result
    (first_from_Range _ _ _ _ (NotBefore a.w s a.e) (Before a.w s a.e) c.find.ensures.ran (λ x q k. search (rules, tests))
    (λ x q k. search (rules, tests))) in
    rw c.unwrap_or.ensures (found.0, found.1)
