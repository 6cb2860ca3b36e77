-- The library's search through the numbers of the pending events: the law `any_numbered`.
use Rattle.std.proofs.Common.{rules, arith, ap, zero-add, ◌∙◌, ℕ, Bool}
use lib.ListN.{get_or}
use borrow.Author.Tests.{tests}
use Rattle.std.proofs.lemmas.Iterator.{YieldsList-from_range}
use Rattle.std.proofs.lemmas.Iterator.Search.{any_from_yields_List}
use Rattle.codec.specs.Bit.{bit}
use Rattle.clocks.specs.Event.{involved}
use Rattle.records.specs.Record.{pending_count, pending_place, pending_at, pending_events}
use Rattle.refusals.specs.Refusals.{named_by}
use Rattle.call_close.proofs.RefusedSteps.{any_numbered}
use Rattle.call_close.proofs.refused.named_by.Goals as goal

pub returns : goal.returns
unfolding named_by pending_events involved pending_at
returns c =
    let a = c.args in
    let s = a.«record».now in
    let n = pending_count s in
    let test : ℕ → Bool = λ i. bit (get_or s (pending_place a.w i) 0) a.p in
    any_from_yields_List test _ _ c.any.result c.any.ensures.ran (YieldsList-from_range 0 n n (search rules) (omega arith))
    (λ x b q k. search (rules, tests))
    ∙ any_numbered 0 n test (pending_at a.w s) (λ e. involved e a.p) (λ j. ap test (zero-add j))
