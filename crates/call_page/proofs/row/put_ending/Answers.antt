-- Five bytes, by whether the rule holds.
use Rattle.std.proofs.Common.{◌≡◌, ℕ, ◌+◌, ◌-◌, List, length, Bor, ap, ◌∙◌, arith}
use Rattle.std.proofs.lemmas.List.Edits.{sets}
use Rattle.call_page.specs.Page.{ending}
use Rattle.call_page.specs.RowLaws.{length-ending}
use Rattle.call_page.proofs.StoreSteps.{part_stored}
use Rattle.call_page.proofs.RowSteps.{ending_yes, ending_no}
use Rattle.call_page.proofs.row.put_ending.Goals as goal
use Rattle.call_page.proofs.row.put_ending.Goals.{then-holds, else-holds}

pub returns : goal.returns
returns c =
    let a = c.args in
    let text = c.if-holds.ending.now in
    let is : text ≡ ending a.holds =
    elim c.if-holds.branch [
      | then-holds w ↦ ap (λ (b : Bor (List ℕ)). b.now) w.ending-is ∙ ending_yes a.holds w.if-holds.true
      | else-holds w ↦ ap (λ (b : Bor (List ℕ)). b.now) w.ending-is ∙ ending_no a.holds w.if-holds.false
    ] in
    let five : length text ≡ 5 = ap length is ∙ length-ending a.holds in
    let long : length c.copy_from_slice.new.self ≡ a.at + length text - a.at =
    ap length c.copy_from_slice.ensures.after ∙ omega arith in
    part_stored a.page.now a.at _ _ long (omega arith)
    ∙ ap (sets a.page.now a.at) (c.copy_from_slice.ensures.after ∙ is)
