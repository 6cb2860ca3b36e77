-- Each return is the number's turn: the laws `fault_7`, `fault_8`, `fault_9` and `fault_0`.
use mathlib.Core.Path.{sym, ◌∙◌, ◌≡◌}
use mathlib.Core.Bool.{false}
use Rattle.clocks.specs.Refusal.{bad_mask, bad_clock}
use Rattle.clocks.specs.stored.RefusalLaws.{fault_7, fault_8, fault_9, fault_0}
use Rattle.clocks.proofs.refusal.event_fault.Goals as goal
use Rattle.clocks.proofs.refusal.event_fault.Goals.{Else-bad_clock, Else-bad_mask}

pub returns-then-bad_mask : goal.returns-then-bad_mask
returns-then-bad_mask c =
    let a = c.args in
    sym ((fault_7 a.k a.mask a.clock a.labels).1 (sym c.bad_mask.ensures ∙ c.if-bad_mask.true))

-- The tests that let the event pass.
mask_passed : (c : Else-bad_mask) → bad_mask c.args.k c.args.mask ≡ false
mask_passed c = sym c.bad_mask.ensures ∙ c.if-bad_mask.false

clock_passed : (c : Else-bad_clock) → bad_clock c.args.k c.args.mask c.args.clock ≡ false
clock_passed c = sym c.bad_clock.ensures ∙ c.if-bad_clock.false

pub returns-then-bad_clock : goal.returns-then-bad_clock
returns-then-bad_clock c =
    let a = c.args in
    sym ((fault_8 a.k a.mask a.clock a.labels).1 (mask_passed (goal.at.returns-then-bad_clock c).Else-bad_mask, sym c.bad_clock.ensures ∙ c.if-bad_clock.true))

pub returns-then-bad_labels : goal.returns-then-bad_labels
returns-then-bad_labels c =
    let a = c.args in
    let labels = sym c.bad_labels.ensures ∙ c.if-bad_labels.true in
    sym ((fault_9 a.k a.mask a.clock a.labels).1 (mask_passed (goal.at.returns-then-bad_labels c).Else-bad_mask, clock_passed (goal.at.returns-then-bad_labels c).Else-bad_clock, labels))

pub returns : goal.returns
returns c =
    let a = c.args in
    let labels = sym c.bad_labels.ensures ∙ c.if-bad_labels.false in
    sym ((fault_0 a.k a.mask a.clock a.labels).1 (mask_passed (goal.at.returns c).Else-bad_mask, clock_passed (goal.at.returns c).Else-bad_clock, labels))
