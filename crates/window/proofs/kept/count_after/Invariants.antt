-- Each turn adds what comes of one more frontier, and marks it: the laws `kept_after_more` and `marked_more`.
use Rattle.std.proofs.Common.{◌≡◌, ℕ, ◌*◌, ◌≤◌, true, false, List}
use Rattle.clocks.specs.declared.Event.{Event}
use Rattle.frontiers.specs.Bytes.{frontiers}
use Rattle.window.specs.Step.{kept_after}
use Rattle.window.specs.StepCode.{setting_with}
use Rattle.window.specs.Prepared.{bound_counts, Counted}
use Rattle.window.specs.Marks.{Marked}
use Rattle.window.proofs.kept.count_after.Given as goal

abbrev pub invariant-loop-i : goal.invariant-loop-i
invariant-loop-i l = (l.total ≤ 2 * l.i)
    × ((e : Event) (table : List ℕ) (lines : ℕ) → Counted e → l.low ≡ bound_counts false e → l.span ≡ bound_counts true e
    → (l.total ≡ kept_after (setting_with l.k l.closed table lines e l.reached) (frontiers l.w l.window l.i))
    × Marked (setting_with l.k l.closed table lines e l.reached) l.w l.window l.i l.marks)
