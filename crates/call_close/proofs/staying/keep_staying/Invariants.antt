-- Those that stay among the frontiers passed are laid together, and the next is read as it was, since they end before
-- it: the laws `read_here`, `laid_next` and `laid_passed`.
use Prim.Native.Nat.{◌≤◌}
use Rattle.window.specs.StepCode.{stays_with}
use Rattle.call_close.proofs.StayingSteps.{Laid}
use Rattle.call_close.proofs.staying.keep_staying.Given as goal

abbrev pub invariant-loop-i : goal.invariant-loop-i
invariant-loop-i l = (l.i ≤ l.n) × Laid (λ f. stays_with l.k l.closed l.reached f.counts) l.w l.initial.window l.i l.m l.window
