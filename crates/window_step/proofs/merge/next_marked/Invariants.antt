-- Each frontier passed is none of those sought: the law `rest_pass`.
use mathlib.Core.Path.{◌≡◌}
use Prim.Native.Nat.{ℕ}
use mathlib.Core.Bool.{Bool}
use mathlib.Core.List.{List}
use Rattle.frontiers.specs.declared.Frontier.{Frontier}
use Rattle.window_step.specs.Laying.{rest_of}
use Rattle.window.specs.Marks.{Tells}
use Rattle.window_step.proofs.merge.next_marked.Given as goal

abbrev pub invariant-loop-next : goal.invariant-loop-next
invariant-loop-next l = (t : Frontier → Bool) (w : ℕ) (window : List ℕ) → Tells l.p t w window l.n l.marks → rest_of t w window l.n l.from ≡ rest_of t w window l.n l.next
