-- Each turn lays down the next slot: the laws `laid_staying` and `laid_fresh`.
use Prim.Native.Nat.{◌≤◌}
use Rattle.frontiers.specs.Bytes.{frontiers}
use Rattle.window_step.specs.Fixed.{setting_of}
use Rattle.window_step.specs.Laying.{Laying}
use Rattle.window_step.proofs.merge.lay_all.Given as goal

abbrev pub invariant-loop-m : goal.invariant-loop-m
invariant-loop-m l = (l.i ≤ l.n) × (l.j ≤ l.n)
    × Laying (setting_of l.fixed l.table) l.w l.window l.n l.fixed.kept (frontiers l.w l.scratch l.m) l.hints l.i l.j l.m
