-- Each turn considers one more process: the laws `gathered_more`, `consider_passed`, `consider_missing` and
-- `consider-found`.
use Prim.Native.Nat.{ℕ}
use mathlib.Core.Path.{◌≡◌}
use mathlib.Core.List.{List}
use Rattle.window.specs.Step.{Setting, Gathered, gathered}
use Rattle.window_step.proofs.gather.gather.Given as goal

-- What is gathered so far.
abbrev pub sofar : ℕ → ℕ → List ℕ → Gathered
sofar ors ands begins = record { ors = ors; ands = ands; hints = begins }

abbrev pub invariant-loop-p : goal.invariant-loop-p
invariant-loop-p l = (s : Setting) → s.stored ≡ 8 → s.event.mask ≡ l.mask
    → sofar l.ors l.ands l.hints ≡ gathered s l.laid l.initial.hints l.g l.p
