-- What is fixed during a step, in the words of the definition.
use Rattle.std.specs.Prelude.{List, ℕ}
use Rattle.frontiers.specs.declared.Frontier.{Frontier}
use Rattle.frontiers.specs.Bytes.{frontiers}
use Rattle.window.specs.Step.{Setting, stepped}
use Rattle.window.specs.StepCode.{setting_with}
use Rattle.window_step.specs.declared.Stepping.{Stepping}

-- The setting of the step; the table by its bytes.
abbrev pub setting_of : Stepping → List ℕ → Setting
setting_of fixed table = setting_with fixed.k fixed.closed table fixed.lines fixed.event fixed.reached

-- The window's frontiers before the step.
abbrev pub frontiers_of : Stepping → List ℕ → List Frontier
frontiers_of fixed window = frontiers fixed.w window fixed.n

-- The window's frontiers after it.
abbrev pub stepped_of : Stepping → List ℕ → List ℕ → List Frontier
stepped_of fixed table window = stepped (setting_of fixed table) (frontiers_of fixed window)
