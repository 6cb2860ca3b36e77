-- The parameters of the step make the setting of the record (`setting_lent`).
use Prim.Native.Nat.{ℕ, ◌<◌, ◌-◌}
use native.Mathlib.Omega.{arith}
use mathlib.Core.List.{List}
use lib.ListN.{length, take, drop}
use mathlib.Core.Path.{◌≡◌, ap, ◌∙◌}
use Rattle.clocks.specs.Event.{apply}
use Rattle.clocks.specs.Counts.{at, list_of}
use Rattle.frontiers.specs.Bytes.{frontiers}
use Rattle.window.specs.Step.{Setting, kept_after}
use Rattle.window.specs.StepCode.{setting_with}
use Rattle.records.specs.Record.{taken_counts, ready_in}
use Rattle.trial.specs.Trial.{setting_in}
use Rattle.trial.specs.SettingLaws.{setting_lent}
use Rattle.call_take.proofs.step_window.Goals as goal
use Rattle.call_take.proofs.step_window.Goals.{After-table_place-place, Start}

-- ---- The goals

pub apply-reached-requires : goal.apply-reached-requires
unfolding ready_in
apply-reached-requires c = rw c.taken_counts.ensures c.requires.t

-- The event's mask is a byte.
small : (c : Start) → c.args.e.mask < 256
small c = omega arith

-- The step's parameters make the record's setting.
setting : (c : After-table_place-place) → let a = c.args in
    let s = a.«record».now in
    let place = c.table_place-place.result in
    setting_in a.w s a.e
    ≡ setting_with c.process_count-k.result c.from-closed.result
    (take (length s - place) (drop place s)) c.line_total-lines.result a.e c.apply-reached.result
setting c =
    let a = c.args in
    let s = a.«record».now in
    let counts : c.apply-reached.result ≡ list_of 8 (apply a.e (at (taken_counts a.w s))) =
    c.apply-reached.ensures
    ∙ ap (λ (l : List ℕ). list_of 8 (apply a.e (at l))) c.taken_counts.ensures in
    setting_lent a.w s a.e _ _ _ _ _ (small (goal.at.After-table_place-place c).Start) c.process_count-k.ensures.0
    (c.from-closed.ensures ∙ c.closed_mask.ensures.0) c.table_place-place.ensures.0 c.line_total-lines.ensures.0 counts

pub step-requires-clause-kept_value : goal.step-requires-clause-kept_value
step-requires-clause-kept_value c =
    let a = c.args in
    let asked = c.requires in
    asked.kept_value
    ∙ ap (λ (t : Setting). kept_after t (frontiers a.w a.window.now a.n))
    (setting (goal.at.step-requires-clause-kept_value c).After-table_place-place)

pub step-requires-clause-n_in_bounds : goal.step-requires-clause-n_in_bounds
step-requires-clause-n_in_bounds c =
    let asked = c.requires in
    asked.n_in_bounds

pub step-requires-clause-marked : goal.step-requires-clause-marked
step-requires-clause-marked c =
    let asked = c.requires in
    rw (setting (goal.at.step-requires-clause-marked c).After-table_place-place) at asked.marked

pub returns-clause-window : goal.returns-clause-window
returns-clause-window c =
    let to = setting (goal.at.returns-clause-window c).After-table_place-place in
    let step = c.step.ensures in
    rw to step.window_after

pub returns-clause-scratch : goal.returns-clause-scratch
returns-clause-scratch c =
    let step = c.step.ensures in
    step.scratch_after

pub returns-clause-frontiers : goal.returns-clause-frontiers
returns-clause-frontiers c =
    let to = setting (goal.at.returns-clause-frontiers c).After-table_place-place in
    let step = c.step.ensures in
    rw to step.kept_after
