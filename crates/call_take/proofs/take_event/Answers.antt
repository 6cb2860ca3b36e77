-- The step, the record's bytes and the verdict, one after the other.
use native.Mathlib.Omega.{arith}
use Prim.Native.Nat.{ℕ}
use lib.ListN.{replicate}
use mathlib.Core.Path.{ap, ◌∙◌}
use Rattle.frontiers.specs.WindowLaws.{length-frontiers}
use Rattle.call_take.specs.Take.{decided}
use Rattle.call_take.proofs.TakenSteps.{pending_fits, taken_answer, taken_bytes}
use Rattle.call_take.proofs.take_event.Goals as goal

-- ---- The goals

pub step_window-requires-clause-fitting : goal.step_window-requires-clause-fitting
step_window-requires-clause-fitting c =
    let a = c.args in
    let event = c.pending_event-e.ensures in
    rw event (pending_fits a.w a.«record».now a.i (λ j. (c.slice_known-1.given j).fits))

pub step_window-requires-clause-t : goal.step_window-requires-clause-t
step_window-requires-clause-t c =
    let asked = c.requires in
    let event = c.pending_event-e.ensures in
    rw event asked.t

pub step_window-requires-clause-kept_value : goal.step_window-requires-clause-kept_value
step_window-requires-clause-kept_value c =
    let asked = c.requires in
    let event = c.pending_event-e.ensures in
    rw event asked.kept_value

pub step_window-requires-clause-n_in_bounds : goal.step_window-requires-clause-n_in_bounds
step_window-requires-clause-n_in_bounds c =
    let asked = c.requires in
    asked.n_in_bounds

pub step_window-requires-clause-marked : goal.step_window-requires-clause-marked
step_window-requires-clause-marked c =
    let asked = c.requires in
    let event = c.pending_event-e.ensures in
    rw event asked.marked

pub count_event-requires-clause-by_index : goal.count_event-requires-clause-by_index
count_event-requires-clause-by_index c =
    let a = c.args in
    let event = c.pending_event-e.ensures in
    rw event (pending_fits a.w a.«record».now a.i (λ j. (c.slice_known-1.given j).fits)).clock_fits

pub count_event-requires-clause-t : goal.count_event-requires-clause-t
count_event-requires-clause-t c =
    let asked = c.requires in
    let event = c.pending_event-e.ensures in
    rw event asked.t

pub verdict-requires-clause-le_kept : goal.verdict-requires-clause-le_kept
verdict-requires-clause-le_kept c =
    let asked = c.requires in
    let kept = asked.le_kept in
    (kept.0, (kept.1.0, omega (arith, kept.1.1)))

pub overflow_cast-kept-2 : goal.overflow_cast-kept-2
overflow_cast-kept-2 c = let asked = c.requires in omega (arith, asked.le_kept.1.0)

-- The places step by step here: `rw` does not rewrite beneath their names above.
pub returns-clause-reply : goal.returns-clause-reply
unfolding decided
returns-clause-reply c =
    let a = c.args in
    let asked = c.requires in
    let kept = asked.kept_value in
    let event = c.pending_event-e.ensures in
    let step = c.step_window.ensures in
    taken_answer a.w a.«record».now a.window.now a.n a.i a.kept kept c.step_window.new.window _ _ _ (rw event at step.frontiers) c.line_total-lines.ensures.0 c.verdict.ensures c.state_word.ensures

pub returns-clause-bytes : goal.returns-clause-bytes
unfolding decided
returns-clause-bytes c =
    let a = c.args in
    let asked = c.requires in
    let kept = asked.kept_value in
    let event = c.pending_event-e.ensures in
    taken_bytes a.w a.«record».now a.window.now a.n a.i a.kept kept _ _ event c.count_event.ensures

pub returns-clause-window : goal.returns-clause-window
unfolding decided
returns-clause-window c =
    let a = c.args in
    let event = c.pending_event-e.ensures in
    let step = c.step_window.ensures in
    rw (length-frontiers a.w a.window.now a.n) (rw event at step.window)

pub returns-clause-scratch : goal.returns-clause-scratch
unfolding decided
returns-clause-scratch c =
    let asked = c.requires in
    let step = c.step_window.ensures in
    step.scratch ∙ ap (λ (m : ℕ). replicate m 0) asked.scratch_len
