-- The frontiers after the event are laid down, and become the window.
use mathlib.Core.Path.{◌≡◌, ap, ◌∙◌}
use Prim.Native.Nat.{ℕ}
use lib.ListN.{length, replicate}
use Rattle.frontiers.specs.Bytes.{replaced}
use Rattle.std.proofs.Common.{rules}
use Rattle.window_step.proofs.step.step.Goals as goal

pub returns-clause-window_after : goal.returns-clause-window_after
returns-clause-window_after c =
    let copy = c.copy_back.ensures in
    let a = c.args in
    copy.window_after ∙ ap (replaced a.fixed.now.w a.window.now a.fixed.now.n) c.lay_all.ensures

pub returns-clause-scratch_after : goal.returns-clause-scratch_after
returns-clause-scratch_after c =
    let copy = c.copy_back.ensures in
    let a = c.args in
    let long : length c.lay_all.new.scratch ≡ length a.scratch.now = search rules in
    copy.scratch_after ∙ ap (λ (n : ℕ). replicate n 0) long

pub returns-clause-kept_after : goal.returns-clause-kept_after
returns-clause-kept_after c =
    let copy = c.copy_back.ensures in
    copy.m_after ∙ c.lay_all.ensures
