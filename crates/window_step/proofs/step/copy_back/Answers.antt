-- The bytes of the frontiers, then zeros where there were more: the laws `copied_replaced` and `read_back`.
use Prim.Native.Nat.{ℕ}
use native.Mathlib.Omega.{arith}
use mathlib.Core.Path.{ap, ◌∙◌}
use mathlib.Core.List.{List}
use lib.ListN.{length, replicate}
use lib.Seq.{sets}
use Rattle.codec.specs.Little.{Bytes}
use Rattle.frontiers.specs.Bytes.{frontiers, frontier_length}
use Rattle.frontiers.specs.WindowLaws.{left_within, copied_replaced, read_back}
use Rattle.std.proofs.Common.{rules}
use Rattle.window_step.proofs.step.copy_back.Goals as goal

pub clear-requires : goal.clear-requires
clear-requires c =
    let a = c.args in
    let asked = c.requires in
    omega (arith, left_within (frontier_length a.w) a.m a.n (length a.window.now) asked.room_for_2.1 asked.room_for.1)

pub returns-clause-window_after : goal.returns-clause-window_after
returns-clause-window_after c =
    let a = c.args in
    let far = c.frontier_place-count in
    let left = c.left_over in
    let bytes : Bytes a.scratch.now = λ i. search rules in
    c.clear.ensures
    ∙ ap (λ (y : List ℕ). sets y far.result (replicate left.result 0)) c.copy_in.ensures
    ∙ copied_replaced a.w a.window.now a.scratch.now a.n a.m far.result left.result bytes c.requires.room_for_3.1 far.ensures.0 left.ensures

pub returns-clause-m_after : goal.returns-clause-m_after
returns-clause-m_after c =
    let a = c.args in
    let asked = c.requires in
    let far = c.frontier_place-count in
    let left = c.left_over in
    let bytes : Bytes a.scratch.now = λ i. search rules in
    let window =
    c.clear.ensures
    ∙ ap (λ (y : List ℕ). sets y far.result (replicate left.result 0)) c.copy_in.ensures
    ∙ copied_replaced a.w a.window.now a.scratch.now a.n a.m far.result left.result bytes asked.room_for_3.1 far.ensures.0 left.ensures in
    ap (λ (y : List ℕ). frontiers a.w y a.m) window ∙ read_back a.w a.window.now a.scratch.now a.n a.m bytes asked.room_for_3.1 asked.room_for_2.1
