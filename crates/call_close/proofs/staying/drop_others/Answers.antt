-- Those that stay, then zeros where there were more: the law `cleared_behind`.
use native.Mathlib.Omega.{arith}
use mathlib.Core.Path.{◌∙◌}
use Prim.Native.Nat.{◌≤◌, ◌*◌}
use lib.ListN.{length}
use native.Mathlib.Nat.{mul-le-mul_right}
use Rattle.frontiers.specs.Bytes.{frontier_length}
use Rattle.frontiers.specs.WindowLaws.{left_within}
use Rattle.call_close.specs.CloseCode.{staying}
use Rattle.call_close.proofs.StayingSteps.{cleared_behind}
use Rattle.std.proofs.Common.{rules}
use Rattle.call_close.proofs.staying.drop_others.Goals as goal

-- ---- The goals

pub clear-requires : goal.clear-requires
clear-requires c =
    let m = c.keep_staying-m.result in
    let a = c.args in
    let F = frontier_length a.w in
    let room : a.n * F ≤ length a.window.now = search rules in
    let few : m * F ≤ a.n * F = mul-le-mul_right F c.keep_staying-m.ensures.upper_bound in
    omega (arith, left_within F m a.n (length a.window.now) (omega arith) room)

pub returns-clause-upper_bound : goal.returns-clause-upper_bound
returns-clause-upper_bound c =
    let kept = c.keep_staying-m in
    let few : kept.result ≤ 1024 = omega (arith, kept.ensures.upper_bound, c.requires.room_for.0) in
    few

pub returns-clause-value : goal.returns-clause-value
returns-clause-value c =
    let kept = c.keep_staying-m in
    kept.ensures.value

pub returns-clause-window_after : goal.returns-clause-window_after
returns-clause-window_after c =
    let a = c.args in
    let kept = c.keep_staying-m in
    let far = c.frontier_place-end in
    let gs = staying a.w a.k a.closed a.reached a.window.now a.n in
    let bytes =
    c.clear.ensures
    ∙ cleared_behind a.w a.n kept.result far.result c.frontier_place.result a.window.now _ gs
    kept.ensures.value far.ensures.0 c.frontier_place.ensures.0 kept.ensures.window_after in
    bytes
