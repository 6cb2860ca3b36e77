-- A frontier that stands there already is as good as moved; another is moved by the law `moved_to_lem`.
use native.Mathlib.Omega.{arith}
use mathlib.Core.Path.{◌≡◌, sym, ◌∙◌}
use Prim.Native.Nat.{ℕ, ◌-◌, ◌+◌, ◌*◌}
use native.Mathlib.Nat.{mul-le-mul_right}
use Rattle.codec.specs.SetsLaws.{sets_same}
use Rattle.frontiers.specs.Bytes.{frontier_length}
use Rattle.call_close.proofs.StayingSteps.{moved_to_lem}
use Rattle.std.proofs.Common.{rules}
use Rattle.call_close.proofs.staying.settle.Goals as goal

pub returns-then-i-m : goal.returns-then-i-m
returns-then-i-m c =
    let a = c.args in
    let s = a.window.now in
    let e : a.m ≡ a.i = omega arith in
    sym (rw e (sets_same s (a.i * frontier_length a.w) (frontier_length a.w)))

pub overflow_sub-from : goal.overflow_sub-from
overflow_sub-from c =
    let a = c.args in
    omega (arith, mul-le-mul_right {m = a.m} {n = a.i} (frontier_length a.w) (search rules))

forty : (w : ℕ) → w ≡ 2 → 40 ≡ frontier_length w
unfolding frontier_length
forty w two = rw two

fifty_six : (w : ℕ) → w ≡ 4 → 56 ≡ frontier_length w
unfolding frontier_length
fifty_six w four = rw four

pub move_part_down-requires : goal.move_part_down-requires
move_part_down-requires c =
    let a = c.args in
    let size : 40 ≡ frontier_length a.w = forty a.w (omega arith) in
    omega (arith, size, mul-le-mul_right {m = a.m} {n = a.i} (frontier_length a.w) (search rules))

pub move_part_down-requires-else-bytes-eq2 : goal.move_part_down-requires-else-bytes-eq2
move_part_down-requires-else-bytes-eq2 c =
    let a = c.args in
    let size : 56 ≡ frontier_length a.w = fifty_six a.w (omega arith) in
    omega (arith, size, mul-le-mul_right {m = a.m} {n = a.i} (frontier_length a.w) (search rules))

pub returns-then-bytes-eq2 : goal.returns-then-bytes-eq2
returns-then-bytes-eq2 c =
    let a = c.args in
    let to = c.frontier_place-to in
    let from = c.frontier_place-from in
    let there : to.result + (from.result - to.result) ≡ a.i * frontier_length a.w =
    omega (arith, mul-le-mul_right {m = a.m} {n = a.i} (frontier_length a.w) (search rules)) in
    c.move_part_down.ensures
    ∙ moved_to_lem a.window.now to.result (from.result - to.result) 40 a.m a.i (frontier_length a.w)
    to.ensures.0 there (forty a.w (omega arith))

pub returns-else-bytes-eq2 : goal.returns-else-bytes-eq2
returns-else-bytes-eq2 c =
    let a = c.args in
    let to = c.frontier_place-to in
    let from = c.frontier_place-from in
    let there : to.result + (from.result - to.result) ≡ a.i * frontier_length a.w =
    omega (arith, mul-le-mul_right {m = a.m} {n = a.i} (frontier_length a.w) (search rules)) in
    c.move_part_down-else-bytes-eq2.ensures
    ∙ moved_to_lem a.window.now to.result (from.result - to.result) 56 a.m a.i (frontier_length a.w)
    to.ensures.0 there (fifty_six a.w (omega arith))
