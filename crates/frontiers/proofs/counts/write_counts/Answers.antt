use Prim.Native.Nat.{◌<◌}
use native.Mathlib.Omega.{arith}
use mathlib.Core.Path.{◌≡◌}
use lib.Seq.{take_all}
use lib.ListN.{length, take}
use Rattle.frontiers.specs.BytesLaws.{count-within}
use Rattle.frontiers.specs.StoreLaws.{count_next, counts_more}
use Rattle.frontiers.specs.Bytes.{count_bytes}
use Rattle.std.proofs.Common.{rules}
use Rattle.frontiers.proofs.counts.write_counts.Goals as goal

pub loop-count-init : goal.loop-count-init
unfolding count_bytes
loop-count-init c = search rules

pub write_count-requires-clause-w_in_bounds : goal.write_count-requires-clause-w_in_bounds
write_count-requires-clause-w_in_bounds c =
    let a = c.args in
    let p = c.loop-count.count-index in
    omega (arith, count-within p 8 a.w (search rules))

pub write_count-requires-clause-c_bound : goal.write_count-requires-clause-c_bound
write_count-requires-clause-c_bound c =
    let p = c.loop-count.count-index in
    c.requires.by_index p

pub overflow_add-next : goal.overflow_add-next
overflow_add-next c =
    let a = c.args in
    record { fits = omega (arith, count-within c.loop-count.count-index 8 a.w (search rules)) }

pub loop-count-preserved : goal.loop-count-preserved
loop-count-preserved c =
    let a = c.args in
    let p = c.loop-count.count-index in
    let l : p < length a.counts = search rules in
    (omega (arith, count_next p a.w), cc (counts_more a.w a.s.now a.counts p l))

pub returns : goal.returns
returns c =
    let a = c.args in
    let all : c.loop-count.count-index ≡ 8 = omega arith in
    let whole : take 8 a.counts ≡ a.counts = take_all 8 a.counts (search rules) in
    cc
