-- The bytes stand in the place of others: the law `sets_part`.
use Rattle.std.proofs.Common.{◌≡◌, ◌+◌, ◌-◌, arith, rules}
use Rattle.codec.specs.SetsLaws.{sets_part}
use Rattle.frontiers.proofs.moving.move_part_down.Goals as goal

pub returns : goal.returns
returns c k =
    let a = k.args in
    let n : a.to + c.row.N - a.to ≡ c.row.N = omega arith in
    rw (n, k.copy_from_slice.ensures.after, ← k.bytes_at-part.ensures) (sets_part a.s.now a.to c.row.N k.bytes_at-part.result (search rules) (omega arith))
