-- The bytes stand in the place of eight: the law `sets_part`.
use Rattle.std.proofs.Common.{◌≡◌, ◌+◌, ◌-◌, arith, rules}
use Rattle.codec.specs.SetsLaws.{sets_part}
use Rattle.frontiers.proofs.stored.write_eight.Goals as goal

pub returns : goal.returns
returns c =
    let a = c.args in
    let n : a.place + 8 - a.place ≡ 8 = omega arith in
    rw (n, c.copy_from_slice.ensures.after) (sets_part a.s.now a.place 8 a.bytes (search rules) c.requires)
