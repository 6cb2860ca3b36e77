-- The library stores the definition's bytes: the law `put-stored`.
use Rattle.std.proofs.Common.{◌≡◌, ◌+◌, ◌-◌, arith}
use Rattle.codec.specs.LibraryLaws.{put-stored}
use Rattle.codec.proofs.write_u16.Goals as goal

pub returns : goal.returns
returns c =
    let a = c.args in
    let n : a.at + 2 - a.at ≡ 2 = omega arith in
    rw (n, c.copy_from_slice.ensures.after, c.to_le_bytes.ensures) (put-stored a.s.now a.at 2 a.v c.requires)
