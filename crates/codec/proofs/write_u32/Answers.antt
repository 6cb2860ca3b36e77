-- The library stores the definition's bytes: the law `put-stored`.
use Rattle.std.proofs.Common.{◌≡◌, ◌+◌, ◌-◌, arith}
use Rattle.codec.specs.LibraryLaws.{put-stored}
use Rattle.codec.proofs.write_u32.Goals as goal

pub returns : goal.returns
returns c =
    let a = c.args in
    let n : a.at + 4 - a.at ≡ 4 = omega arith in
    rw (n, c.copy_from_slice.ensures.after, c.to_le_bytes.ensures) (put-stored a.s.now a.at 4 a.v c.requires)
