-- The copied part stands in the place of as many bytes: the law `sets_part`.
use Rattle.std.proofs.Common.{◌≡◌, ◌+◌, ◌-◌, arith, take, length-take-le}
use Rattle.codec.specs.SetsLaws.{sets_part}
use Rattle.frontiers.proofs.moving.copy_in.Goals as goal

pub returns : goal.returns
returns c =
    let a = c.args in
    let n : a.place + a.n - a.place ≡ a.n = omega arith in
    rw (n, c.copy_from_slice.ensures.after)
    (sets_part a.s.now a.place a.n (take a.n a.from.now) (length-take-le a.n a.from.now c.requires.n_in_bounds_2) c.requires.n_in_bounds)
