-- So many bytes stand in the place of as many: the law `sets_part`.
use Rattle.std.proofs.Common.{◌≡◌, ◌+◌, ◌-◌, arith, rules, replicate}
use Rattle.std.proofs.lemmas.List.{length-replicate}
use Rattle.codec.specs.SetsLaws.{sets_part}
use Rattle.frontiers.proofs.moving.fill.Goals as goal

pub returns : goal.returns
returns c =
    let a = c.args in
    let n : a.from + a.n - a.from ≡ a.n = omega arith in
    let filled : c.fill.new.self ≡ replicate a.n a.byte = search rules in
    rw (n, filled) (sets_part a.s.now a.from a.n (replicate a.n a.byte) (length-replicate a.n a.byte) c.requires)
