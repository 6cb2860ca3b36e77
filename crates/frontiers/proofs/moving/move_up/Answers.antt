-- What is copied is stored over what stood there: the law `pasted`.
use Rattle.std.proofs.Common.{◌≡◌, ◌+◌, ◌-◌, ◌∙◌, arith, drop, length-drop}
use Rattle.frontiers.specs.StoreLaws.{pasted}
use Rattle.frontiers.proofs.moving.move_up.Goals as goal

pub returns : goal.returns
returns c =
    let a = c.args in
    let n : a.from + a.n - a.from ≡ a.n = omega arith in
    c.copy_within.ensures.after
    ∙ rw n (pasted a.s.now (a.from + a.by) a.n (drop a.from a.s.now) (simp length-drop (omega arith)) (omega arith))
