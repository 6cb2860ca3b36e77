-- What is copied is stored over what stood there: the law `pasted`.
use Rattle.std.proofs.Common.{◌≡◌, ◌+◌, ◌-◌, ◌∙◌, arith, drop, length-drop}
use Rattle.frontiers.specs.StoreLaws.{pasted}
use Rattle.frontiers.proofs.moving.move_down.Goals as goal

pub returns : goal.returns
returns c =
    let a = c.args in
    let n : a.to + a.by + a.n - (a.to + a.by) ≡ a.n = omega arith in
    c.copy_within.ensures.after
    ∙ rw n (pasted a.s.now a.to a.n (drop (a.to + a.by) a.s.now) (simp length-drop (omega arith)) (omega arith))
