-- The number of `Over`, and each after it, is not below that of `Over`; the other ways are found.
use Rattle.std.proofs.Common.{refl, sym, ◌+◌, arith, le-ltb}
use Rattle.replies.specs.Following.{over_stage}
use Rattle.program.proofs.Session.goes_on.Goals as goal

pub returns-in-Over : goal.returns-in-Over
returns-in-Over c = rw c.in-Over.is refl

pub returns-in-Past : goal.returns-in-Past
returns-in-Past c =
    sym (rw c.in-Past.is (le-ltb (over_stage + 1 + c.in-Past.field-0) over_stage (omega arith)))
