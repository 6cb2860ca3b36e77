-- The two stores that the definition has.
use native.Mathlib.Omega.{arith}
use lib.ListN.{length-set}
use Rattle.records.specs.Record.{closed_set}
use Rattle.call_close.proofs.set_closed.Goals as goal

pub shape_of-record : goal.shape_of-record
shape_of-record c =
    let a = c.args in
    omega (arith, length-set a.«record».now 3 a.closed)

pub returns : goal.returns
unfolding closed_set
returns c = cc
