use Rattle.std.proofs.Common.{◌≡◌, true, false}
use Rattle.codec.specs.Bit.{bit}
use Rattle.updates.proofs.UpdateSteps.{clocks_none, clocks_next, clocks_skip}
use Rattle.updates.proofs.set_clocks.Goals as goal
use Rattle.updates.proofs.set_clocks.Goals.{then-has_bit, else-has_bit}

pub loop-p-init : goal.loop-p-init
loop-p-init c = let a = c.args in clocks_none a.w a.«record».now a.e

pub loop-p-preserved : goal.loop-p-preserved
loop-p-preserved c =
    let a = c.args in
    let p = c.loop-p.p in
    elim c.if-has_bit.branch [
      | then-has_bit v ↦ let set : bit a.e.mask p ≡ true = cc in cc (clocks_next a.w p a.«record».now a.e set)
      | else-has_bit v ↦ let unset : bit a.e.mask p ≡ false = cc in cc (clocks_skip a.w p a.«record».now a.e unset)
    ]
