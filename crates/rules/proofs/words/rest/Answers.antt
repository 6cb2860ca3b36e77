use Prim.Native.Nat.{◌+◌}
use native.Mathlib.Omega.{arith}
use mathlib.Core.Bool.{true, false}
use mathlib.Core.Path.{◌≡◌, sym, ◌∙◌}
use lib.Dec.{eqb}
use lib.ListN.{get_or}
use Rattle.rules.specs.Text.{byte_at}
use Rattle.rules.proofs.words.WordSteps.{rest_at_next, rest_at-end, byte_other, byte_met}
use Rattle.rules.proofs.words.rest.Goals as goal

pub returns-then-ne : goal.returns-then-ne
returns-then-ne c =
    let a = c.args in
    let l = c.loop-j in
    let g : eqb (byte_at a.text.now (a.i + l.j)) (get_or a.letters.now l.j 0) ≡ false =
    byte_other _ _ _ c.byte_at.ensures (omega (arith, c.type_inv.letters l.j)) c.if-ne.ensures
    in
    sym (l.invariant ∙ rest_at_next a.text.now a.i l.j a.letters.now _ c.loop-j-test.true ∙ rw g)

pub loop-j-preserved : goal.loop-j-preserved
loop-j-preserved c =
    let a = c.args in
    let l = c.loop-j in
    let g : eqb (byte_at a.text.now (a.i + l.j)) (get_or a.letters.now l.j 0) ≡ true =
    byte_met _ _ _ c.byte_at.ensures c.if-ne.ensures
    in
    l.invariant ∙ rest_at_next a.text.now a.i l.j a.letters.now _ c.loop-j-test.true ∙ rw g

pub returns : goal.returns
returns c =
    let a = c.args in
    let l = c.loop-j in
    sym (l.invariant ∙ rest_at-end a.text.now a.i l.j a.letters.now _ c.loop-j-test.false)
