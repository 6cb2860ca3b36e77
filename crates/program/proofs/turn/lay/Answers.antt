-- The text stands at the front of the part that is lent, and so after what is laid: the law `laid_after`.
use mathlib.Core.Path.{ap, ◌∙◌}
use Prim.Native.Nat.{ℕ, ◌-◌, ◌+◌}
use mathlib.Core.List.{List, ◌++◌}
use lib.ListN.{take}
use Rattle.program.proofs.TurnSteps.{laid_after}
use Rattle.std.proofs.Common.{rules}
use Rattle.program.proofs.turn.lay.Goals as goal

pub returns-clause-out_after : goal.returns-clause-out_after
returns-clause-out_after c =
    let z = c.lay_text-length in
    let a = c.args in
    let part = z.new.out in
    let length = a.at + 256 - a.at in
    λ b p e.
    laid_after a.out.now part a.at z.result length (search rules) (search rules)
    ∙ ap (λ (t : List ℕ). take a.at a.out.now ++ t) (z.ensures.text_promised b p e)
