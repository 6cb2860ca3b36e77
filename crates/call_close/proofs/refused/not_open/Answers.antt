-- The process is not one of k, or its bit decides.
use native.Mathlib.Omega.{arith}
use mathlib.Core.Path.{ap, ◌∙◌}
use Prim.Native.Nat.{ℕ}
use borrow.Author.Tests.{le-leb, lt-leb}
use Rattle.codec.specs.Bit.{bit}
use Rattle.refusals.specs.Refusals.{not_open}
use Rattle.call_close.proofs.refused.not_open.Goals as goal

pub returns-then-from-process : goal.returns-then-from-process
unfolding not_open
returns-then-from-process c = let a = c.args in rw (c.from.ensures, le-leb a.k a.process (omega arith))

pub returns-else-from-process : goal.returns-else-from-process
unfolding not_open
returns-else-from-process c =
    let a = c.args in
    rw (lt-leb a.k a.process (omega arith))
    (c.has_bit.ensures ∙ ap (λ (m : ℕ). bit m a.process) c.from-else-from-process.ensures)
