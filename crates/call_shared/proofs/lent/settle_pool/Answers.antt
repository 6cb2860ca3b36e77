-- The word's number decides; the number kept fits two bytes where it is 0.
use Prim.Native.Nat.{◌%◌}
use native.Mathlib.Omega.{arith}
use mathlib.Core.Path.{◌≡◌}
use borrow.Author.Tests.{eq-eqb, ne_eqb}
use Rattle.call_shared.specs.SharedCode.{pool_by}
use Rattle.call_shared.proofs.lent.settle_pool.Goals as goal

pub returns-then-reply-ne0 : goal.returns-then-reply-ne0
unfolding pool_by
returns-then-reply-ne0 c =
    let refused : c.args.reply % 256 ≡ 0 → ⊥ = λ z. omega (arith, c.if-reply-ne0.true, z) in
    rw (ne_eqb _ _ refused)

pub overflow_cast-kept_count : goal.overflow_cast-kept_count
overflow_cast-kept_count c =
    let number : c.args.reply % 256 ≡ 0 = omega (arith, c.if-reply-ne0.false) in
    record { fits = omega (arith, c.kept_count.ensures, c.requires.record_bound number) }

pub returns : goal.returns
unfolding pool_by
returns c =
    let number : c.args.reply % 256 ≡ 0 =
    omega (arith, c.if-reply-ne0.false) in
    rw (eq-eqb _ _ number, ← c.kept_count.ensures) c.bring_up.ensures
