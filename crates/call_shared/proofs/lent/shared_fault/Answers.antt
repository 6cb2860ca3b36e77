-- What the pool refuses is told before every plain number but 6.
use native.Mathlib.Omega.{arith}
use Prim.Native.Nat.{ℕ, ◌<◌}
use mathlib.Core.Path.{◌≡◌, refl, sym, ◌∙◌}
use mathlib.Core.Bool.{Bool, true, false, cond}
use lib.Dec.{eqb}
use lib.ListN.{length}
use borrow.Author.Tests.{eq-eqb, ne_eqb}
use Rattle.numbers.specs.RefusalLaws.{some_number}
use Rattle.pool.specs.Pool.{bad_pool_length, no_share}
use Rattle.call_shared.specs.SharedCode.{shared_fault}
use Rattle.call_shared.proofs.lent.shared_fault.Goals as goal
use Rattle.call_shared.proofs.lent.shared_fault.Goals.{Else-plain-from}

pub returns-then-plain-from : goal.returns-then-plain-from
unfolding shared_fault
returns-then-plain-from c =
    let six : c.args.plain ≡ 6 = c.if-plain-from.true ∙ c.from.ensures in rw (eq-eqb _ _ six) six

-- The plain number is not 6.
other : (c : Else-plain-from) → eqb c.args.plain 6 ≡ false
other c = ne_eqb _ _ (λ six. c.if-plain-from.false (six ∙ sym c.from.ensures))

-- The pool refuses nothing, or something.
passed : (wrong idle : Bool) (plain n : ℕ) → n ≡ cond wrong 6 (cond idle 34 0) → n ≡ 0 → plain ≡ cond wrong 6 (cond idle 34 plain)
passed true idle plain n e none = absurd (omega arith)
passed false true plain n e none = absurd (omega arith)
passed false false plain n e none = refl

turned : (wrong idle : Bool) (plain n : ℕ) → n ≡ cond wrong 6 (cond idle 34 0) → 0 < n → n ≡ cond wrong 6 (cond idle 34 plain)
turned true idle plain n e some = e
turned false true plain n e some = e
turned false false plain n e some = absurd (omega arith)

pub returns-in-Ok : goal.returns-in-Ok
unfolding shared_fault
returns-in-Ok c =
    let a = c.args in
    rw (other (goal.at.returns-in-Ok c).Else-plain-from)
    (passed (bad_pool_length (length a.pool.now)) (no_share a.pool.now a.number) a.plain 0 c.in-Ok.ensures refl)

pub returns-in-Err : goal.returns-in-Err
unfolding shared_fault
returns-in-Err c =
    let a = c.args in
    rw (other (goal.at.returns-in-Err c).Else-plain-from)
    (c.into.ensures ∙ turned (bad_pool_length (length a.pool.now)) (no_share a.pool.now a.number) a.plain _ c.in-Err.ensures (some_number c.in-Err.refusal))
