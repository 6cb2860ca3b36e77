-- Each return is a refusal's turn.
use mathlib.Core.Path.{◌≡◌, sym}
use mathlib.Core.Bool.{false}
use lib.Dec.{eqb}
use lib.ListN.{length}
use borrow.Author.Tests.{tests, ne_eqb}
use Rattle.std.proofs.Common.{rules, Err, true≢false}
use Rattle.numbers.specs.RefusalNumber.{refused}
use Rattle.numbers.specs.declared.refusal.Refusal.TheVariants.{Length}
use Rattle.pool.specs.Pool.{bad_pool_length}
use Rattle.pool.specs.PoolLaws.{right_length, wrong_length}
use Rattle.call_shared.specs.SharedCode.{shared_fault}
use Rattle.call_shared.proofs.FaultSteps.{only_length}
use Rattle.call_shared.proofs.lent.shared_refusal.Goals as goal
use Rattle.call_shared.proofs.lent.shared_refusal.Goals.{Else-eq, In-Some}

-- The plain refusal is not 6.
other : (c : Else-eq) → eqb (refused c.args.plain) 6 ≡ false
other c =
    ne_eqb _ _ (λ six.
    let plain = only_length c.args.plain six in
    true≢false (sym (rw plain at c.if-eq.ensures)))

pub returns-then-eq : goal.returns-then-eq
unfolding shared_fault
returns-then-eq c = let plain : c.args.plain ≡ Err Length = search (rules, tests) in rw plain

-- The rest is left to the search, so that another result than the one wanted is refused for what it is.
pub returns-in_default : goal.returns-in_default
unfolding shared_fault
returns-in_default c =
    rw (other (goal.at.returns-in_default c).Else-eq, wrong_length _ c.in_default.ensures.cases) (search rules)

-- The pool has its length.
long : (c : In-Some) → bad_pool_length (length c.args.pool.now) ≡ false
long c = right_length _ c.in-Some.ensures.cases.long

pub returns-then-no_share : goal.returns-then-no_share
unfolding shared_fault
returns-then-no_share c =
    rw (other (goal.at.returns-then-no_share c).Else-eq, long (goal.at.returns-then-no_share c).In-Some, ← c.in-Some.ensures.cases.same, sym c.if-no_share.ensures)
    (search rules)

pub returns : goal.returns
unfolding shared_fault
returns c = rw (other (goal.at.returns c).Else-eq, long (goal.at.returns c).In-Some, ← c.in-Some.ensures.cases.same, sym c.if-no_share.ensures)
