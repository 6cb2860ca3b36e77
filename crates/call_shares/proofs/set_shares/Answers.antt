-- Each way out is an equation of the call with what it comes to there: the laws of SharesCases.
use mathlib.Core.Path.{◌≡◌, refl, sym, ◌∙◌}
use mathlib.Core.Bool.{false}
use lib.ListN.{length}
use Rattle.answers.specs.Result.{result_word}
use Rattle.pool.specs.Pool.{bad_pool_length}
use Rattle.pool.specs.PoolLaws.{right_length, wrong_length}
use Rattle.call_shares.specs.Shares.{bad_shares}
use Rattle.call_shares.specs.SharesCases.{length-turned, shares-turned, shares-set, shares_good}
use Rattle.std.proofs.Common.{rules}
use Rattle.call_shares.proofs.set_shares.Goals as goal
use Rattle.call_shares.proofs.set_shares.Goals.{In-Some, Else-bad_shares}

-- ---- How the tests went

long : (c : In-Some) → bad_pool_length (length c.args.pool.now) ≡ false
long c = right_length (length c.args.pool.now) c.in-Some.ensures.cases.long

good_shares : (c : Else-bad_shares) → bad_shares c.args.shares.now ≡ false
good_shares c = sym c.bad_shares.ensures ∙ c.if-bad_shares.false

-- ---- The goals

pub returns-in_default : goal.returns-in_default
unfolding result_word
returns-in_default c =
    let a = c.args in
    rw (length-turned a.shares.now a.pool.now (wrong_length (length a.pool.now) c.in_default.ensures.cases)) (record { reply = search rules; pool = refl })

pub returns-then-bad_shares : goal.returns-then-bad_shares
unfolding result_word
returns-then-bad_shares c =
    let a = c.args in
    let bad = sym c.bad_shares.ensures ∙ c.if-bad_shares.true in
    rw (shares-turned a.shares.now a.pool.now (long (goal.at.returns-then-bad_shares c).In-Some) bad)
    (record { reply = search rules; pool = c.in-Some.ensures.cases.same })

pub put_shares-requires : goal.put_shares-requires
put_shares-requires c = (shares_good c.args.shares.now (good_shares (goal.at.put_shares-requires c).Else-bad_shares)).few

pub returns : goal.returns
unfolding result_word
returns c =
    let a = c.args in
    let at = goal.at.returns c in
    rw (shares-set a.shares.now a.pool.now (long at.In-Some) (good_shares at.Else-bad_shares))
    (record { reply = refl; pool = c.put_shares.ensures })
