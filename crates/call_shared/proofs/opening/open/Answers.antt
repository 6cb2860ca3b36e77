-- Turned back, or opened and the pool brought up to date: the laws `open_turned`, `open_passed` and `open_settled`.
use Prim.Native.Nat.{◌≤◌}
use native.Mathlib.Omega.{arith}
use mathlib.Core.Path.{◌≡◌, sym, ◌∙◌}
use lib.ListN.{length}
use Rattle.answers.specs.Answer.{reply_word}
use Rattle.call_open.specs.Open.{open_call}
use Rattle.numbers.specs.RefusalNumber.{number_of}
use Rattle.numbers.specs.RefusalLaws.{some_number}
use Rattle.call_shared.specs.SettledLaws.{Made, made_pool, made_few, open_settled}
use Rattle.call_shared.proofs.CallSteps.{OpenPassed, open_turned, open_passed}
use Rattle.std.proofs.Common.{rules}
use Rattle.call_shared.proofs.opening.open.Goals as goal
use Rattle.call_shared.proofs.opening.open.Goals.{After-unwrap-pool, After-open-reply, In_default}

-- ---- What is known there

known : (c : In_default) → let a = c.args in
    OpenPassed a.w a.rule.now a.k a.labels a.«record».now a.window.now a.pool.now a.number
known c =
    let a = c.args in
    open_passed a.w a.rule.now a.k a.labels a.«record».now a.window.now a.pool.now a.number
    (sym (rw (← (rw c.of.ensures at c.open_fault-plain.ensures)) c.in_default.ensures))

-- The pool is the same as an array.
same_pool : (c : After-unwrap-pool) → c.unwrap-pool.result.now ≡ c.args.pool.now
same_pool c = (rw c.unwrap-pool.ensures at c.as_mut_array.ensures.cases).same

made : (c : After-open-reply) → let a = c.args in
    let call = open_call a.w a.rule.now a.k a.labels a.«record».now a.window.now in
    Made call.answer call.bytes c.open-reply.result c.open-reply.new.«record»
made c =
    let a = c.args in
    record {
      settled =
          open_settled a.w a.rule.now a.k a.labels a.«record».now a.window.now;
      told = c.open-reply.ensures.reply;
      left = c.open-reply.ensures.bytes;
    }

record_stays : (c : After-open-reply)
    → length c.open-reply.new.«record» ≡ length c.args.«record».now
record_stays c = search rules

-- ---- The goals

pub returns-in-Err : goal.returns-in-Err
unfolding reply_word
returns-in-Err c =
    let a = c.args in
    let refusal = c.in-Err.refusal in
    let whole =
    open_turned a.w a.rule.now a.k a.labels a.«record».now a.window.now a.pool.now a.number (number_of refusal)
    (rw (← (rw c.of.ensures at c.open_fault-plain.ensures)) c.in-Err.ensures) (some_number refusal) in
    record { reply = rw whole (omega (arith, c.into.ensures)); bytes = rw whole; window = rw whole; pool = rw whole }

-- The pool is of the right length.
pub unwrap-pool-requires : goal.unwrap-pool-requires
unwrap-pool-requires c =
    let k = known (goal.at.unwrap-pool-requires c).In_default in
    c.as_mut_array.ensures.variant.1 k.pool_long

pub settle_pool-requires-clause-i_lt_most_members : goal.settle_pool-requires-clause-i_lt_most_members
settle_pool-requires-clause-i_lt_most_members c =
    let k = known (goal.at.settle_pool-requires-clause-i_lt_most_members c).In_default in
    omega (arith, k.member)

pub settle_pool-requires-clause-in_bounds : goal.settle_pool-requires-clause-in_bounds
settle_pool-requires-clause-in_bounds c =
    let k = known (goal.at.settle_pool-requires-clause-in_bounds c).In_default in
    let long : 8 ≤ length c.open-reply.new.«record» = omega (arith, record_stays (goal.at.settle_pool-requires-clause-in_bounds c).After-open-reply, k.long) in
    long

pub settle_pool-requires-clause-record_bound : goal.settle_pool-requires-clause-record_bound
settle_pool-requires-clause-record_bound c = made_few _ _ _ _ (made (goal.at.settle_pool-requires-clause-record_bound c).After-open-reply)

pub returns : goal.returns
returns c =
    let a = c.args in
    let whole = (known (goal.at.returns c).In_default).whole in
    let e = c.open-reply.ensures in
    let pool = made_pool _ _ _ _ (made (goal.at.returns c).After-open-reply) a.pool.now a.number in
    record {
      reply = rw whole e.reply;
      bytes = rw whole e.bytes;
      window = rw whole e.window;
      pool = rw whole ((rw (same_pool (goal.at.returns c).After-unwrap-pool) at c.settle_pool.ensures) ∙ pool);
    }
