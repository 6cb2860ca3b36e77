-- Turned back, or taken within what is allowed and the pool brought up to date: the laws `take-turned`, `take_passed`
-- and `take_settled`.
use Prim.Native.Nat.{ℕ, min, ◌≤◌}
use native.Mathlib.Omega.{arith}
use mathlib.Core.Path.{◌≡◌, sym, ap, ◌∙◌}
use lib.ListN.{length}
use Rattle.refusals.specs.Refusals.{room_of}
use Rattle.answers.specs.Answer.{reply_word}
use Rattle.pool.specs.Pool.{allowance}
use Rattle.call_take.specs.Take.{Taken, take_within, take_capped}
use Rattle.numbers.specs.RefusalNumber.{number_of}
use Rattle.numbers.specs.RefusalLaws.{some_number}
use Rattle.call_shared.specs.SettledLaws.{Made, made_pool, made_few, take_settled}
use Rattle.call_shared.proofs.CallSteps.{TakePassed, allowed_room, take-turned, take_passed}
use Rattle.std.proofs.Common.{rules}
use Rattle.call_shared.proofs.taking.take.Goals as goal
use Rattle.call_shared.proofs.taking.take.Goals.{After-unwrap-pool, After-min-allowed, After-take_within-reply, In_default}

-- ---- What is known there

known : (c : In_default) → let a = c.args in
    TakePassed a.w a.«record».now a.window.now a.scratch.now a.pool.now a.number
known c =
    let a = c.args in
    take_passed a.w a.«record».now a.window.now a.scratch.now a.pool.now a.number
    (sym (rw (← (rw c.of-width.ensures at c.take_fault-plain.ensures)) c.in_default.ensures))

-- The pool is the same as an array.
same_pool : (c : After-unwrap-pool) → c.unwrap-pool.result.now ≡ c.args.pool.now
same_pool c = (rw c.unwrap-pool.ensures at c.as_mut_array.ensures.cases).same

-- The smaller one of the pool's number and the window's.
allowed_is : (c : After-min-allowed) → let a = c.args in
    c.min-allowed.result ≡ min (allowance a.pool.now a.number) (room_of a.w (length a.window.now))
allowed_is c =
    let a = c.args in
    let most : c.allowance.result ≡ allowance a.pool.now a.number =
    rw (same_pool (goal.at.After-min-allowed c).After-unwrap-pool) at c.allowance.ensures.0 in
    rw (← most, ← (rw c.of-width.ensures at c.room_of.ensures)) c.min-allowed.ensures

-- What is taken is what the definition takes.
abbrev plain : After-min-allowed → Taken
plain c =
    let a = c.args in
    take_capped a.w (allowance a.pool.now a.number) a.«record».now a.window.now a.scratch.now

same-take : (c : After-min-allowed) → let a = c.args in
    take_within a.w c.min-allowed.result a.«record».now a.window.now ≡ plain c
same-take c =
    let a = c.args in
    ap (λ (n : ℕ). take_within a.w n a.«record».now a.window.now) (allowed_is c)
    ∙ sym (known (goal.at.After-min-allowed c).In_default).goes

plain-take : (c : After-take_within-reply) → let t = plain (goal.at.After-take_within-reply c).After-min-allowed in
    (c.take_within-reply.result ≡ reply_word t.answer) × (c.take_within-reply.new.«record» ≡ t.bytes)
    × (c.take_within-reply.new.window ≡ t.window) × (c.take_within-reply.new.scratch ≡ t.scratch)
plain-take c =
    let e = c.take_within-reply.ensures in
    let same = same-take (goal.at.After-take_within-reply c).After-min-allowed in (
      e.reply ∙ ap (λ (t : Taken). reply_word t.answer) same,
      e.bytes ∙ ap (λ (t : Taken). t.bytes) same,
      e.window ∙ ap (λ (t : Taken). t.window) same,
      e.scratch ∙ ap (λ (t : Taken). t.scratch) same,
    )

made : (c : After-take_within-reply) → let t = plain (goal.at.After-take_within-reply c).After-min-allowed in
    Made t.answer t.bytes c.take_within-reply.result c.take_within-reply.new.«record»
made c =
    let a = c.args in
    let most = allowance a.pool.now a.number in
    let good = (known (goal.at.After-take_within-reply c).In_default).good in
    record {
      settled = take_settled a.w most a.«record».now a.window.now a.scratch.now good;
      told = (plain-take c).0;
      left = (plain-take c).1;
    }

record_stays : (c : After-take_within-reply)
    → length c.take_within-reply.new.«record» ≡ length c.args.«record».now
record_stays c = search rules

-- ---- The goals

pub returns-in-Err : goal.returns-in-Err
unfolding reply_word
returns-in-Err c =
    let a = c.args in
    let refusal = c.in-Err.refusal in
    let whole =
    take-turned a.w a.«record».now a.window.now a.scratch.now a.pool.now a.number (number_of refusal)
    (rw (← (rw c.of-width.ensures at c.take_fault-plain.ensures)) c.in-Err.ensures) (some_number refusal) in
    record {
      reply = rw whole (omega (arith, c.into.ensures));
      bytes = rw whole;
      window = rw whole;
      scratch = rw whole;
      pool = rw whole;
    }

-- The pool is of the right length.
pub unwrap-pool-requires : goal.unwrap-pool-requires
unwrap-pool-requires c =
    let k = known (goal.at.unwrap-pool-requires c).In_default in
    c.as_mut_array.ensures.variant.1 k.pool_long

pub allowance-requires : goal.allowance-requires
allowance-requires c =
    let k = known (goal.at.allowance-requires c).In_default in
    omega (arith, k.member)

pub take_within-reply-requires-clause-record_len : goal.take_within-reply-requires-clause-record_len
take_within-reply-requires-clause-record_len c =
    let k = known (goal.at.take_within-reply-requires-clause-record_len c).In_default in
    let g = k.good in
    g.record_long

pub take_within-reply-requires-clause-record_bound : goal.take_within-reply-requires-clause-record_bound
take_within-reply-requires-clause-record_bound c =
    let k = known (goal.at.take_within-reply-requires-clause-record_bound c).In_default in
    let g = k.good in
    (g.processes, g.some_line, g.lines)

pub take_within-reply-requires-clause-record_bound_2 : goal.take_within-reply-requires-clause-record_bound_2
take_within-reply-requires-clause-record_bound_2 c =
    let k = known (goal.at.take_within-reply-requires-clause-record_bound_2 c).In_default in
    let g = k.good in
    g.pending

pub take_within-reply-requires-clause-room_for : goal.take_within-reply-requires-clause-room_for
take_within-reply-requires-clause-room_for c =
    let k = known (goal.at.take_within-reply-requires-clause-room_for c).In_default in
    let g = k.good in
    (g.kept, g.kept_within)

pub take_within-reply-requires-clause-room_for_2 : goal.take_within-reply-requires-clause-room_for_2
take_within-reply-requires-clause-room_for_2 c =
    let a = c.args in
    let k = known (goal.at.take_within-reply-requires-clause-room_for_2 c).In_default in
    let most = allowance a.pool.now a.number in
    let room = allowed_room a.w most (length a.window.now) c.min-allowed.result (allowed_is (goal.at.take_within-reply-requires-clause-room_for_2 c).After-min-allowed) k.few_room in
    room

pub take_within-reply-requires-clause-scratch_len : goal.take_within-reply-requires-clause-scratch_len
take_within-reply-requires-clause-scratch_len c =
    let k = known (goal.at.take_within-reply-requires-clause-scratch_len c).In_default in
    k.same

pub settle_pool-requires-clause-i_lt_most_members : goal.settle_pool-requires-clause-i_lt_most_members
settle_pool-requires-clause-i_lt_most_members c =
    let k = known (goal.at.settle_pool-requires-clause-i_lt_most_members c).In_default in
    omega (arith, k.member)

pub settle_pool-requires-clause-in_bounds : goal.settle_pool-requires-clause-in_bounds
settle_pool-requires-clause-in_bounds c =
    let k = known (goal.at.settle_pool-requires-clause-in_bounds c).In_default in
    let long : 8 ≤ length c.take_within-reply.new.«record» = omega (arith, record_stays (goal.at.settle_pool-requires-clause-in_bounds c).After-take_within-reply, k.good.record_long) in
    long

pub settle_pool-requires-clause-record_bound : goal.settle_pool-requires-clause-record_bound
settle_pool-requires-clause-record_bound c = made_few _ _ _ _ (made (goal.at.settle_pool-requires-clause-record_bound c).After-take_within-reply)

pub returns : goal.returns
returns c =
    let a = c.args in
    let whole = (known (goal.at.returns c).In_default).whole in
    let e = plain-take (goal.at.returns c).After-take_within-reply in
    let pool = made_pool _ _ _ _ (made (goal.at.returns c).After-take_within-reply) a.pool.now a.number in
    record {
      reply = rw whole e.0;
      bytes = rw whole e.1;
      window = rw whole e.2;
      scratch = rw whole e.3;
      pool = rw whole ((rw (same_pool (goal.at.returns c).After-unwrap-pool) at c.settle_pool.ensures) ∙ pool);
    }
