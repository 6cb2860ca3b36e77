-- The tests, one after the other.
use Prim.Native.Nat.{ℕ, ◌<◌}
use native.Mathlib.Omega.{arith}
use mathlib.Core.Path.{◌≡◌, sym, ap, ◌∙◌}
use mathlib.Core.Bool.{false, cond}
use Rattle.std.proofs.Common.{rules}
use Rattle.numbers.specs.RefusalNumber.{number_of, refused}
use Rattle.numbers.specs.RefusalLaws.{some_number}
use Rattle.records.specs.Record.{process_count, closed_mask, pending_events}
use Rattle.refusals.specs.Refusals.{not_open, named_by}
use Rattle.refusals.specs.RefusalCode.{watch_fault}
use Rattle.refusals.specs.FaultLaws.{Good, good_watch, fault_first, fault_passed}
use Rattle.call_close.specs.CloseCode.{close_fault}
use Rattle.call_close.proofs.CloseSteps.{open_below}
use Rattle.call_close.proofs.refused.close_fault.Goals as goal
use Rattle.call_close.proofs.refused.close_fault.Goals.{After-not_open, In_ok-watch_fault, Else-not_open}

-- ---- The tests that let it pass

none : (c : In_ok-watch_fault) → let a = c.args in watch_fault a.w a.«record».now a.n ≡ 0
none c = sym c.in_ok-watch_fault.ensures

good : (c : In_ok-watch_fault) → let a = c.args in Good a.w a.«record».now a.n
good c = let a = c.args in good_watch a.w a.«record».now a.n (none c)

open_read : (c : After-not_open) → let a = c.args in
    not_open (process_count a.«record».now) (closed_mask a.«record».now) a.process ≡ c.not_open.result
open_read c =
    let a = c.args in
    let s = a.«record».now in
    let k = c.process_count in
    let closed = c.closed_mask in
    sym (c.not_open.ensures
    ∙ ap (λ (n : ℕ). not_open n closed.result a.process) k.ensures.0
    ∙ ap (λ (m : ℕ). not_open (process_count s) m a.process) closed.ensures.0)

open_passed : (c : Else-not_open) → let a = c.args in
    not_open (process_count a.«record».now) (closed_mask a.«record».now) a.process ≡ false
open_passed c = open_read (goal.at.Else-not_open c).After-not_open ∙ c.if-not_open.false

one_of_eight : (c : Else-not_open) → c.args.process < 8
one_of_eight c =
    let a = c.args in
    let s = a.«record».now in
    let below = open_below (process_count s) (closed_mask s) a.process (open_passed c) in
    omega (arith, below, (good (goal.at.Else-not_open c).In_ok-watch_fault).processes)

-- What is asked for behind 6 and 34.
behind : (c : In_ok-watch_fault) → let a = c.args in
    close_fault a.w a.process a.«record».now a.n
    ≡ cond (not_open (process_count a.«record».now) (closed_mask a.«record».now) a.process) 41
    (cond (named_by a.process (pending_events a.w a.«record».now)) 42 0)
unfolding close_fault
behind c = let a = c.args in fault_passed a.w a.«record».now a.n _ (none c)

-- ---- The goals

pub returns-in_err-watch_fault : goal.returns-in_err-watch_fault
unfolding close_fault
returns-in_err-watch_fault c =
    let a = c.args in
    let known = c.in_err-watch_fault in
    let refusal = known.field-0.0 in
    let same : refused c.from_residual.result ≡ number_of refusal = search rules in
    let some : watch_fault a.w a.«record».now a.n ≡ 0 → ⊥ = λ z. omega (arith, some_number refusal, known.ensures, z) in
    same ∙ known.ensures ∙ fault_first a.w a.«record».now a.n _ some

pub process_count-requires : goal.process_count-requires
process_count-requires c = omega (arith, (good (goal.at.process_count-requires c).In_ok-watch_fault).record_long)

pub closed_mask-requires : goal.closed_mask-requires
closed_mask-requires c = omega (arith, (good (goal.at.closed_mask-requires c).In_ok-watch_fault).record_long)

pub not_open-requires : goal.not_open-requires
not_open-requires c = omega (arith, (good (goal.at.not_open-requires c).In_ok-watch_fault).processes)

pub returns-then-not_open : goal.returns-then-not_open
returns-then-not_open c =
    sym (behind (goal.at.returns-then-not_open c).In_ok-watch_fault ∙ rw (open_read (goal.at.returns-then-not_open c).After-not_open ∙ c.if-not_open.true))

pub overflow_cast-process : goal.overflow_cast-process
overflow_cast-process c =
    record { fits = omega (arith, one_of_eight (goal.at.overflow_cast-process c).Else-not_open) }

pub named_by-requires-clause-record_len : goal.named_by-requires-clause-record_len
named_by-requires-clause-record_len c =
    let fine = good (goal.at.named_by-requires-clause-record_len c).In_ok-watch_fault in
    rw c.of.ensures fine.record_long

pub named_by-requires-clause-record_bound : goal.named_by-requires-clause-record_bound
named_by-requires-clause-record_bound c =
    let fine = good (goal.at.named_by-requires-clause-record_bound c).In_ok-watch_fault in
    fine.pending

pub named_by-requires-clause-p_bound : goal.named_by-requires-clause-p_bound
named_by-requires-clause-p_bound c = one_of_eight (goal.at.named_by-requires-clause-p_bound c).Else-not_open

pub returns-then-named_by : goal.returns-then-named_by
returns-then-named_by c =
    sym (behind (goal.at.returns-then-named_by c).In_ok-watch_fault ∙ rw (open_passed (goal.at.returns-then-named_by c).Else-not_open, sym (rw c.of.ensures at c.named_by.ensures) ∙ c.if-named_by.true))

pub returns : goal.returns
returns c =
    sym (behind (goal.at.returns c).In_ok-watch_fault ∙ rw (open_passed (goal.at.returns c).Else-not_open, sym (rw c.of.ensures at c.named_by.ensures) ∙ c.if-named_by.false))
