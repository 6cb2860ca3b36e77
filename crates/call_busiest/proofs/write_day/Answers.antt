-- Each way out is an equation of the call with what it comes to there: the laws of BusiestLaws.
use Rattle.std.proofs.Common.{◌≡◌, ℕ, ◌*◌, ◌≤◌, false, length, None, Some, sym, ap, ◌∙◌, rules, arith}
use Rattle.std.proofs.lemmas.Result.{err_from_is_err_and}
use Rattle.numbers.specs.declared.refusal.Refusal.TheVariants.{Busy}
use Rattle.records.specs.Record.{event_length}
use Rattle.refusals.specs.Refusals.{bad_processes}
use Rattle.refusals.specs.RefusalLaws.{processes_within}
use Rattle.call_busiest.specs.Sharing.{shares, total, sharing_keeps}
use Rattle.call_busiest.specs.SharingLaws.{total-shares}
use Rattle.call_busiest.specs.BusiestCode.{sharing}
use Rattle.call_busiest.specs.BusiestLaws.{processes_turned, events_turned, busy_turned, length-turned, all-written}
use Rattle.call_busiest.proofs.write_day.Goals as goal
use Rattle.call_busiest.proofs.write_day.Goals.{Else-n-gt-DAY_EVENTS, After-new-shares, In_ok-kept, In_err-kept, Else-events-n, then-bad_processes-via-then-bad_processes, then-bad_processes-via-else-bad_processes+then-n-gt-DAY_EVENTS}

-- ---- How the tests went

good : (c : Else-n-gt-DAY_EVENTS) → bad_processes c.args.k ≡ false
good c = sym c.if-bad_processes.ensures

within : (c : Else-n-gt-DAY_EVENTS) → (1 ≤ c.args.k) × (c.args.k ≤ 8)
within c = processes_within c.args.k (good c)

-- What is shared.
even : (c : After-new-shares) → let r = c.new-shares.result in
    sharing r.processes r.each r.more ≡ shares c.args.k c.args.n
even c = let e = c.new-shares.ensures in rw (e.processes, e.each, e.more)

room : (c : In_ok-kept) → (c.in_ok-kept.kept ≡ sharing_keeps (shares c.args.k c.args.n)) × (c.in_ok-kept.kept ≤ 1024)
room c =
    let some : c.kept.result ≡ Some c.in_ok-kept.kept = grind arith in
    let h = rw some at c.kept.ensures in
    (h.0 ∙ ap sharing_keeps (even (goal.at.In_ok-kept c).After-new-shares), h.1)

-- The list is one of n events.
long : (c : Else-events-n) → length c.args.events.now ≡ c.args.n * event_length c.args.w
long c = c.if-events-n.false ∙ ap (λ (l : ℕ). c.args.n * l) c.event_length.ensures.0

-- ---- The goals

pub returns-then-bad_processes : goal.returns-then-bad_processes
returns-then-bad_processes c =
    let a = c.args in
    elim c.then-bad_processes.branch [
      | then-bad_processes-via-then-bad_processes w ↦
          rw (processes_turned a.w a.k a.n a.events.now (sym c.bad_processes.ensures ∙ w.if-bad_processes.true))
          (search rules)
      | then-bad_processes-via-else-bad_processes+then-n-gt-DAY_EVENTS w ↦
          rw (events_turned a.w a.k a.n a.events.now (sym c.bad_processes.ensures ∙ w.if-bad_processes.false) w.if-n-gt-DAY_EVENTS.true)
          (search rules)
    ]

pub new-shares-requires-clause-k_bound : goal.new-shares-requires-clause-k_bound
new-shares-requires-clause-k_bound c = (within c).0

pub returns-in_err-kept : goal.returns-in_err-kept
returns-in_err-kept c =
    let a = c.args in
    let h = (goal.at.returns-in_err-kept c).Else-n-gt-DAY_EVENTS in
    let none : c.kept.result ≡ None = grind arith in
    let busy : c.in_err-kept.field-0.0 ≡ Busy = grind arith in
    let p = err_from_is_err_and c.from_residual.result c.from_residual.ensures.1 in
    let full = rw none at c.kept.ensures in
    let all = ap sharing_keeps (even (goal.at.returns-in_err-kept c).After-new-shares) in
    rw (p.1, p.2, busy, busy_turned a.w a.k a.n a.events.now (good h) c.if-n-gt-DAY_EVENTS.false (omega arith)) (search rules)

pub returns-then-events-n : goal.returns-then-events-n
returns-then-events-n c =
    let a = c.args in
    let at = goal.at.returns-then-events-n c in
    let r = room at.In_ok-kept in
    let other : length a.events.now ≡ a.n * event_length a.w → ⊥ =
    λ q. c.if-events-n.true (q ∙ ap (λ (l : ℕ). a.n * l) (sym c.event_length.ensures.0)) in
    rw (length-turned a.w a.k a.n a.events.now (good at.Else-n-gt-DAY_EVENTS) c.if-n-gt-DAY_EVENTS.false (omega arith) other)
    (search rules)

pub put_day-requires-clause-processes_bound : goal.put_day-requires-clause-processes_bound
put_day-requires-clause-processes_bound c =
    let most = (within (goal.at.put_day-requires-clause-processes_bound c).Else-n-gt-DAY_EVENTS).1 in
    rw c.new-shares.ensures.processes most

-- All n events are shared.
every : (c : In_ok-kept) → let r = c.new-shares.result in total (sharing r.processes r.each r.more) ≡ c.args.n
every c =
    let at = goal.at.In_ok-kept c in
    ap total (even at.After-new-shares) ∙ total-shares c.args.k c.args.n (within at.Else-n-gt-DAY_EVENTS).0

pub put_day-requires-clause-total_bound : goal.put_day-requires-clause-total_bound
put_day-requires-clause-total_bound c =
    omega (arith, every (goal.at.put_day-requires-clause-total_bound c).In_ok-kept, c.if-n-gt-DAY_EVENTS.false)

pub put_day-requires-clause-events_len : goal.put_day-requires-clause-events_len
put_day-requires-clause-events_len c =
    let at = goal.at.put_day-requires-clause-events_len c in
    long at.Else-events-n ∙ ap (λ (m : ℕ). m * event_length c.args.w) (sym (every at.In_ok-kept))

pub returns : goal.returns
returns c =
    let a = c.args in
    let at = goal.at.returns c in
    let r = room at.In_ok-kept in
    let e = c.new-shares.ensures in
    let laid = rw (e.processes, e.each, e.more) at c.put_day.ensures in
    let done = all-written a.w a.k a.n a.events.now (good at.Else-n-gt-DAY_EVENTS) c.if-n-gt-DAY_EVENTS.false (omega arith) (long at.Else-events-n) in
    rw done (record { answer = rw r.0; kept = r.1; events = laid })
