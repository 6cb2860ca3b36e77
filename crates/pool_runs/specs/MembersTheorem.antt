-- Each watch of a run was written by calls alone: all that is stated of every written watch is true of it.
use Rattle.std.specs.Prelude.{ℕ, ◌<◌, ◌≡◌, List}
use Rattle.std.proofs.Common.{ap}
use Rattle.clocks.specs.Counts.{at}
use Rattle.rules.specs.Formula.{Formula}
use Rattle.pool.specs.Pool.{allowance}
use Rattle.call_take.specs.Take.{Taken}
use Rattle.call_close.specs.Close.{Closed}
use Rattle.call_shared.specs.Shared.{Shared, pool_after}
use Rattle.demands.specs.Run.{Watch}
use Rattle.demands.specs.EveryList.{RightLengths, lent_window, next_take}
use Rattle.demands.specs.Written.{Written}
use Rattle.demands.specs.statements.TakeAnswers.{AnswersExact}
use Rattle.demands.specs.statements.Close.{next_close}
use Rattle.demands.specs.statements.EveryWatch.{WatchExact}
use Rattle.demands.specs.forms.EveryWatch.{every-watch_exact, order_independent_with_moves}
use Rattle.pool_runs.specs.Runs.{Member, has, Pooled, Outcome}
use Rattle.pool_runs.specs.statements.Members.{next_shared, next_shared_close, MemberExact, MemberIsExact, EveryMemberIsExact, MembersOrderIndependent, MemberAndPlainAlike}
use Rattle.pool_runs.specs.Running.{IsWritten, Running}
use Rattle.pool_runs.specs.MemberCallLaws.{take_as, close_as}
use Rattle.pool_runs.specs.OutcomeLaws.{shared, take-outcome, close_outcome}
use Rattle.pool_runs.specs.WithinTheorem.{running}

module _ (w : ℕ) (pos : 0 < w) (shares : List ℕ) (G : Pooled) (R : Running w shares G) (i : ℕ) (m : Member)
    (here : G.places i ≡ has m) where
  abbrev Z : Watch
  Z = m.watch

  -- its shared take and close
  took : (more : ℕ) (scratch : List ℕ)
      → let t = next_take w Z (allowance G.pool i) more scratch in
      next_shared w i m G more scratch ≡ record { call = t; pool = pool_after G.pool i t.answer t.bytes }
  took more scratch =
      take_as w G.pool i R.size (shared w pos shares G R i (R.members i m here).0) Z.bytes
      (lent_window Z more) scratch

  closed : (p : ℕ)
      → let c = next_close w Z p in
      next_shared_close w i m G p ≡ record { call = c; pool = pool_after G.pool i c.answer c.bytes }
  closed p =
      close_as w G.pool i R.size (shared w pos shares G R i (R.members i m here).0) p Z.bytes Z.window

  member_exact : (f : Formula) → WatchExact w m.processes f (at m.labels) Z
      → MemberExact w m.processes f (at m.labels) i m G
  member_exact f E =
      let most = allowance G.pool i in
      let answers : (more : ℕ) (scratch : List ℕ) → RightLengths w Z more scratch
      → AnswersExact w m.processes f (at m.labels) Z most more scratch =
      E.takes.right_lengths most in
      record {
        exact = E;
        take_plain = λ more scratch. ap (λ (r : Shared Taken). r.call) (took more scratch);
        take_leaves = λ more scratch.
            ap (λ (o : Outcome). o.place) (take-outcome w pos shares G R i m here more scratch);
        take_lengths = λ more scratch. rw (took more scratch) (E.takes.wrong_lengths most more scratch);
        take_answers = answers;
        take_nothing = λ more scratch right. rw (took more scratch) (answers more scratch right).nothing_exactly;
        take_full = λ more scratch right. rw (took more scratch) (answers more scratch right).full_exactly;
        take_false = λ more scratch right. rw (took more scratch) (answers more scratch right).false_exactly;
        take_state = λ more scratch right. rw (took more scratch) (answers more scratch right).state_exactly;
        take_never_34 = λ more scratch. rw (took more scratch) (E.takes.never_34 most more scratch);
        close_plain = λ p. ap (λ (r : Shared Closed). r.call) (closed p);
        close_leaves = λ p. ap (λ (o : Outcome). o.place) (close_outcome w pos shares G R i m here p);
        take_pool = λ more scratch. rw (took more scratch);
        close_pool = λ p. rw (closed p);
      }

  member_is_exact : MemberIsExact w i m G
  member_is_exact =
      let written = (R.members i m here).1 in
      let r = every-watch_exact m.text m.processes m.labels written.0 w Z written.1 in
      (written.0, written.1, (r.0, r.1, r.2, r.3, member_exact r.0 r.4))

-- ---- Theorems

pub every_member_exact : EveryMemberIsExact
every_member_exact w pos shares pool set cs p i m here =
    member_is_exact w pos shares _ (running w pos shares pool set cs p) i m here

pub member_and-plain-alike : MemberAndPlainAlike
member_and-plain-alike w pos shares pool set cs p i m here Z z =
    let written = ((running w pos shares pool set cs p).members i m here).1 in
    order_independent_with_moves m.text m.processes m.labels written.0 w m.watch Z written.1 z

-- The second one, opened alike.
as_first : (w v : ℕ) (m n : Member) → w ≡ v → m.text ≡ n.text → m.processes ≡ n.processes → m.labels ≡ n.labels
    → IsWritten v n → Written m.text m.processes m.labels w n.watch
as_first w v m n e t k l x = rw (e, t, k, l) x.1

pub members_order_independent : MembersOrderIndependent
members_order_independent w pos shares pool set cs p i m here v pos' shares' pool' set' ds q j n there e alike =
    let written = ((running v pos' shares' pool' set' ds q).members j n there).1 in
    member_and-plain-alike w pos shares pool set cs p i m here n.watch
    (as_first w v m n e alike.0 alike.1 alike.2 written)
