-- After one accepted setting the invariant holds in every run; so the watches together keep at most 1,024 frontiers.
use Rattle.std.specs.Prelude.{ℕ, ◌<◌, ◌≡◌, refl, List, [], ◌∷◌, length}
use Rattle.std.proofs.Common.{arith, ◌∙◌}
use mathlib.Core.List.Memᴰ
use Rattle.clocks.specs.Counts.{at}
use Rattle.clocks.specs.stored.CountsLaws.{at_beyond}
use Rattle.numbers.specs.Limit.{most_members}
use Rattle.pool.specs.PoolLaws.{sum_same, sum-le, sum_past, share_allowed}
use Rattle.call_shares.specs.SharesTheorem.{shares_exact}
use Rattle.pool_runs.specs.Runs.{Member, vacant, has, Pooled, IsSet, begun, Numbered, AllPoolPassed, after_pool_call, pool_run}
use Rattle.pool_runs.specs.statements.Within.{OfEveryRun, kept_at_place, kept_or_promised, WithinAllowance, NeverOver}
use Rattle.pool_runs.specs.Running.{Running}
use Rattle.pool_runs.specs.RunningLaws.{allowed_exactly, lawful_running}
use Rattle.pool_runs.specs.OutcomeLaws.{call_lawful}

-- ---- Runs

vacant-has : (m : Member) → vacant ≡ has m → ⊥
vacant-has m h = let z : ◌≡◌ {A = ℕ} 0 1 = cc in omega arith

pub begun_running : (w : ℕ) (shares pool : List ℕ) → IsSet shares pool → Running w shares (begun shares pool)
begun_running w shares pool set =
    let E = shares_exact shares pool in
    let good = (E.set_exactly 0).0 set in
    record {
      size = E.same_length ∙ good.1;
      shares_are = E.shares_are set;
      numbers = E.none_kept set;
      promises =
          let all = sum_same most_members (kept_or_promised shares (begun shares pool)) (at shares) (λ i l. omega arith) in
          let past = sum_past most_members (length shares) (at shares) good.2.few (at_beyond shares) in
          omega (arith, all, past, good.2.within);
      members = λ i m h. absurd (vacant-has m h);
    }

run_running : (w : ℕ) → 0 < w → (shares : List ℕ) (cs : List Numbered) → AllPoolPassed w cs → (G : Pooled)
    → Running w shares G → Running w shares (pool_run w cs G)
unfolding pool_run
run_running w pos shares [] p G R = R
run_running w pos shares (c ∷ cs) p G R =
    let L = call_lawful w pos shares G R c (p c (Memᴰ.head refl)) in
    run_running w pos shares cs (λ d m. p d (Memᴰ.tail m)) (after_pool_call w c G) (lawful_running w shares G R c L)

pub running : OfEveryRun Running
running w pos shares pool set cs p = run_running w pos shares cs p (begun shares pool) (begun_running w shares pool set)

-- ---- Theorem

within_of : (w : ℕ) (shares : List ℕ) (G : Pooled) → Running w shares G → WithinAllowance w shares G
within_of w shares G R = record {
  pool_length = R.size;
  shares_stay = R.shares_are;
  numbers = R.numbers;
  only_shares = λ i m h. (R.members i m h).0;
  promises = R.promises;
  together =
      let less = sum-le most_members (λ i. kept_at_place (G.places i)) (kept_or_promised shares G) (λ i l. omega arith) in
      omega (arith, R.promises, less);
  share_allowed = λ i l. omega (arith, share_allowed G.pool i, R.shares_are i l);
  allowed_exactly = allowed_exactly w shares G R;
}

pub never_over : NeverOver
never_over w pos shares pool set cs p = within_of w shares _ (running w pos shares pool set cs p)
