-- Two runs with one watch's own calls alike: each of its calls leaves the same in both, while no take would pass the
-- watch's share.
use Prim.Native.Nat.{ℕ, zero, suc, ◌<◌}
use Rattle.std.proofs.Common.{arith, ◌∙◌}
use Rattle.std.proofs.Math.Path.{◌≡◌, refl, sym, ap}
use Rattle.std.specs.Prelude.{Bool, ◌≢◌, length}
use Rattle.std.proofs.Math.Bool.{true, false}
use mathlib.Core.List.{List, [], ◌∷◌, Memᴰ}
use Rattle.std.proofs.Math.Dec.{eqb}
use Rattle.std.proofs.Math.ListN.{take}
use borrow.Author.Tests.{eqb-true, eqb-false}
use Rattle.clocks.specs.Counts.{at}
use Rattle.pool.specs.Pool.{kept_at, bad_pool_length}
use Rattle.answers.specs.Result.{refused, gives}
use Rattle.answers.specs.ToldLaws.{not-both}
use Rattle.answers.specs.Turns.{by_test}
use Rattle.call_shares.specs.Shares.{bad_shares, pool_of, SharesSet, set_shares}
use Rattle.pool_runs.specs.Runs.{Pooled, IsSet, begun, PoolCall, PoolPassed, Numbered, AllPoolPassed, after_pool_call}
use Rattle.pool_runs.specs.Turns.{own_calls, Turn, turn_of, own_turns}
use Rattle.pool_runs.specs.statements.Others.{MayPassShare, OthersMakeNoDifference}
use Rattle.pool_runs.specs.TurnLaws.{Same, other_call, turned_round, same_turn, same_after}
use Rattle.pool_runs.specs.WithinTheorem.{begun_running}

-- ---- One number in two runs
module _ (w : ℕ) (pos : 0 < w) (shares : List ℕ) (i : ℕ) where
  -- No own call: no turn.
  no_turns : (ds : List Numbered) (H : Pooled) → own_calls i ds ≡ [] → own_turns w i ds H ≡ []
  unfolding own_calls own_turns
  no_turns [] H h = refl
  no_turns (d ∷ ds) H h = go (eqb d.number i) refl (no_turns ds (after_pool_call w d H))
    where
      go : (b : Bool) → eqb d.number i ≡ b
          → (own_calls i ds ≡ [] → own_turns w i ds (after_pool_call w d H) ≡ []) → own_turns w i (d ∷ ds) H ≡ []
      go true e rest = let z : ◌≡◌ {A = ℕ} 0 1 = (let y = rw e at h in cc) in absurd (omega arith)
      go false e rest = rw e (rest (rw e at h))

  -- A call of this number.
  abbrev own : (x : PoolCall) → Numbered
  own x = record { number = i; call = x }

  is_own : (c : Numbered) → c.number ≡ i → c ≡ own c.call
  is_own c e = ap (λ (n : ℕ). record { number = n; call = c.call }) e

  first-turn : (c : Numbered) (cs : List Numbered) (G : Pooled) → eqb c.number i ≡ true
      → own_turns w i (c ∷ cs) G
      ≡ turn_of w (own c.call) G ∷ own_turns w i cs (after_pool_call w (own c.call) G)
  unfolding own_turns
  first-turn c cs G e = let mine = is_own c (eqb-true c.number i e) in rw (e, mine)

  together : {t u : Turn} {ts us : List Turn} → t ≡ u → ts ≡ us → t ∷ ts ≡ u ∷ us
  together e f = cc

  -- The next own call, after the others' before it.
  record Next (x : PoolCall) (rest : List PoolCall) (ds : List Numbered) (H : Pooled) : Type 0 where
    state : Pooled
    later : List Numbered
    passed : AllPoolPassed w later
    same : (G : Pooled) → Same w shares i G H → Same w shares i G state
    own_later : own_calls i later ≡ rest
    turns : own_turns w i ds H ≡ turn_of w (own x) state ∷ own_turns w i later (after_pool_call w (own x) state)

  next : (ds : List Numbered) → AllPoolPassed w ds → (H : Pooled) (x : PoolCall) (rest : List PoolCall)
      → own_calls i ds ≡ x ∷ rest → Next x rest ds H
  unfolding own_calls own_turns
  next [] q H x rest h = let z : ◌≡◌ {A = ℕ} 0 1 = cc in absurd (omega arith)
  next (d ∷ ds) q H x rest h =
      go (eqb d.number i) refl (next ds (λ e m. q e (Memᴰ.tail m)) (after_pool_call w d H) x rest)
    where
      go : (b : Bool) → eqb d.number i ≡ b
          → (own_calls i ds ≡ x ∷ rest → Next x rest ds (after_pool_call w d H)) → Next x rest (d ∷ ds) H
      go true e further =
          let both : d.call ∷ own_calls i ds ≡ x ∷ rest = rw e at h in
          let call : d.call ≡ x = cc in
          record {
            state = H;
            later = ds;
            passed = λ f m. q f (Memᴰ.tail m);
            same = λ G S. S;
            own_later = cc;
            turns = rw (← call) (first-turn d ds H e);
          }
      go false e further =
          let N = further (rw e at h) in
          let apart : i ≢ d.number = λ z. eqb-false d.number i e (sym z) in
          record {
            state = N.state;
            later = N.later;
            passed = N.passed;
            same = λ G S. N.same G
                (turned_round w pos shares i (after_pool_call w d H) G
                (other_call w pos shares i H G (turned_round w pos shares i G H S) d
                (q d (Memᴰ.head refl)) apart));
            own_later = N.own_later;
            turns = rw e N.turns;
          }

  abbrev NonePasses : (ts : List Turn) → Type 0
  NonePasses ts = (t : Turn) → Memᴰ t ts → MayPassShare w (at shares i) t → ⊥

  others : (cs : List Numbered) → AllPoolPassed w cs → (ds : List Numbered) → AllPoolPassed w ds → (G H : Pooled)
      → Same w shares i G H → own_calls i cs ≡ own_calls i ds → (n : ℕ) → NonePasses (take n (own_turns w i cs G))
      → take n (own_turns w i cs G) ≡ take n (own_turns w i ds H)
  unfolding own_calls own_turns
  others [] p ds q G H S h n none = rw (no_turns ds H (sym h))
  others (c ∷ cs) p ds q G H S h n none =
      go (eqb c.number i) refl n none (others cs (λ e m. p e (Memᴰ.tail m)))
    where
      go : (b : Bool) → eqb c.number i ≡ b → (n : ℕ) → NonePasses (take n (own_turns w i (c ∷ cs) G))
          → ((ds : List Numbered) → AllPoolPassed w ds → (G H : Pooled) → Same w shares i G H
          → own_calls i cs ≡ own_calls i ds
          → (n : ℕ) → NonePasses (take n (own_turns w i cs G))
          → take n (own_turns w i cs G) ≡ take n (own_turns w i ds H))
          → take n (own_turns w i (c ∷ cs) G) ≡ take n (own_turns w i ds H)
      go false e n none further =
          let apart : i ≢ c.number = λ z. eqb-false c.number i e (sym z) in
          let S' = other_call w pos shares i G H S c (p c (Memᴰ.head refl)) apart in
          rw e (further ds q (after_pool_call w c G) H S' (rw e at h) n (rw e at none))
      go true e zero none further = refl
      go true e (suc n) none further =
          let mine = is_own c (eqb-true c.number i e) in
          let N = next ds q H c.call (own_calls i cs) (sym (rw e at h)) in
          let T = N.same G S in
          let ok : PoolPassed w c.call = p c (Memᴰ.head refl) in
          let here : NonePasses (turn_of w c G ∷ take n (own_turns w i cs (after_pool_call w c G))) = rw e at none in
          let modest : MayPassShare w (at shares i) (turn_of w (own c.call) G) → ⊥ =
          λ would. here (turn_of w c G) (Memᴰ.head refl) (rw mine would) in
          let turn = same_turn w pos shares i G N.state T c.call ok modest in
          let S' = same_after w pos shares i G N.state T c.call ok modest in
          let rest =
          further N.later N.passed (after_pool_call w (own c.call) G)
          (after_pool_call w (own c.call) N.state) S' (sym N.own_later) n
          (λ t m. here t (Memᴰ.tail (rw mine m))) in
          ap (take (suc n)) (first-turn c cs G e) ∙ together turn rest ∙ sym (ap (take (suc n)) N.turns)

-- ---- Theorem

-- A setting writes the whole pool by the shares.
set_pool : (shares pool : List ℕ) → IsSet shares pool → (set_shares shares pool).pool ≡ pool_of shares
unfolding set_shares
set_pool shares pool set =
    let P : SharesSet → Type 0 = λ r. r.answer ≡ gives 0 → r.pool ≡ pool_of shares in
    let back : ℕ → SharesSet = λ n. record { answer = refused n; pool = pool } in
    by_test P (bad_pool_length (length pool)) (back 6) _ (λ _ h. absurd (not-both 6 0 h))
    (λ _. by_test P (bad_shares shares) (back 49) _ (λ _ h. absurd (not-both 49 0 h)) (λ _ h. refl)) set

pub others_make_no_difference : OthersMakeNoDifference
others_make_no_difference w pos shares pool pool' set set' cs ds p q i same n none =
    others w pos shares i cs p ds q (begun shares pool) (begun shares pool')
    (record {
      first = begun_running w shares pool set;
      second = begun_running w shares pool' set';
      place = refl;
      number = ap (λ (x : List ℕ). kept_at x i) (set_pool shares pool set ∙ sym (set_pool shares pool' set'));
    })
    same n none
