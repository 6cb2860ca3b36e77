-- One call of a watch in two runs: it leaves the same in both, where no take would pass the watch's share; the others'
-- calls touch neither its place nor its number, nor any share.
use Rattle.std.specs.Prelude.{ℕ, ◌≤◌, ◌<◌, ◌≡◌, Bool, true, false, cond, ◌||◌, List, [], ◌∷◌, ◌≢◌, leb, length}
use Rattle.std.proofs.Common.{arith, ap, ◌∙◌, inl, inr, le-leb}
use Rattle.std.proofs.Math.Decide.{dec_lt}
use Rattle.std.proofs.Math.Path.{refl, sym}
use Rattle.std.proofs.Math.Dec.{eqb}
use Rattle.clocks.specs.Counts.{at}
use Rattle.numbers.specs.Limit.{most_members}
use Rattle.refusals.specs.Refusals.{bad_record_length, bad_window_length}
use Rattle.pool.specs.Pool.{share_at, kept_at, bad_pool_length, no_share, allowance}
use Rattle.pool.specs.PoolLaws.{share_allowed}
use Rattle.call_take.specs.Take.{Taken}
use Rattle.call_shared.specs.Shared.{Shared, shared_open}
use Rattle.demands.specs.EveryList.{RightLengths}
use Rattle.demands.specs.statements.Caps.{WouldPass}
use Rattle.demands.specs.forms.EveryWatch.{caps_alike}
use Rattle.pool_runs.specs.Runs.{Member, Place, vacant, has, Pooled, PoolCall, pool_open, pool_offer, pool_take, pool_find, pool_close, mislent_call, PoolPassed, Numbered, Outcome, with_watch, outcome_of_open, outcome_of_offer, outcome_of_find, outcome_of_take, outcome_of_close, outcome, outcome_in, after_pool_call}
use Rattle.pool_runs.specs.Turns.{turn_of}
use Rattle.pool_runs.specs.statements.Within.{kept_at_place}
use Rattle.pool_runs.specs.statements.Others.{MayPassShare}
use Rattle.pool_runs.specs.Running.{Running}
use Rattle.pool_runs.specs.RunningLaws.{PoolLeft, Lawful, other_place, other_number, own_place, own_number, lawful_running}
use Rattle.pool_runs.specs.MemberCallLaws.{good_length}
use Rattle.pool_runs.specs.OutcomeLaws.{take-outcome, close_outcome, call_lawful}

-- ---- An open looks at no more of the pool than its length and whether there is a share

same-calls : {A : Type 0} (b c : Bool) (x y z x' y' z' : Shared A) → x.call ≡ x'.call → y.call ≡ y'.call
    → z.call ≡ z'.call → (cond b x (cond c y z)).call ≡ (cond b x' (cond c y' z')).call
same-calls true c x y z x' y' z' e f g = e
same-calls false true x y z x' y' z' e f g = f
same-calls false false x y z x' y' z' e f g = g

same_open : (w i : ℕ) (text : List ℕ) (k : ℕ) (labels s window pool pool' : List ℕ)
    → bad_pool_length (length pool) ≡ bad_pool_length (length pool') → no_share pool i ≡ no_share pool' i
    → (shared_open w text k labels s window pool i).call ≡ (shared_open w text k labels s window pool' i).call
unfolding shared_open
same_open w i text k labels s window pool pool' lengths share =
    rw (lengths, share)
    (same-calls (bad_record_length w (length s) || (bad_window_length w (length window) || bad_pool_length (length pool')))
    (no_share pool' i) _ _ _ _ _ _ refl refl refl)

-- ---- One number in two runs

-- What is equal of the two, where one watch is concerned.
pub record Same (w : ℕ) (shares : List ℕ) (i : ℕ) (G H : Pooled) : Type 0 where
  pub first : Running w shares G
  pub second : Running w shares H
  pub place : G.places i ≡ H.places i
  pub number : kept_at G.pool i ≡ kept_at H.pool i

module _ (w : ℕ) (pos : 0 < w) (shares : List ℕ) (i : ℕ) where
  -- Another's call.
  pub other_call : (G H : Pooled) → Same w shares i G H → (c : Numbered) → PoolPassed w c.call → i ≢ c.number
      → Same w shares i (after_pool_call w c G) H
  other_call G H S c p n =
      let L = call_lawful w pos shares G S.first c p in
      record {
        first = lawful_running w shares G S.first c L;
        second = S.second;
        place = other_place w shares G S.first c i n ∙ S.place;
        number = other_number w shares G S.first c L i n ∙ S.number;
      }

  pub turned_round : (G H : Pooled) → Same w shares i G H → Same w shares i H G
  turned_round G H S =
      record { first = S.second; second = S.first; place = sym S.place; number = sym S.number }

  -- ---- Its own call
  module _ (G H : Pooled) (S : Same w shares i G H) where
    same-share : (j : ℕ) → j ≡ i → no_share G.pool j ≡ no_share H.pool j
    unfolding no_share
    same-share j e = go (dec_lt j most_members)
      where
        go : Dec (j < most_members)
            → (leb most_members j || eqb (share_at G.pool j) 0) ≡ (leb most_members j || eqb (share_at H.pool j) 0)
        go (yes l) = rw (S.first.shares_are j l, S.second.shares_are j l)
        go (no f) = rw (le-leb most_members j (omega (arith, f)))

    -- both leave the same of the watch, of the scratch, and answer the same
    pub record SameOutcome (o o' : Outcome) : Type 0 where
      pub places : o.place ≡ o'.place
      pub scratches : o.scratch ≡ o'.scratch
      pub answered : o.answers ≡ o'.answers

    open_alike : (text : List ℕ) (k : ℕ) (labels s window : List ℕ) (P : Place)
        → SameOutcome (outcome_of_open w i text k labels s window G.pool P)
        (outcome_of_open w i text k labels s window H.pool P)
    unfolding outcome_of_open
    open_alike text k labels s window P =
        let lengths = good_length G.pool S.first.size ∙ sym (good_length H.pool S.second.size) in
        let same = same_open w i text k labels s window G.pool H.pool lengths (same-share i refl) in
        record { places = rw same; scratches = refl; answered = rw same }

    take-alike : (m : Member) → G.places i ≡ has m → (more : ℕ) (scratch : List ℕ)
        → (RightLengths w m.watch more scratch → WouldPass m.processes (at shares i) m.watch.ledger → ⊥)
        → SameOutcome (outcome_of_take w i more scratch G.pool m) (outcome_of_take w i more scratch H.pool m)
    take-alike m here more scratch none =
        let member = S.first.members i m here in
        let r = caps_alike m.text m.processes m.labels member.1.0 w m.watch member.1.1 in
        let l = member.0.0 in
        let low : at shares i ≤ allowance G.pool i =
        omega (arith, share_allowed G.pool i, S.first.shares_are i l) in
        let low' : at shares i ≤ allowance H.pool i =
        omega (arith, share_allowed H.pool i, S.second.shares_are i l) in
        let same = r.4 (at shares i) (allowance G.pool i) (allowance H.pool i) more scratch low low' none in
        rw (
          take-outcome w pos shares G S.first i m here more scratch,
          take-outcome w pos shares H S.second i m (sym S.place ∙ here) more scratch,
        )
        (record {
          places = ap (with_watch m) same.1;
          scratches = ap (λ (t : Taken). t.scratch) same.0;
          answered = ap (λ (t : Taken). t.answer ∷ []) same.0;
        })

    close_alike : (m : Member) → G.places i ≡ has m → (p : ℕ)
        → SameOutcome (outcome_of_close w i p G.pool m) (outcome_of_close w i p H.pool m)
    close_alike m here p =
        rw (
          close_outcome w pos shares G S.first i m here p,
          close_outcome w pos shares H S.second i m (sym S.place ∙ here) p,
        )
        (record { places = refl; scratches = refl; answered = refl })

    -- no take of it would pass the share
    abbrev Modest : (c : PoolCall) (P : Place) → Type 0
    Modest c P =
        (more : ℕ) (scratch : List ℕ) (m : Member) → c ≡ pool_take more scratch → P ≡ has m
        → RightLengths w m.watch more scratch → WouldPass m.processes (at shares i) m.watch.ledger → ⊥

    calls-alike : (c : PoolCall) (P : Place) → G.places i ≡ P → Modest c P
        → SameOutcome (outcome w i c G.pool P) (outcome w i c H.pool P)
    unfolding outcome outcome_of_offer outcome_of_find
    calls-alike (pool_open text k labels s window) P h none = open_alike text k labels s window P
    calls-alike (mislent_call x) P h none = record { places = refl; scratches = refl; answered = refl }
    calls-alike (pool_offer mask clock labels) vacant h none =
        record { places = refl; scratches = refl; answered = refl }
    calls-alike (pool_offer mask clock labels) (has m) h none =
        record { places = refl; scratches = refl; answered = refl }
    calls-alike (pool_take more scratch) vacant h none = record { places = refl; scratches = refl; answered = refl }
    calls-alike (pool_take more scratch) (has m) h none = take-alike m h more scratch (none more scratch m refl refl)
    calls-alike (pool_find line) vacant h none = record { places = refl; scratches = refl; answered = refl }
    calls-alike (pool_find line) (has m) h none = record { places = refl; scratches = refl; answered = refl }
    calls-alike (pool_close p) vacant h none = record { places = refl; scratches = refl; answered = refl }
    calls-alike (pool_close p) (has m) h none = close_alike m h p

    -- ---- One turn of it, in each run
    module _ (x : PoolCall) (p : PoolPassed w x) where
      abbrev c : Numbered
      c = record { number = i; call = x }

      abbrev L : Lawful w shares G i (outcome_in w c G)
      L = call_lawful w pos shares G S.first c p

      abbrev M : Lawful w shares H i (outcome_in w c H)
      M = call_lawful w pos shares H S.second c p

      -- its number in the pool: the record's, or as it was where it has no share
      number-after : (outcome_in w c G).place ≡ (outcome_in w c H).place
          → kept_at (outcome_in w c G).pool i ≡ kept_at (outcome_in w c H).pool i
      number-after same = go (dec_lt i most_members)
        where
          stays : (K : Pooled) → PoolLeft K i (outcome_in w c K) → (i < most_members → ⊥)
              → kept_at (outcome_in w c K).pool i ≡ kept_at K.pool i
          stays K (inl y) out = rw y.0
          stays K (inr y) out = absurd (out y.0)

          go : Dec (i < most_members) → kept_at (outcome_in w c G).pool i ≡ kept_at (outcome_in w c H).pool i
          go (yes l) =
              own_number w shares G S.first c L l ∙ ap kept_at_place same
              ∙ sym (own_number w shares H S.second c M l)
          go (no out) = stays G L.pool_left out ∙ S.number ∙ sym (stays H M.pool_left out)

      alike : (MayPassShare w (at shares i) (turn_of w c G) → ⊥) → SameOutcome (outcome_in w c G) (outcome_in w c H)
      alike none =
          rw (← S.place)
          (calls-alike x (G.places i) refl
          (λ more scratch m e h right would. none (more, scratch, m, e, h, right, would)))

      pub same_turn : (MayPassShare w (at shares i) (turn_of w c G) → ⊥) → turn_of w c G ≡ turn_of w c H
      same_turn none =
          let A = alike none in
          cc_turn S.place A.places A.scratches (number-after A.places) A.answered
        where
          cc_turn : G.places i ≡ H.places i → (outcome_in w c G).place ≡ (outcome_in w c H).place
              → (outcome_in w c G).scratch ≡ (outcome_in w c H).scratch
              → kept_at (outcome_in w c G).pool i ≡ kept_at (outcome_in w c H).pool i
              → (outcome_in w c G).answers ≡ (outcome_in w c H).answers
              → turn_of w c G ≡ turn_of w c H
          cc_turn a b d e f = cc

      pub same_after : (MayPassShare w (at shares i) (turn_of w c G) → ⊥)
          → Same w shares i (after_pool_call w c G) (after_pool_call w c H)
      same_after none =
          let A = alike none in
          record {
            first = lawful_running w shares G S.first c L;
            second = lawful_running w shares H S.second c M;
            place =
                own_place w shares G S.first c ∙ A.places ∙ sym (own_place w shares H S.second c);
            number = number-after A.places;
          }
