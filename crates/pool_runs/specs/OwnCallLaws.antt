-- One watch's own calls in a run, as calls of a watch that shares no pool: each take under the cap that the pool allows
-- then.
use Rattle.std.specs.Prelude.{ℕ, ◌<◌, Bool, ◌≢◌}
use Rattle.std.proofs.Common.{arith, ◌∙◌}
use Rattle.std.proofs.Math.Path.{◌≡◌, refl, sym, ap}
use Rattle.std.proofs.Math.Bool.{true, false}
use mathlib.Core.List.Memᴰ
use mathlib.Core.List.{List, [], ◌∷◌, ◌++◌}
use Rattle.std.proofs.Math.Logic.{⊎_elim}
use Rattle.std.proofs.Math.Dec.{eqb}
use borrow.Author.Tests.{eq-eqb, eqb-true, eqb-false}
use Rattle.answers.specs.Answer.{Answer}
use Rattle.pool.specs.Pool.{allowance}
use Rattle.demands.specs.Mislent.{offer_lent, take_lent, find_lent, close_lent}
use Rattle.demands.specs.Run.{Call, offers, takes, finds, closes, Passed, after, run}
use Rattle.demands.specs.EveryList.{AllPassed}
use Rattle.demands.specs.statements.Empties.{if_take, take_answers, unrefused, NoOffers}
use Rattle.demands.specs.lists.Unrefused.{unrefused-append}
use Rattle.pool_runs.specs.Runs.{Member, has, Pooled, PoolMislent, shared_open_lent, shared_take_lent, shared_close_lent, plain_lent, pool_answer_to, PoolCall, pool_open, pool_offer, pool_take, pool_find, pool_close, mislent_call, PoolPassed, Numbered, AllPoolPassed, Outcome, with_watch, outcome_of_offer, outcome_of_find, outcome, outcome_in, after_pool_call, pool_run}
use Rattle.pool_runs.specs.Turns.{own_calls, own_turns}
use Rattle.pool_runs.specs.statements.Empties.{of_take, own_take_answers, NoOwnOpens, NoOwnOffers}
use Rattle.pool_runs.specs.Running.{Running}
use Rattle.pool_runs.specs.RunningLaws.{own_place, other_place, lawful_running}
use Rattle.pool_runs.specs.OutcomeLaws.{take-outcome, close_outcome, call_lawful}

-- ---- One call

-- Its watch is as it was, and no take was answered but by a refusal; or it is as after a call.
data OwnStep (w : ℕ) (x : PoolCall) (m : Member) (o : Outcome) : Type 0 where
  skips : o.place ≡ has m → unrefused (of_take x o.answers) ≡ [] → OwnStep w x m o
  makes : (c : Call) → Passed w c → o.place ≡ with_watch m (after w c m.watch)
      → of_take x o.answers ≡ if_take w c m.watch
      → ((mask : ℕ) (clock labels : List ℕ) → c ≡ offers mask clock labels → x ≡ pool_offer mask clock labels)
      → OwnStep w x m o

-- lent other things, a take is refused
mislent_take : (w : ℕ) (l : PoolMislent) → PoolPassed w (mislent_call l)
    → unrefused (of_take (mislent_call l) (pool_answer_to w l ∷ [])) ≡ []
unfolding unrefused
mislent_take w (shared_open_lent text k labels s window pool number) p = refl
mislent_take w (shared_take_lent s window scratch pool number) p =
    ⊎_elim (λ q. ap (λ (a : Answer). unrefused (a ∷ [])) q) (λ q. ap (λ (a : Answer). unrefused (a ∷ [])) q) p
mislent_take w (shared_close_lent c s window pool number) p = refl
mislent_take w (plain_lent (offer_lent mask clock labels s)) p = refl
mislent_take w (plain_lent (take_lent cap s window scratch)) p =
    ⊎_elim (λ q. ap (λ (a : Answer). unrefused (a ∷ [])) q) (λ q. ap (λ (a : Answer). unrefused (a ∷ [])) q) p
mislent_take w (plain_lent (find_lent line s window)) p = refl
mislent_take w (plain_lent (close_lent c s window)) p = refl

module _ (w : ℕ) (pos : 0 < w) (shares : List ℕ) where
  module _ (G : Pooled) (R : Running w shares G) (i : ℕ) (m : Member) (here : G.places i ≡ has m) where
    own_step : (x : PoolCall) → PoolPassed w x
        → ((text : List ℕ) (k : ℕ) (labels s window : List ℕ) → pool_open text k labels s window ≡ x → ⊥)
        → OwnStep w x m (outcome w i x G.pool (has m))
    unfolding outcome outcome_of_offer outcome_of_find
    own_step (pool_open text k labels s window) p none = absurd (none text k labels s window refl)
    own_step (mislent_call l) p none = skips refl (mislent_take w l p)
    own_step (pool_offer mask clock labels) p none =
        makes (offers mask clock labels) p refl refl (λ n c l q. cc)
    own_step (pool_take more scratch) p none =
        let o = take-outcome w pos shares G R i m here more scratch in
        makes (takes (allowance G.pool i) more scratch) tt (ap (λ (y : Outcome). y.place) o)
        (ap (λ (y : Outcome). y.answers) o) (λ n c l q. let z : ◌≡◌ {A = ℕ} 0 1 = cc in absurd (omega arith))
    own_step (pool_find line) p none = makes (finds line) tt refl refl (λ n c l q. let z : ◌≡◌ {A = ℕ} 0 1 = cc in absurd (omega arith))
    own_step (pool_close q) p none =
        let o = close_outcome w pos shares G R i m here q in
        makes (closes q) tt (ap (λ (y : Outcome). y.place) o) refl (λ n c l e. let z : ◌≡◌ {A = ℕ} 0 1 = cc in absurd (omega arith))

  -- ---- All of them

  pub record Projected (i : ℕ) (m : Member) (G : Pooled) (cs : List Numbered) : Type 0 where
    pub own : List Call
    pub passed : AllPassed w own
    pub place_is : (pool_run w cs G).places i ≡ with_watch m (run w own m.watch)
    pub answers_are : unrefused (take_answers w own m.watch) ≡ unrefused (own_take_answers (own_turns w i cs G))
    pub no_offers : NoOwnOffers (own_calls i cs) → NoOffers own

  -- what is left of a run, from where a call left it
  abbrev Rest : (i : ℕ) (cs : List Numbered) → Type 0
  Rest i cs =
      (G : Pooled) → Running w shares G → (m : Member) → G.places i ≡ has m → NoOwnOpens (own_calls i cs)
      → Projected i m G cs

  -- with a call of its own in front
  module _ (G : Pooled) (R : Running w shares G) (i : ℕ) (m : Member) (here : G.places i ≡ has m) (x : PoolCall)
      (p : PoolPassed w x) (cs : List Numbered) where
    abbrev c : Numbered
    c = record { number = i; call = x }

    abbrev H : Pooled
    H = after_pool_call w c G

    abbrev o : Outcome
    o = outcome w i x G.pool (has m)

    outcome_is : outcome_in w c G ≡ o
    outcome_is = ap (outcome w i x G.pool) here

    place_left : H.places i ≡ o.place
    place_left = own_place w shares G R c ∙ ap (λ (y : Outcome). y.place) outcome_is

    running_left : Running w shares H
    running_left = lawful_running w shares G R c (call_lawful w pos shares G R c p)

    calls_are : own_calls i (c ∷ cs) ≡ x ∷ own_calls i cs
    unfolding own_calls
    calls_are = rw (eq-eqb i i refl)

    answers_from : unrefused (own_take_answers (own_turns w i (c ∷ cs) G))
        ≡ unrefused (of_take x o.answers) ++ unrefused (own_take_answers (own_turns w i cs H))
    unfolding own_turns own_take_answers
    answers_from =
        rw (eq-eqb i i refl, ap (λ (y : Outcome). y.answers) outcome_is)
        (unrefused-append (of_take x o.answers) (own_take_answers (own_turns w i cs H)))

    fewer : NoOwnOffers (own_calls i (c ∷ cs)) → NoOwnOffers (own_calls i cs)
    fewer none mask clock labels y = none mask clock labels (rw calls_are (Memᴰ.tail y))

    own_next : OwnStep w x m o → NoOwnOpens (own_calls i cs) → Rest i cs → Projected i m G (c ∷ cs)
    unfolding pool_run take_answers run
    own_next (skips q r) opens rest =
        let P = rest H running_left m (place_left ∙ q) opens in
        record {
          own = P.own;
          passed = P.passed;
          place_is = P.place_is;
          answers_are = P.answers_are ∙ sym (answers_from ∙ rw r);
          no_offers = λ none. P.no_offers (fewer none);
        }
    own_next (makes d h q r offered) opens rest =
        let n : Member = record {
          text = m.text;
          processes = m.processes;
          labels = m.labels;
          watch = after w d m.watch;
        } in
        let P = rest H running_left n (place_left ∙ q) opens in
        record {
          own = d ∷ P.own;
          passed = λ e y. ⊎_elim (λ z. rw z h) (P.passed e) (Memᴰ.cases_cons y);
          place_is = P.place_is;
          answers_are =
              unrefused-append (if_take w d m.watch) (take_answers w P.own (after w d m.watch))
              ∙ rw (P.answers_are, ← r) (sym answers_from);
          no_offers = λ none mask clock labels y.
              ⊎_elim
              (λ z. none mask clock labels
              (rw calls_are (Memᴰ.head (sym (offered mask clock labels (sym z))))))
              (P.no_offers (fewer none) mask clock labels) (Memᴰ.cases_cons y);
        }

  -- with another's call in front
  other_next : (G : Pooled) → Running w shares G → (i : ℕ) (m : Member) → G.places i ≡ has m → (c : Numbered)
      → PoolPassed w c.call → (cs : List Numbered) → eqb c.number i ≡ false → NoOwnOpens (own_calls i (c ∷ cs))
      → Rest i cs → Projected i m G (c ∷ cs)
  unfolding pool_run own_turns own_calls
  other_next G R i m here c p cs e opens rest =
      let H = after_pool_call w c G in
      let n : i ≢ c.number = λ q. eqb-false c.number i e (sym q) in
      let L = lawful_running w shares G R c (call_lawful w pos shares G R c p) in
      let P = rest H L m (other_place w shares G R c i n ∙ here) (rw e at opens) in
      record {
        own = P.own;
        passed = P.passed;
        place_is = P.place_is;
        answers_are = rw e P.answers_are;
        no_offers = rw e P.no_offers;
      }

  -- ---- Theorem
  pub projected : (i : ℕ) (cs : List Numbered) → AllPoolPassed w cs → Rest i cs
  unfolding pool_run own_turns own_take_answers take_answers run
  projected i [] p G R m here opens = record {
    own = [];
    passed = λ c y. absurd (Memᴰ.not-nil y);
    place_is = here;
    answers_are = refl;
    no_offers = λ none mask clock labels y. absurd (Memᴰ.not-nil y);
  }
  projected i (c ∷ cs) p G R m here opens =
      go (eqb c.number i) refl (projected i cs (λ d y. p d (Memᴰ.tail y)))
    where
      go : (b : Bool) → eqb c.number i ≡ b → Rest i cs → Projected i m G (c ∷ cs)
      go false e rest = other_next G R i m here c (p c (Memᴰ.head refl)) cs e opens rest
      go true e rest =
          let own : c ≡ record { number = i; call = c.call } =
          ap (λ (n : ℕ). record { number = n; call = c.call }) (eqb-true c.number i e) in
          let some = rw own at opens in
          let all = calls_are G R i m here c.call (p c (Memᴰ.head refl)) cs in
          rw own
          (own_next G R i m here c.call (p c (Memᴰ.head refl)) cs
          (own_step G R i m here c.call (p c (Memᴰ.head refl))
          (λ text k labels s window q. some text k labels s window (rw all (Memᴰ.head q))))
          (λ text k labels s window y. some text k labels s window (rw all (Memᴰ.tail y))) rest)
