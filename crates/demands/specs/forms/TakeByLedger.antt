-- What a take comes to is said by the ledger and by how many frontiers it may use: the answer and the ledger after it
-- are one, whatever the bytes and the width of a count.
use Rattle.std.specs.Prelude.{ℕ, min, ◌+◌, ◌*◌, ◌≡◌, refl, Bool, true, false, List, ◌++◌, ◌⊎◌, eqb, length}
use Rattle.std.proofs.Common.{sym, subst, ◌∙◌, true≢false, inl, inr, eqb-true}
use Rattle.std.proofs.Math.Path.{ap}
use Rattle.std.proofs.lemmas.Bool.{eqb-false}
use Rattle.clocks.specs.Event.{Cut}
use Rattle.frontiers.specs.Bytes.{frontier_length}
use Rattle.rules.specs.Formula.{Formula}
use Rattle.refusals.specs.Refusals.{bad_window_length, room_of}
use Rattle.answers.specs.Answer.{Answer, turned_back, state, nothing_ready}
use Rattle.demands.specs.Ledger.{Ledger, Settled}
use Rattle.demands.specs.Run.{Watch, after, taken_ledger, stopped_at, trial_of}
use Rattle.demands.specs.EveryList.{lent_window, RightLengths, next_take}
use Rattle.demands.specs.calls.WindowRooms.{room_of_lem, as_many, bad_length, lent_more}
use Rattle.demands.specs.statements.TakeAnswers.{FalseClock, NoRoom, Takes, falsified_ledger, chosen_ledger, allowed_next, next_ledger, AnswersExact}
use Rattle.demands.specs.lists.SoundRun.{Sound}
use Rattle.demands.specs.lists.TakeAnswers.{take_exact_of}

-- ---- Definition

-- One of the four that a take can come to holds, and each has its answer and its ledger.
record Decided (k allowed : ℕ) (f : Formula) (start : Cut) (L : Ledger) (answer : Answer) (then : Ledger) : Type 0 where
  one_holds : Settled L
      ⊎ (NoRoom k allowed L
      ⊎ (FalseClock k allowed L
      ⊎ ((counts : List ℕ) × (truth : Bool) × (kept : ℕ) × Takes k allowed f start L counts truth kept)))
  nothing : Settled L → (answer ≡ nothing_ready) × (then ≡ L)
  full : NoRoom k allowed L → (answer ≡ turned_back 36 0) × (then ≡ L)
  falsifies : (x : FalseClock k allowed L)
      → (answer ≡ turned_back 35 0) × (then ≡ falsified_ledger L x.0 (x.1.earlier ++ x.1.later))
  chooses : (counts : List ℕ) (truth : Bool) (kept : ℕ) (x : Takes k allowed f start L counts truth kept)
      → (answer ≡ state counts truth kept)
      × (then ≡ chosen_ledger L x.event (x.stops.earlier ++ x.stops.later))

-- ---- Laws

module _ (k allowed : ℕ) (f : Formula) (start : Cut) (L : Ledger) (a b : Answer) (M N : Ledger)
    (x : Decided k allowed f start L a M) (y : Decided k allowed f start L b N) where
  decided_once : (a ≡ b) × (M ≡ N)
  decided_once = go x.one_holds
    where
      both : (c : Answer) (O : Ledger) → (a ≡ c) × (M ≡ O) → (b ≡ c) × (N ≡ O) → (a ≡ b) × (M ≡ N)
      both c O p q = (p.0 ∙ sym q.0, p.1 ∙ sym q.1)

      go : Settled L
          ⊎ (NoRoom k allowed L
          ⊎ (FalseClock k allowed L
          ⊎ ((counts : List ℕ) × (truth : Bool) × (kept : ℕ) × Takes k allowed f start L counts truth kept)))
          → (a ≡ b) × (M ≡ N)
      go (inl s) = both nothing_ready L (x.nothing s) (y.nothing s)
      go (inr (inl n)) = both (turned_back 36 0) L (x.full n) (y.full n)
      go (inr (inr (inl c))) = both (turned_back 35 0) _ (x.falsifies c) (y.falsifies c)
      go (inr (inr (inr t))) =
          both (state t.0 t.1 t.2) _ (x.chooses t.0 t.1 t.2 t.3)
          (y.chooses t.0 t.1 t.2 t.3)

module _ (w k : ℕ) (f : Formula) (start : Cut) (Z : Watch) (S : Sound w k f start Z) (cap more : ℕ)
    (scratch : List ℕ) where
  abbrev answer : Answer
  answer = (next_take w Z cap more scratch).answer

  -- the ledger follows the answer
  then_by : (a : Answer) → answer ≡ a
      → next_ledger w Z cap more scratch
      ≡ taken_ledger w Z.bytes (stopped_at (trial_of w cap Z.bytes (lent_window Z more))) Z.ledger a
  unfolding after
  then_by a q =
      ap (taken_ledger w Z.bytes (stopped_at (trial_of w cap Z.bytes (lent_window Z more))) Z.ledger) q

  wrong_taken : (RightLengths w Z more scratch → ⊥)
      → (answer ≡ turned_back 6 0) × (next_ledger w Z cap more scratch ≡ Z.ledger)
  unfolding taken_ledger
  wrong_taken n =
      let q = ((take_exact_of w k f start Z S).wrong_lengths cap more scratch).1 n in
      (q, then_by (turned_back 6 0) q)

  decides : (right : RightLengths w Z more scratch)
      → Decided k (allowed_next w Z cap more) f start Z.ledger answer (next_ledger w Z cap more scratch)
  unfolding taken_ledger
  decides right = record {
    one_holds = which exact.no_other;
    nothing = λ s. let q = exact.nothing_exactly.1 s in (q, then_by nothing_ready q);
    full = λ n. let q = exact.full_exactly.1 n in (q, then_by (turned_back 36 0) q);
    falsifies = λ c. (exact.false_exactly.1 c, exact.ledger_false c);
    chooses = λ counts truth kept t.
        ((exact.state_exactly counts truth kept).1 t, exact.ledger_state counts truth kept t);
  }
    where
      exact : AnswersExact w k f start Z cap more scratch
      exact = (take_exact_of w k f start Z S).right_lengths cap more scratch right

      which : (answer ≡ nothing_ready)
          ⊎ ((answer ≡ turned_back 36 0)
          ⊎ ((answer ≡ turned_back 35 0)
          ⊎ ((counts : List ℕ) × (truth : Bool) × (kept : ℕ) × (answer ≡ state counts truth kept))))
          → Settled Z.ledger
          ⊎ (NoRoom k (allowed_next w Z cap more) Z.ledger
          ⊎ (FalseClock k (allowed_next w Z cap more) Z.ledger
          ⊎ ((counts : List ℕ) × (truth : Bool) × (kept : ℕ)
          × Takes k (allowed_next w Z cap more) f start Z.ledger counts truth kept)))
      which (inl q) = inl (exact.nothing_exactly.0 q)
      which (inr (inl q)) = inr (inl (exact.full_exactly.0 q))
      which (inr (inr (inl q))) = inr (inr (inl (exact.false_exactly.0 q)))
      which (inr (inr (inr q))) =
          inr (inr (inr (q.0, q.1, q.2, (exact.state_exactly q.0 q.1 q.2).0 q.3)))

-- ---- Theorem

-- Two watches with the same ledger, whose windows have room for as many frontiers; both takes are lent as many more,
-- and a scratch of as many.
module _ (v w k : ℕ) (f : Formula) (start : Cut) (Y Z : Watch) (S : Sound v k f start Y) (U : Sound w k f start Z)
    (same_ledger : Y.ledger ≡ Z.ledger) (room : ℕ) (long : length Y.window ≡ room * frontier_length v)
    (other_long : length Z.window ≡ room * frontier_length w) (cap more far : ℕ) (scratch scratch' : List ℕ)
    (scratch_long : length scratch ≡ far * frontier_length v)
    (scratch_long' : length scratch' ≡ far * frontier_length w) where
  abbrev zeros : ℕ
  zeros = more * frontier_length v

  abbrev zeros' : ℕ
  zeros' = more * frontier_length w

  abbrev TakesAlike : Type 0
  TakesAlike =
      ((next_take v Y cap zeros scratch).answer ≡ (next_take w Z cap zeros' scratch').answer)
      × (next_ledger v Y cap zeros scratch ≡ next_ledger w Z cap zeros' scratch')

  lent_long : length (lent_window Y zeros) ≡ (room + more) * frontier_length v
  lent_long = lent_more v room more Y.window long

  lent_long' : length (lent_window Z zeros') ≡ (room + more) * frontier_length w
  lent_long' = lent_more w room more Z.window other_long

  wrong_alike : bad_window_length v (length (lent_window Y zeros)) ≡ bad_window_length w (length (lent_window Z zeros'))
  wrong_alike =
      ap (bad_window_length v) lent_long ∙ bad_length v (room + more)
      ∙ sym (ap (bad_window_length w) lent_long' ∙ bad_length w (room + more))

  allowed_alike : allowed_next v Y cap zeros ≡ allowed_next w Z cap zeros'
  allowed_alike =
      ap (min cap)
      (ap (room_of v) lent_long ∙ room_of_lem v (room + more) ∙ sym (ap (room_of w) lent_long' ∙ room_of_lem w (room + more)))

  both-turned : (RightLengths v Y zeros scratch → ⊥) → (RightLengths w Z zeros' scratch' → ⊥) → TakesAlike
  both-turned m n =
      let a = wrong_taken v k f start Y S cap zeros scratch m in
      let b = wrong_taken w k f start Z U cap zeros' scratch' n in
      (a.0 ∙ sym b.0, a.1 ∙ same_ledger ∙ sym b.1)

  both-decided : RightLengths v Y zeros scratch → RightLengths w Z zeros' scratch' → TakesAlike
  both-decided right right' =
      decided_once k (allowed_next w Z cap zeros') f start Z.ledger (next_take v Y cap zeros scratch).answer
      (next_take w Z cap zeros' scratch').answer (next_ledger v Y cap zeros scratch) (next_ledger w Z cap zeros' scratch')
      (subst (λ (n : ℕ). Decided k n f start Z.ledger (next_take v Y cap zeros scratch).answer
      (next_ledger v Y cap zeros scratch)) allowed_alike
      (subst (λ (L : Ledger). Decided k (allowed_next v Y cap zeros) f start L (next_take v Y cap zeros scratch).answer
      (next_ledger v Y cap zeros scratch)) same_ledger (decides v k f start Y S cap zeros scratch right)))
      (decides w k f start Z U cap zeros' scratch' right')

  pub takes-alike : TakesAlike
  takes-alike = go (bad_window_length v (length (lent_window Y zeros))) refl (eqb far (room + more)) refl
    where
      go : (a : Bool) → bad_window_length v (length (lent_window Y zeros)) ≡ a
          → (b : Bool) → eqb far (room + more) ≡ b → TakesAlike
      go true h b i =
          both-turned (λ r. true≢false (sym h ∙ r.0)) (λ r. true≢false (sym h ∙ wrong_alike ∙ r.0))
      go false h false i =
          let differ : far ≡ room + more → ⊥ = eqb-false far (room + more) i in
          both-turned (λ r. differ (as_many v far (room + more) (sym scratch_long ∙ r.1 ∙ lent_long)))
          (λ r. differ (as_many w far (room + more) (sym scratch_long' ∙ r.1 ∙ lent_long')))
      go false h true i =
          let e : far ≡ room + more = eqb-true far (room + more) i in
          both-decided (h, scratch_long ∙ ap (λ (n : ℕ). n * frontier_length v) e ∙ sym lent_long)
          (sym wrong_alike ∙ h, scratch_long' ∙ ap (λ (n : ℕ). n * frontier_length w) e ∙ sym lent_long')
