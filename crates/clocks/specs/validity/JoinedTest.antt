-- The test of the rule by the join says what the rule says, for a history of k processes, and looks at the first n
-- clocks only.
use Rattle.std.specs.Prelude.{ℕ, ◌+◌, ◌≤◌, ◌<◌, ◌≡◌, refl, Bool, List, ◌↔◌, T, eqb}
use Rattle.std.proofs.Common.{arith, eqb→eq, eq-eqb}
use Rattle.std.proofs.Math.Decide.{dec_lt}
use Rattle.clocks.specs.declared.Event.{Event}
use Rattle.clocks.specs.Event.{Cut, one, involved, count}
use Rattle.clocks.specs.History.{taken, last_clock}
use Rattle.clocks.specs.stored.BoundedLaws.{all_i, all_e, same_test}
use Rattle.clocks.specs.cuts.HistoryLaws.{event_numbered}
use Rattle.clocks.specs.cuts.CausalLaws.{clock_cases}
use Rattle.clocks.specs.stored.TestedLaws.{in_takeable}
use Rattle.clocks.specs.validity.JoinLaws.{join_least, join_same}
use Rattle.clocks.specs.Valid.{WellFormed, History}
use Rattle.clocks.specs.Joined.{join_to, joined_by}
use Rattle.clocks.specs.JoinedRule.{Joined}

-- ---- The last clocks count no process from k up, and so their join does not
last-silent : (k : ℕ) (valid : List Event → Event → Type 0) (ts : List Event) → History k valid ts → (p q : ℕ) → k ≤ q
    → last_clock ts p q ≡ 0
unfolding last_clock
last-silent k valid ts h p q l =
    clock_cases (λ x. x ≡ 0) ts p (taken ts p) q refl
    (λ f j. (in_takeable k valid ts h f (event_numbered ts p (taken ts p) f j).among).silent q l)

join_silent : (k : ℕ) (valid : List Event → Event → Type 0) (ts : List Event) → History k valid ts
    → (n : ℕ) (member : ℕ → Bool) (q : ℕ) → k ≤ q → join_to n member (last_clock ts) q ≡ 0
join_silent k valid ts h n member q l =
    omega (
      arith,
      join_least n member (last_clock ts) q 0
          (λ p j m. let z : last_clock ts p q ≡ 0 = last-silent k valid ts h p q l in omega arith),
    )

-- ---- Only the first n clocks, and their first n counts, matter
joined_at : ℕ → Event → (ℕ → Cut) → ℕ → Bool
joined_at n e last q = eqb (count e q) (join_to n (involved e) last q + one (involved e q))

pub joined_same : (n : ℕ) (e : Event) (last last' : ℕ → Cut) → ((p q : ℕ) → p < n → q < n → last p q ≡ last' p q)
    → joined_by n e last ≡ joined_by n e last'
unfolding joined_by joined_at
joined_same n e last last' h =
    same_test (joined_by n e last) (joined_by n e last')
    (λ t. all_i n (joined_at n e last') (λ q l. rw (← same q l) (all_e n (joined_at n e last) t q l)))
    (λ t. all_i n (joined_at n e last) (λ q l. rw (same q l) (all_e n (joined_at n e last') t q l)))
  where
    same : (q : ℕ) → q < n → join_to n (involved e) last q ≡ join_to n (involved e) last' q
    same q l = join_same n (involved e) last last' q (λ p j m. h p q j l)

-- ---- Theorem
pub joined_test : (k n : ℕ) (valid : List Event → Event → Type 0) (ts : List Event) → k ≤ n → History k valid ts
    → (e : Event) → WellFormed k e
    → T (joined_by n e (last_clock ts)) ↔ Joined n ts e
unfolding joined_by joined_at
joined_test k n valid ts fit h e w =
    (there, λ j. all_i n (joined_at n e (last_clock ts)) (λ q l. rw (eq-eqb _ _ (j.each q)) tt))
  where
    equal : T (joined_by n e (last_clock ts)) → (q : ℕ) → Dec (q < n)
        → count e q ≡ join_to n (involved e) (last_clock ts) q + one (involved e q)
    equal t q (yes l) = eqb→eq _ _ (all_e n (joined_at n e (last_clock ts)) t q l)
    equal t q (no l) =
        rw (w.below q (omega arith))
        (omega (arith, w.silent q (omega arith), join_silent k valid ts h n (involved e) q (omega arith)))

    there : T (joined_by n e (last_clock ts)) → Joined n ts e
    there t = record { each = λ q. equal t q (dec_lt q n) }
