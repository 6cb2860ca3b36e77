-- What the trial of the pending events comes to, for any test of a clock: the first ready one with a false clock or
-- with a window that fits, or none. Where their lowest processes ascend, they are tried as they stand.
use Rattle.std.specs.Prelude.{ℕ, suc, ◌+◌, ◌<◌, zero, ◌≡◌, Bool, cond, ◌⊎◌, ◌↔◌, get_or}
use Rattle.std.proofs.Common.{arith, sym, ap, ◌∙◌}
use Rattle.std.proofs.Math.Path.{refl, subst}
use Rattle.std.proofs.Math.Bool.{true, false}
use mathlib.Core.List.Memᴰ
use mathlib.Core.List.{List, [], ◌∷◌, Memᴰ}
use Rattle.std.proofs.Math.Logic.{inl, inr, ⊎_elim}
use Rattle.std.proofs.Math.Dec.{T}
use Rattle.std.proofs.Math.ListN.{length}
use Rattle.frontiers.specs.declared.Frontier.{Frontier}
use Rattle.clocks.specs.declared.Event.{Event}
use Rattle.window.specs.Step.{fits}
use Rattle.clocks.specs.cuts.EventLaws.{true-T, T_true}
use Rattle.clocks.specs.Counts.{list_of}
use Rattle.clocks.specs.stored.CountsLaws.{length-list_of, get_d_list_of}
use Rattle.frontiers.specs.ListLaws.{place_member}
use Rattle.records.specs.Record.{ready_in, pending_count, pending_at, pending_events}
use Rattle.trial.specs.Trial.{setting_in, in_turn, Decision, undecided, false_clock, chosen, tried, trial_by}
use Rattle.trial.specs.TurnLaws.{ascending, up_from, turn_below, turn_stands}

-- The events of a list tried as they stand, their numbers counted from i.
unfoldable pub walked : (w : ℕ) (s : List ℕ) (valid : Event → Bool) (allowed : ℕ) (fs : List Frontier) (i : ℕ)
    (seen : Bool) (es : List Event) → Decision
walked w s valid allowed fs i seen [] = undecided seen
walked w s valid allowed fs i seen (e ∷ es) =
    cond (ready_in w s e)
    (cond (valid e)
    (cond (fits (setting_in w s e) allowed fs) (chosen i) (walked w s valid allowed fs (i + 1) true es))
    (false_clock i))
    (walked w s valid allowed fs (i + 1) seen es)

-- The event decides nothing: where it is ready, its clock is valid and its window does not fit.
abbrev pub Indecisive : ℕ → List ℕ → (Event → Bool) → ℕ → List Frontier → Event → Type 0
Indecisive w s valid allowed fs e = T (ready_in w s e) → T (valid e) × (fits (setting_in w s e) allowed fs ≡ false)

pub data Outcome (w : ℕ) (s : List ℕ) (valid : Event → Bool) (allowed : ℕ) (fs : List Frontier) (i : ℕ) (seen : Bool)
    (es : List Event) (d : Event) : Type 0 where
  none_decides : (after : Bool) → walked w s valid allowed fs i seen es ≡ undecided after
      → ((e : Event) → Memᴰ e es → Indecisive w s valid allowed fs e)
      → (T after ↔ (T seen ⊎ ((e : Event) × Memᴰ e es × T (ready_in w s e))))
      → Outcome w s valid allowed fs i seen es d
  falsifies : (j : ℕ) → j < length es → walked w s valid allowed fs i seen es ≡ false_clock (i + j)
      → T (ready_in w s (get_or es j d)) → valid (get_or es j d) ≡ false
      → ((h : ℕ) → h < j → Indecisive w s valid allowed fs (get_or es h d)) → Outcome w s valid allowed fs i seen es d
  chooses : (j : ℕ) → j < length es → walked w s valid allowed fs i seen es ≡ chosen (i + j)
      → T (ready_in w s (get_or es j d)) → T (valid (get_or es j d)) → T (fits (setting_in w s (get_or es j d)) allowed fs)
      → ((h : ℕ) → h < j → Indecisive w s valid allowed fs (get_or es h d)) → Outcome w s valid allowed fs i seen es d

module _ (w : ℕ) (s : List ℕ) (valid : Event → Bool) (allowed : ℕ) (fs : List Frontier) (d : Event) where
  one_more : (e : Event) (es : List Event) (j : ℕ) → Indecisive w s valid allowed fs e
      → ((x : ℕ) → x < j → Indecisive w s valid allowed fs (get_or es x d)) → (x : ℕ) → x < suc j
      → Indecisive w s valid allowed fs (get_or (e ∷ es) x d)
  one_more e es j a b zero m = a
  one_more e es j a b (suc x) m = b x (omega arith)

  -- the first event decides nothing, so what the rest comes to is what the whole does
  passed_over : (i : ℕ) (seen seen' : Bool) (e : Event) (es : List Event)
      → walked w s valid allowed fs i seen (e ∷ es) ≡ walked w s valid allowed fs (i + 1) seen' es
      → Indecisive w s valid allowed fs e → (T seen' ↔ (T seen ⊎ T (ready_in w s e)))
      → Outcome w s valid allowed fs (i + 1) seen' es d → Outcome w s valid allowed fs i seen (e ∷ es) d
  passed_over i seen seen' e es q h g (none_decides after t u o) = none_decides after (q ∙ t)
      (λ f m r. ⊎_elim (λ x. rw x (h (rw x at r))) (λ n. u f n r) (Memᴰ.cases_cons m)) (
        (λ a. ⊎_elim (λ x. ⊎_elim (λ y. inl y) (λ y. inr (e, Memᴰ.head refl, y)) (g.0 x))
            (λ x. inr (x.0, Memᴰ.tail x.1, x.2)) (o.0 a)),
        ⊎_elim (λ a. o.1 (inl (g.1 (inl a))))
            (λ x. ⊎_elim (λ y. o.1 (inl (g.1 (inr (rw y at x.2))))) (λ y. o.1 (inr (x.0, y, x.2)))
            (Memᴰ.cases_cons x.1)),
      )
  passed_over i seen seen' e es q h g (falsifies j l t r n u) =
      falsifies (suc j) (omega arith) (q ∙ t ∙ ap false_clock (omega arith)) r n (one_more e es j h u)
  passed_over i seen seen' e es q h g (chooses j l t r a f u) =
      chooses (suc j) (omega arith) (q ∙ t ∙ ap chosen (omega arith)) r a f (one_more e es j h u)

  pub outcome : (i : ℕ) (seen : Bool) (es : List Event) → Outcome w s valid allowed fs i seen es d
  unfolding walked
  outcome i seen [] =
      none_decides seen refl (λ e m. absurd (Memᴰ.not-nil m))
      ((λ t. inl t), ⊎_elim (λ t. t) (λ x. absurd (Memᴰ.not-nil x.1)))
  outcome i seen (e ∷ es) =
      go (ready_in w s e) refl (valid e) refl (fits (setting_in w s e) allowed fs) refl (λ b. outcome (i + 1) b es)
    where
      go : (a : Bool) → ready_in w s e ≡ a → (b : Bool) → valid e ≡ b → (c : Bool)
          → fits (setting_in w s e) allowed fs ≡ c
          → ((seen' : Bool) → Outcome w s valid allowed fs (i + 1) seen' es d)
          → Outcome w s valid allowed fs i seen (e ∷ es) d
      go false p b q c t rest =
          passed_over i seen seen e es (rw p) (λ x. absurd (subst T p x))
          ((λ x. inl x), ⊎_elim (λ x. x) (λ x. absurd (subst T p x))) (rest seen)
      go true p false q c t rest =
          falsifies 0 (omega arith) (rw (p, q) (ap false_clock (omega arith))) (true-T p) q
          (λ x m. absurd (omega arith))
      go true p true q true t rest =
          chooses 0 (omega arith) (rw (p, q, t) (ap chosen (omega arith))) (true-T p) (true-T q) (true-T t)
          (λ x m. absurd (omega arith))
      go true p true q false t rest =
          passed_over i seen true e es (rw (p, q, t)) (λ x. (true-T q, t)) ((λ x. inr (true-T p)), λ x. tt) (rest true)

-- ---- As they stand

standing : (w : ℕ) (s : List ℕ) (valid : Event → Bool) (allowed : ℕ) (fs : List Frontier) (seen : Bool) (n i : ℕ)
    (f : ℕ → Event)
    → ((j : ℕ) → f j ≡ pending_at w s (i + j))
    → tried w s valid allowed fs seen (up_from n i) ≡ walked w s valid allowed fs i seen (list_of n f)
unfolding tried walked up_from list_of
standing w s valid allowed fs seen zero i f same = refl
standing w s valid allowed fs seen (suc n) i f same =
    let here : pending_at w s i ≡ f 0 = ap (pending_at w s) (omega arith) ∙ sym (same 0) in
    let rest : (b : Bool) → tried w s valid allowed fs b (up_from n (i + 1))
    ≡ walked w s valid allowed fs (i + 1) b (list_of n (λ p. f (suc p))) =
    λ b. standing w s valid allowed fs b n (i + 1) (λ p. f (suc p))
    (λ j. same (suc j) ∙ ap (pending_at w s) (omega arith)) in
    rw (here, rest true, rest seen)

-- Where their lowest processes ascend, the events are tried as they stand.
pub as_they_stand : (w : ℕ) (s : List ℕ) (valid : Event → Bool) (allowed : ℕ) (fs : List Frontier)
    → T (ascending 0 (pending_events w s))
    → trial_by w s valid allowed fs ≡ walked w s valid allowed fs 0 false (pending_events w s)
unfolding pending_events
as_they_stand w s valid allowed fs a =
    ap (tried w s valid allowed fs false) (turn_stands (pending_events w s) a)
    ∙ ap (λ (n : ℕ). tried w s valid allowed fs false (up_from n 0)) (length-list_of (pending_count s) (pending_at w s))
    ∙ standing w s valid allowed fs false (pending_count s) 0 (pending_at w s) (λ j. ap (pending_at w s) (omega arith))

-- ---- On any bytes

-- What a decision says of the event that it names.
abbrev pub Right : (w : ℕ) (s : List ℕ) (valid : Event → Bool) (allowed : ℕ) (fs : List Frontier) → Decision → Type 0
Right w s valid allowed fs (undecided seen) = Unit {0}
Right w s valid allowed fs (false_clock i) =
    (i < pending_count s) × T (ready_in w s (pending_at w s i)) × (valid (pending_at w s i) ≡ false)
Right w s valid allowed fs (chosen i) =
    (i < pending_count s)
    × T (ready_in w s (pending_at w s i))
    × T (valid (pending_at w s i))
    × T (fits (setting_in w s (pending_at w s i)) allowed fs)

tried_right : (w : ℕ) (s : List ℕ) (valid : Event → Bool) (allowed : ℕ) (fs : List Frontier) (seen : Bool)
    (places : List ℕ)
    → ((i : ℕ) → Memᴰ i places → i < pending_count s)
    → Right w s valid allowed fs (tried w s valid allowed fs seen places)
unfolding tried
tried_right w s valid allowed fs seen [] below = tt
tried_right w s valid allowed fs seen (i ∷ is) below =
    go (ready_in w s e) refl (valid e) refl (fits (setting_in w s e) allowed fs) refl
    (λ b. tried_right w s valid allowed fs b is (λ j m. below j (Memᴰ.tail m)))
  where
    e : Event
    e = pending_at w s i

    go : (a : Bool) → ready_in w s e ≡ a → (b : Bool) → valid e ≡ b → (c : Bool) → fits (setting_in w s e) allowed fs ≡ c
        → ((seen' : Bool) → Right w s valid allowed fs (tried w s valid allowed fs seen' is))
        → Right w s valid allowed fs (tried w s valid allowed fs seen (i ∷ is))
    go false p b q c t rest = rw p (rest seen)
    go true p false q c t rest = rw (p, q) (below i (Memᴰ.head refl), true-T p, q)
    go true p true q true t rest = rw (p, q, t) (below i (Memᴰ.head refl), true-T p, true-T q, true-T t)
    go true p true q false t rest = rw (p, q, t) (rest true)

-- Every number in turn is that of a pending event.
pub pending_below : (w : ℕ) (s : List ℕ) (i : ℕ) → Memᴰ i (in_turn (pending_events w s)) → i < pending_count s
unfolding pending_events
pending_below w s i m =
    let n = turn_below 9 0 0 (pending_events w s) i m in
    omega (arith, length-list_of (pending_count s) (pending_at w s))

pub trial_right : (w : ℕ) (s : List ℕ) (valid : Event → Bool) (allowed : ℕ) (fs : List Frontier)
    → Right w s valid allowed fs (trial_by w s valid allowed fs)
trial_right w s valid allowed fs =
    tried_right w s valid allowed fs false (in_turn (pending_events w s)) (pending_below w s)

-- ---- Two tests of a clock

same-tried : (w : ℕ) (s : List ℕ) (valid valid' : Event → Bool) (allowed : ℕ) (fs : List Frontier) (seen : Bool)
    (places : List ℕ)
    → ((i : ℕ) → Memᴰ i places → T (ready_in w s (pending_at w s i)) → T (valid (pending_at w s i))
    → T (valid' (pending_at w s i)))
    → ((j : ℕ) → tried w s valid allowed fs seen places ≡ false_clock j → ⊥)
    → tried w s valid allowed fs seen places ≡ tried w s valid' allowed fs seen places
unfolding tried
same-tried w s valid valid' allowed fs seen [] more none = refl
same-tried w s valid valid' allowed fs seen (i ∷ is) more none =
    go (ready_in w s e) refl (valid e) refl (fits (setting_in w s e) allowed fs) refl
    (λ b. same-tried w s valid valid' allowed fs b is (λ j m. more j (Memᴰ.tail m)))
  where
    e : Event
    e = pending_at w s i

    go : (a : Bool) → ready_in w s e ≡ a → (b : Bool) → valid e ≡ b → (c : Bool) → fits (setting_in w s e) allowed fs ≡ c
        → ((seen' : Bool) → ((j : ℕ) → tried w s valid allowed fs seen' is ≡ false_clock j → ⊥)
        → tried w s valid allowed fs seen' is ≡ tried w s valid' allowed fs seen' is)
        → tried w s valid allowed fs seen (i ∷ is) ≡ tried w s valid' allowed fs seen (i ∷ is)
    go false p b q c t rest = rw p (rest seen (λ j h. none j (rw p h)))
    go true p false q c t rest = absurd (none i (rw (p, q)))
    go true p true q true t rest = rw (p, q, t, T_true (valid' e) (more i (Memᴰ.head refl) (true-T p) (true-T q)))
    go true p true q false t rest =
        rw (p, q, t, T_true (valid' e) (more i (Memᴰ.head refl) (true-T p) (true-T q)))
        (rest true (λ j h. none j (rw (p, q, t) h)))

-- Where a test lets pass every ready event that another does, a trial by the other that meets no false clock is a trial
-- by it.
pub same-trial : (w : ℕ) (s : List ℕ) (valid valid' : Event → Bool) (allowed : ℕ) (fs : List Frontier)
    → ((e : Event) → Memᴰ e (pending_events w s) → T (ready_in w s e) → T (valid e) → T (valid' e))
    → ((j : ℕ) → trial_by w s valid allowed fs ≡ false_clock j → ⊥)
    → trial_by w s valid allowed fs ≡ trial_by w s valid' allowed fs
same-trial w s valid valid' allowed fs more none =
    same-tried w s valid valid' allowed fs false (in_turn (pending_events w s))
    (λ i m. more (pending_at w s i) (member i (pending_below w s i m))) none
  where
    member : (i : ℕ) → i < pending_count s → Memᴰ (pending_at w s i) (pending_events w s)
    member i l =
        unfold pending_events in
        (let long : i < length (list_of (pending_count s) (pending_at w s)) =
        omega (arith, length-list_of (pending_count s) (pending_at w s)) in
        subst (λ (e : Event). Memᴰ e (list_of (pending_count s) (pending_at w s)))
        (get_d_list_of (pending_count s) (pending_at w s) i (pending_at w s 0) l)
        (place_member (list_of (pending_count s) (pending_at w s)) i (pending_at w s 0) long))
