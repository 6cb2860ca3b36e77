-- A shared call, of whichever kind, by its two tests: the refusals exactly if, and what it makes of the pool.
use Rattle.std.specs.Prelude.{ℕ, ◌<◌, ◌≡◌, refl, Bool, true, false, cond, ◌||◌, List, ◌⊎◌, ◌↔◌, ◌≢◌, leb, eqb, length}
use Rattle.std.proofs.Common.{arith, sym, ◌∙◌, true≢false, inl, inr, ⊎_elim}
use Rattle.std.proofs.Math.Bool.{or_assoc}
use borrow.Author.Tests.{eqb-true, eq-eqb, leb-true, le-leb, leb-false}
use Rattle.clocks.specs.stored.BoundedLaws.{or-false_e}
use Rattle.refusals.specs.Refusals.{bad_record_length, bad_window_length, room_of, bad_state}
use Rattle.refusals.specs.FaultLaws.{Good, tests_good}
use Rattle.answers.specs.Answer.{Answer, turned_back}
use Rattle.pool.specs.Pool.{share_at, bad_pool_length, no_share}
use Rattle.pool.specs.PoolLaws.{brought_length, kept_own, other_bytes, length_right}
use Rattle.call_open.specs.Open.{Opened}
use Rattle.call_open.specs.OpenTheorem.{lengths_i, lengths_e}
use Rattle.call_take.specs.Take.{Taken}
use Rattle.call_close.specs.Close.{Closed}
use Rattle.call_shared.specs.Shared.{Shared, pool_after}
use Rattle.call_shared.specs.SharedExact.{Shareless, RightlyPooled, Unfit, PoolExact}
use Rattle.call_shared.specs.SettledLaws.{Settled}

-- ---- Kinds of calls

-- What they answer and leave in the record, and what one that is turned back does.
pub record Kind (A : Type 0) : Type 0 where
  pub answer : A → Answer
  pub bytes : A → List ℕ
  pub back : ℕ → A
  pub refuses : (n : ℕ) → answer (back n) ≡ turned_back n 0

abbrev pub opens : (s window : List ℕ) → Kind Opened
opens s window = record {
  answer = λ o. o.answer;
  bytes = λ o. o.bytes;
  back = λ n. record { answer = turned_back n 0; bytes = s; window = window };
  refuses = λ n. refl;
}

abbrev pub takes : (s window scratch : List ℕ) → Kind Taken
takes s window scratch = record {
  answer = λ t. t.answer;
  bytes = λ t. t.bytes;
  back = λ n. record { answer = turned_back n 0; bytes = s; window = window; scratch = scratch };
  refuses = λ n. refl;
}

abbrev pub closes : (s window : List ℕ) → Kind Closed
closes s window = record {
  answer = λ c. c.answer;
  bytes = λ c. c.bytes;
  back = λ n. record { answer = turned_back n 0; bytes = s; window = window };
  refuses = λ n. refl;
}

-- ---- The tests, by what they ask for

-- One of two tests.
either : (a b : Bool) (B : Type 0) → (b ≡ true) ↔ B → ((a || b) ≡ true) ↔ ((a ≡ true) ⊎ B)
either true b B t = (λ _. inl refl, λ _. refl)
either false b B t = (λ h. inr (t.0 h), ⊎_elim (λ h. absurd (true≢false (sym h))) (λ x. t.1 x))

pub not_either : (a : Bool) (B : Type 0) → a ≡ false → (B → ⊥) → (a ≡ true) ⊎ B → ⊥
not_either a B e f (inl h) = true≢false (sym h ∙ e)
not_either a B e f (inr b) = f b

pub shareless : (pool : List ℕ) (i : ℕ) → (no_share pool i ≡ true) ↔ Shareless pool i
unfolding no_share
shareless pool i = (above (leb 8 i) refl, one)
  where
    above : (b : Bool) → leb 8 i ≡ b → (b || eqb (share_at pool i) 0) ≡ true → Shareless pool i
    above true e h = inl (leb-true 8 i e)
    above false e h = inr (eqb-true (share_at pool i) 0 h)

    or_right : (b : Bool) → (b || true) ≡ true
    or_right true = refl
    or_right false = refl

    one : Shareless pool i → (leb 8 i || eqb (share_at pool i) 0) ≡ true
    one (inl l) = rw (le-leb 8 i l)
    one (inr e) = rw (eq-eqb (share_at pool i) 0 e) (or_right (leb 8 i))

pub share_below : (pool : List ℕ) (i : ℕ) → no_share pool i ≡ false → i < 8
unfolding no_share
share_below pool i h = leb-false 8 i (or-false_e (leb 8 i) (eqb (share_at pool i) 0) h).0

module _ (w : ℕ) (s window pool : List ℕ) where
  abbrev pub wrong_lengths : Bool
  wrong_lengths =
      bad_record_length w (length s) || (bad_window_length w (length window) || bad_pool_length (length pool))

  pub right_i : RightlyPooled w s window pool → wrong_lengths ≡ false
  unfolding bad_pool_length
  right_i h =
      rw (
        ← or_assoc (bad_record_length w (length s)) (bad_window_length w (length window)) (bad_pool_length (length pool)),
        lengths_i w s window h.0,
        eq-eqb (length pool) 32 h.1,
      )

  pub right_e : wrong_lengths ≡ false → RightlyPooled w s window pool
  right_e h =
      let a = bad_record_length w (length s) in
      let b = bad_window_length w (length window) in
      let parts = or-false_e (a || b) (bad_pool_length (length pool)) (or_assoc a b (bad_pool_length (length pool)) ∙ h) in
      (lengths_e w s window parts.0, length_right (length pool) parts.1)

  -- 34 of take and close: the state, or the number.
  module _ (i : ℕ) where
    abbrev pub unfit : Bool
    unfit = bad_state w (room_of w (length window)) s || no_share pool i

    pub unfit_exact : (unfit ≡ true) ↔ Unfit w s window pool i
    unfit_exact =
        either (bad_state w (room_of w (length window)) s) (no_share pool i) (Shareless pool i) (shareless pool i)

    pub unfit_parts : unfit ≡ false → (bad_state w (room_of w (length window)) s ≡ false) × (no_share pool i ≡ false)
    unfit_parts h = or-false_e (bad_state w (room_of w (length window)) s) (no_share pool i) h

    pub good_watch : RightlyPooled w s window pool → unfit ≡ false → Good w s (length window)
    good_watch right h =
        tests_good w s (length window) (lengths_i w s window right.0) (unfit_parts h).0

-- ---- The pool after a call that is not refused

pub settled_exact : (pool : List ℕ) (i : ℕ) (a : Answer) (s : List ℕ) → Settled a s → length pool ≡ 32 → i < 8
    → PoolExact pool i a s (pool_after pool i a s)
unfolding pool_after
settled_exact pool i a s settled long member = record {
  refused_leaves = λ n place e. rw e;
  kept_written = λ h. rw h (kept_own pool i _ long member (settled.few h));
  others_stay = λ h place low high. rw h (other_bytes pool i _ place low high);
  long = λ h. rw h (brought_length pool i _ ∙ long);
}

back_exact : (pool : List ℕ) (i : ℕ) (a : Answer) (n : ℕ) (s : List ℕ) → a ≡ turned_back n 0 → PoolExact pool i a s pool
back_exact pool i a n s e = rw e (record {
  refused_leaves = λ m place q. refl;
  kept_written = λ h. absurd (true≢false h);
  others_stay = λ h. absurd (true≢false h);
  long = λ h. absurd (true≢false h);
})

-- ---- A call by its tests

-- An answer that is neither 6 nor 34.
abbrev pub Neither : (a : Answer) → Type 0
Neither a = (n : ℕ) → (n ≡ 6) ⊎ (n ≡ 34) → a ≡ turned_back n 0 → ⊥

module _ {A : Type 0} (K : Kind A) (pool : List ℕ) (i : ℕ) where
  abbrev pub turned : ℕ → Shared A
  turned n = record { call = K.back n; pool = pool }

  abbrev pub went : A → Shared A
  went x = record { call = x; pool = pool_after pool i (K.answer x) (K.bytes x) }

  abbrev pub by_tests : (wrong bad : Bool) (x : A) → Shared A
  by_tests wrong bad x = cond wrong (turned 6) (cond bad (turned 34) (went x))

  -- What is known of a call: what its tests ask for, and what the plain call is where they let it pass.
  pub record Judged (wrong bad : Bool) (x : A) (Right Unfit : Type 0) : Type 0 where
    pub lengths : (wrong ≡ false) ↔ Right
    pub state : (bad ≡ true) ↔ Unfit
    pub pool_long : Right → length pool ≡ 32
    pub member : bad ≡ false → i < 8
    pub neither : Right → bad ≡ false → Neither (K.answer x)
    pub settled : Right → bad ≡ false → Settled (K.answer x) (K.bytes x)

  -- Turned back by one number, it is not by another.
  other_number : (m n : ℕ) → K.answer (K.back m) ≡ turned_back n 0 → m ≡ n
  other_number m n e = let same : turned_back m 0 ≡ turned_back n 0 = sym (K.refuses m) ∙ e in cc

  pub length_exact : (wrong bad : Bool) (x : A) (Right Unfit : Type 0) → Judged wrong bad x Right Unfit
      → (K.answer (by_tests wrong bad x).call ≡ turned_back 6 0) ↔ (Right → ⊥)
  length_exact true bad x Right Unfit j = (λ _ r. true≢false (j.lengths.1 r), λ _. K.refuses 6)
  length_exact false true x Right Unfit j =
      (λ e. absurd (omega (arith, other_number 34 6 e)), λ f. absurd (f (j.lengths.0 refl)))
  length_exact false false x Right Unfit j =
      (λ e. absurd (j.neither (j.lengths.0 refl) refl 6 (inl refl) e), λ f. absurd (f (j.lengths.0 refl)))

  pub state_exact : (wrong bad : Bool) (x : A) (Right Unfit : Type 0) → Judged wrong bad x Right Unfit
      → (K.answer (by_tests wrong bad x).call ≡ turned_back 34 0) ↔ (Right × Unfit)
  state_exact true bad x Right Unfit j =
      (λ e. absurd (omega (arith, other_number 6 34 e)), λ h. absurd (true≢false (j.lengths.1 h.0)))
  state_exact false true x Right Unfit j = (λ _. (j.lengths.0 refl, j.state.0 refl), λ _. K.refuses 34)
  state_exact false false x Right Unfit j = (
    λ e. absurd (j.neither (j.lengths.0 refl) refl 34 (inr refl) e),
    λ h. absurd (true≢false (sym (j.state.1 h.1))),
  )

  pub passes : (wrong bad : Bool) (x : A) (Right Unfit : Type 0) → Judged wrong bad x Right Unfit
      → Right → (Unfit → ⊥) → (by_tests wrong bad x).call ≡ x
  passes true bad x Right Unfit j r f = absurd (true≢false (j.lengths.1 r))
  passes false true x Right Unfit j r f = absurd (f (j.state.0 refl))
  passes false false x Right Unfit j r f = refl

  -- Every other answer is the plain call's.
  pub other_exact : (wrong bad : Bool) (x : A) (Right Unfit : Type 0) → Judged wrong bad x Right Unfit
      → (a : Answer) → a ≢ turned_back 6 0 → a ≢ turned_back 34 0
      → (K.answer (by_tests wrong bad x).call ≡ a) ↔ (Right × (Unfit → ⊥) × (K.answer x ≡ a))
  other_exact true bad x Right Unfit j a n6 n34 =
      (λ e. absurd (n6 (sym e ∙ K.refuses 6)), λ h. absurd (true≢false (j.lengths.1 h.0)))
  other_exact false true x Right Unfit j a n6 n34 =
      (λ e. absurd (n34 (sym e ∙ K.refuses 34)), λ h. absurd (h.1 (j.state.0 refl)))
  other_exact false false x Right Unfit j a n6 n34 =
      (λ e. (j.lengths.0 refl, (λ u. true≢false (sym (j.state.1 u))), e), λ h. h.2)

  pub pool_by_lem : (wrong bad : Bool) (x : A) (Right Unfit : Type 0) → Judged wrong bad x Right Unfit
      → let r = by_tests wrong bad x in PoolExact pool i (K.answer r.call) (K.bytes r.call) r.pool
  pool_by_lem true bad x Right Unfit j = back_exact pool i _ 6 _ (K.refuses 6)
  pool_by_lem false true x Right Unfit j = back_exact pool i _ 34 _ (K.refuses 34)
  pool_by_lem false false x Right Unfit j =
      let right = j.lengths.0 refl in
      settled_exact pool i _ _ (j.settled right refl) (j.pool_long right) (j.member refl)
