-- A take of a watch that shares, by its tests: what is true of every one.
use Rattle.std.specs.Prelude.{ℕ, ◌≡◌, refl, Bool, true, false, not, ◌||◌, List, ◌⊎◌, ◌↔◌, eqb, length}
use Rattle.std.proofs.Common.{arith, inl, inr, lit<, eq-eqb, eqb-true}
use Rattle.std.proofs.lemmas.Bool.{not-false}
use Rattle.codec.specs.Little.{Bytes}
use Rattle.clocks.specs.stored.BoundedLaws.{or-false_e}
use Rattle.frontiers.specs.declared.Frontier.{Frontier}
use Rattle.frontiers.specs.Bytes.{frontiers}
use Rattle.records.specs.Record.{kept_count}
use Rattle.refusals.specs.Refusals.{bad_record_length, bad_window_length, room_of, bad_state}
use Rattle.trial.specs.Trial.{Decision, undecided, false_clock, chosen, trial}
use Rattle.answers.specs.Answer.{turned_back, state_of}
use Rattle.answers.specs.Turns.{by_test}
use Rattle.pool.specs.Pool.{bad_pool_length, allowance}
use Rattle.call_take.specs.Take.{Taken, bad_lengths, decided, take_within, allowed_of, take_capped}
use Rattle.call_take.specs.TakeReplies.{TakeTold}
use Rattle.call_take.specs.TakeReplyLaws.{turned_told, replies_tell}
use Rattle.call_shared.specs.Shared.{Shared, shared_take}
use Rattle.call_shared.specs.SharedExact.{Shareless, TakeLengths, SharedTakeExact, SharedTakeIsExact, Unfit}
use Rattle.call_shared.specs.SettledLaws.{take_settled}
use Rattle.call_shared.specs.SharedLaws.{Kind, takes, not_either, share_below, right_i, right_e, unfit, unfit_exact, unfit_parts, good_watch, Neither, turned, went, by_tests, Judged, length_exact, state_exact, passes, other_exact, pool_by_lem}

-- What a decision leads to is neither 6 nor 34.
decided-neither : (w : ℕ) (s window : List ℕ) (fs : List Frontier) (d : Decision)
    → Neither (decided w s window fs d).answer
unfolding decided state_of
decided-neither w s window fs (undecided true) n (inl e) q = let z : 36 ≡ n = cc in omega arith
decided-neither w s window fs (undecided true) n (inr e) q = let z : 36 ≡ n = cc in omega arith
decided-neither w s window fs (undecided false) n by q = let z : ◌≡◌ {A = ℕ} 0 1 = cc in omega arith
decided-neither w s window fs (false_clock i) n (inl e) q = let z : 35 ≡ n = cc in omega arith
decided-neither w s window fs (false_clock i) n (inr e) q = let z : 35 ≡ n = cc in omega arith
decided-neither w s window fs (chosen i) n by q = let z : ◌≡◌ {A = ℕ} 0 1 = cc in omega arith

module _ (w : ℕ) (s window scratch pool : List ℕ) (i : ℕ) where
  abbrev K : Kind Taken
  K = takes s window scratch

  abbrev plain : Taken
  plain = take_capped w (allowance pool i) s window scratch

  abbrev unlike : Bool
  unlike = not (eqb (length scratch) (length window))

  abbrev wrong : Bool
  wrong = bad_lengths w (length s) (length window) (length scratch) || bad_pool_length (length pool)

  abbrev bad : Bool
  bad = unfit w s window pool i

  -- ---- The tests, by what they ask for

  -- The four lengths.
  parts : wrong ≡ false → (bad_record_length w (length s) ≡ false) × (bad_window_length w (length window) ≡ false)
      × (unlike ≡ false) × (bad_pool_length (length pool) ≡ false)
  parts h =
      let lent = or-false_e (bad_lengths w (length s) (length window) (length scratch)) _ h in
      let a = or-false_e (bad_record_length w (length s)) (bad_window_length w (length window) || unlike) lent.0 in
      let b = or-false_e (bad_window_length w (length window)) unlike a.1 in
      (a.0, b.0, b.1, lent.1)

  right : (wrong ≡ false) ↔ TakeLengths w s window scratch pool
  right = (there, back)
    where
      there : wrong ≡ false → TakeLengths w s window scratch pool
      there h =
          let p = parts h in
          let same = eqb-true (length scratch) (length window) (not-false _ p.2) in
          (right_e w s window pool (rw (p.0, p.1, p.3)), same)

      back : TakeLengths w s window scratch pool → wrong ≡ false
      back x =
          let a = or-false_e (bad_record_length w (length s)) _ (right_i w s window pool x.0) in
          let b = or-false_e (bad_window_length w (length window)) (bad_pool_length (length pool)) a.1 in
          rw (a.0, b.0, b.1, eq-eqb (length scratch) (length window) x.1)

  -- ---- What the plain take is then

  neither : TakeLengths w s window scratch pool → bad ≡ false → Neither plain.answer
  unfolding take_capped take_within
  neither x sound n by q =
      let wrong_none = (or-false_e (bad_lengths w (length s) (length window) (length scratch)) _ (right.1 x)).0 in
      let fs = frontiers w window (kept_count s) in
      let goes : plain ≡ decided w s window fs (trial w s (allowed_of w (allowance pool i) window) fs) =
      rw (wrong_none, (unfit_parts w s window pool i sound).0) in
      decided-neither w s window fs _ n by (rw goes at q)

  told : Bytes s → TakeTold w (by_tests K pool i wrong bad plain).call
  told bytes =
      let P : Shared Taken → Type 0 = λ r. TakeTold w r.call in
      by_test P wrong (turned K pool i 6) _ (λ _. turned_told w 6 (K.back 6) refl (inl refl) (lit< tt) (lit< tt)) λ _.
      by_test P bad (turned K pool i 34) (went K pool i plain)
      (λ _. turned_told w 34 (K.back 34) refl (inr (inl refl)) (lit< tt) (lit< tt)) λ _.
      replies_tell w (allowance pool i) s window scratch bytes

  abbrev Left : Shared Taken → Type 0
  Left r =
      (n : ℕ) → (n ≡ 6) ⊎ (n ≡ 34) → r.call.answer ≡ turned_back n 0
      → (r.call.bytes ≡ s) × (r.call.window ≡ window) × (r.call.scratch ≡ scratch)

  left : Left (by_tests K pool i wrong bad plain)
  left =
      by_test Left wrong (turned K pool i 6) _ (λ _ n by q. (refl, refl, refl)) λ lengths.
      by_test Left bad (turned K pool i 34) (went K pool i plain) (λ _ n by q. (refl, refl, refl)) λ sound n by q.
      absurd (neither (right.0 lengths) sound n by q)

  abbrev Right : Type 0
  Right = TakeLengths w s window scratch pool

  judged : Judged K pool i wrong bad plain Right (Unfit w s window pool i)
  judged = record {
    lengths = right;
    state = unfit_exact w s window pool i;
    pool_long = λ x. x.0.1;
    member = λ sound. share_below pool i (unfit_parts w s window pool i sound).1;
    neither = neither;
    settled = λ x sound.
        take_settled w (allowance pool i) s window scratch (good_watch w s window pool i x.0 sound);
  }

  exact : SharedTakeExact w s window scratch pool i (by_tests K pool i wrong bad plain)
  exact = record {
    wrong_length = length_exact K pool i wrong bad plain Right (Unfit w s window pool i) judged;
    no_share = state_exact K pool i wrong bad plain Right (Unfit w s window pool i) judged;
    else_plain = λ lengths sound share.
        passes K pool i wrong bad plain Right (Unfit w s window pool i) judged lengths
        (not_either (bad_state w (room_of w (length window)) s) (Shareless pool i) sound share);
    else_exactly = other_exact K pool i wrong bad plain Right (Unfit w s window pool i) judged;
    unfit_leaves = left;
    pool_exact = pool_by_lem K pool i wrong bad plain Right (Unfit w s window pool i) judged;
    told = told;
  }

-- ---- Theorem

pub shared_take_exact : SharedTakeIsExact
unfolding shared_take
shared_take_exact w s window scratch pool i = exact w s window scratch pool i
