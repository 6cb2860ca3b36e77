-- An open of a watch that shares, by its tests: what is true of every one.
use Rattle.std.specs.Prelude.{ℕ, ◌≤◌, ◌<◌, ◌≡◌, refl, Bool, false, List, ◌⊎◌}
use Rattle.std.proofs.Common.{arith, inl, inr, lit<}
use Rattle.answers.specs.Answer.{turned_back}
use Rattle.answers.specs.Turns.{by_test}
use Rattle.pool.specs.Pool.{no_share}
use Rattle.call_open.specs.Open.{Opened, open_call}
use Rattle.call_open.specs.OpenReplyLaws.{turned-word, by_number, replies_tell}
use Rattle.call_open.specs.OpenTheorem.{open_exact}
use Rattle.call_shared.specs.Shared.{Shared, shared_open}
use Rattle.call_shared.specs.SharedExact.{Shareless, RightlyPooled, SharedOpenTold, SharedOpenExact, SharedOpenIsExact}
use Rattle.call_shared.specs.SettledLaws.{open_settled}
use Rattle.call_shared.specs.SharedLaws.{Kind, opens, shareless, share_below, wrong_lengths, right_i, right_e, Neither, turned, went, by_tests, Judged, length_exact, state_exact, passes, other_exact, pool_by_lem}

-- ---- What turns it back, by its number and place

abbrev Plainly : ℕ → ℕ → Type 0
Plainly n place = ((place ≡ 0) × ((n ≡ 6) ⊎ ((n ≡ 5) ⊎ (n ≡ 9)))) ⊎ ((1 ≤ n) × (n ≤ 4) × (place < 1024))

abbrev TurnedBy : ℕ → ℕ → Type 0
TurnedBy n place =
    ((place ≡ 0) × ((n ≡ 6) ⊎ ((n ≡ 34) ⊎ ((n ≡ 5) ⊎ (n ≡ 9))))) ⊎ ((1 ≤ n) × (n ≤ 4) × (place < 1024))

with_34 : (n : ℕ) → (n ≡ 6) ⊎ ((n ≡ 5) ⊎ (n ≡ 9)) → (n ≡ 6) ⊎ ((n ≡ 34) ⊎ ((n ≡ 5) ⊎ (n ≡ 9)))
with_34 n (inl e) = inl e
with_34 n (inr e) = inr (inr e)

widened : (n place : ℕ) → Plainly n place → TurnedBy n place
widened n place (inl x) = inl (x.0, with_34 n x.1)
widened n place (inr x) = inr x

none_34 : (n : ℕ) → n ≡ 34 → (n ≡ 6) ⊎ ((n ≡ 5) ⊎ (n ≡ 9)) → ⊥
none_34 n e (inl h) = omega arith
none_34 n e (inr (inl h)) = omega arith
none_34 n e (inr (inr h)) = omega arith

never_34 : (n place : ℕ) → n ≡ 34 → Plainly n place → ⊥
never_34 n place e (inl x) = none_34 n e x.1
never_34 n place e (inr x) = omega (arith, x.1)

-- ---- An open by its tests

module _ (w : ℕ) (text : List ℕ) (k : ℕ) (labels s window pool : List ℕ) (i : ℕ) where
  abbrev K : Kind Opened
  K = opens s window

  abbrev plain : Opened
  plain = open_call w text k labels s window

  abbrev wrong : Bool
  wrong = wrong_lengths w s window pool

  abbrev bad : Bool
  bad = no_share pool i

  neither : RightlyPooled w s window pool → bad ≡ false → Neither plain.answer
  neither right share n (inl e) q =
      (open_exact w text k labels s window).wrong_length.0 (rw e at q) right.0
  neither right share n (inr e) q = never_34 n 0 e ((replies_tell w text k labels s window).turned_by n 0 q)

  back_told : (n : ℕ) → (n ≡ 6) ⊎ ((n ≡ 34) ⊎ ((n ≡ 5) ⊎ (n ≡ 9))) → 0 < n → n < 256 → SharedOpenTold w (K.back n)
  back_told n by some small = record {
    word = turned-word w n 0 (K.back n) refl some small;
    turned_by = by_number TurnedBy n 0 (K.back n) refl (inl (refl, by));
  }

  told : SharedOpenTold w (by_tests K pool i wrong bad plain).call
  told =
      let P : Shared Opened → Type 0 = λ r. SharedOpenTold w r.call in
      let plain_told = replies_tell w text k labels s window in
      by_test P wrong (turned K pool i 6) _ (λ _. back_told 6 (inl refl) (lit< tt) (lit< tt)) λ _.
      by_test P bad (turned K pool i 34) (went K pool i plain)
      (λ _. back_told 34 (inr (inl refl)) (lit< tt) (lit< tt)) λ _.
      record { word = plain_told.word; turned_by = λ n place q. widened n place (plain_told.turned_by n place q) }

  abbrev Left : Shared Opened → Type 0
  Left r = (n place : ℕ) → r.call.answer ≡ turned_back n place → (r.call.bytes ≡ s) × (r.call.window ≡ window)

  left : Left (by_tests K pool i wrong bad plain)
  left =
      by_test Left wrong (turned K pool i 6) _ (λ _ n place q. (refl, refl)) λ _.
      by_test Left bad (turned K pool i 34) (went K pool i plain) (λ _ n place q. (refl, refl)) λ _.
      (open_exact w text k labels s window).refused_leaves

  abbrev Right : Type 0
  Right = RightlyPooled w s window pool

  judged : Judged K pool i wrong bad plain Right (Shareless pool i)
  judged = record {
    lengths = (right_e w s window pool, right_i w s window pool);
    state = shareless pool i;
    pool_long = λ right. right.1;
    member = share_below pool i;
    neither = neither;
    settled = λ right share. open_settled w text k labels s window;
  }

  exact : SharedOpenExact w text k labels s window pool i (by_tests K pool i wrong bad plain)
  exact = record {
    wrong_length = length_exact K pool i wrong bad plain Right (Shareless pool i) judged;
    no_share = state_exact K pool i wrong bad plain Right (Shareless pool i) judged;
    else_plain = passes K pool i wrong bad plain Right (Shareless pool i) judged;
    else_exactly = other_exact K pool i wrong bad plain Right (Shareless pool i) judged;
    refused_leaves = left;
    pool_exact = pool_by_lem K pool i wrong bad plain Right (Shareless pool i) judged;
    told = told;
  }

-- ---- Theorem

pub shared_open_exact : SharedOpenIsExact
unfolding shared_open
shared_open_exact w text k labels s window pool i = exact w text k labels s window pool i
