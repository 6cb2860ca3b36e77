-- A close in a watch that shares, by its tests: what is true of every one.
use Rattle.std.specs.Prelude.{ℕ, refl, Bool, false, List, ◌⊎◌, length}
use native.Mathlib.Omega.{arith}
use Rattle.std.proofs.Math.Path.{◌≡◌, sym}
use Rattle.std.proofs.Common.{ap, ◌∙◌, inl, inr, lit<}
use Rattle.records.specs.Record.{process_count, closed_mask, pending_events}
use Rattle.refusals.specs.Refusals.{room_of, bad_state, not_open, named_by}
use Rattle.answers.specs.Answer.{turned_back, process_closed}
use Rattle.answers.specs.Turns.{by_test}
use Rattle.call_open.specs.OpenTheorem.{lengths_i}
use Rattle.call_close.specs.Close.{Closed, close_process, close_call}
use Rattle.call_close.specs.CloseCases.{Case, close_case, turned, accepted}
use Rattle.call_close.specs.CloseReplies.{CloseTold}
use Rattle.call_close.specs.CloseReplyLaws.{turned_told, replies_tell}
use Rattle.call_shared.specs.Shared.{Shared, shared_close}
use Rattle.call_shared.specs.SharedExact.{Shareless, RightlyPooled, SharedCloseExact, SharedCloseIsExact, Unfit}
use Rattle.call_shared.specs.SettledLaws.{close_settled}
use Rattle.call_shared.specs.SharedLaws.{Kind, closes, not_either, share_below, wrong_lengths, right_i, right_e, unfit, unfit_exact, unfit_parts, good_watch, Neither, went, by_tests, Judged, length_exact, state_exact, passes, other_exact, pool_by_lem}
use Rattle.call_shared.specs.SharedLaws as laws

module _ (w p : ℕ) (s window pool : List ℕ) (i : ℕ) where
  abbrev K : Kind Closed
  K = closes s window

  abbrev plain : Closed
  plain = close_call w p s window

  abbrev wrong : Bool
  wrong = wrong_lengths w s window pool

  abbrev bad : Bool
  bad = unfit w s window pool i

  -- 41, 42 or done.
  neither : RightlyPooled w s window pool → bad ≡ false → Neither plain.answer
  unfolding close_call close_process
  neither right sound =
      let P : Closed → Type 0 = λ c. Neither c.answer in
      rw (lengths_i w s window right.0, (unfit_parts w s window pool i sound).0)
      (by_test P (not_open (process_count s) (closed_mask s) p) (K.back 41) _ (λ _. other 41 (inl refl)) λ _.
      by_test P (named_by p (pending_events w s)) (K.back 42) _ (λ _. other 42 (inr refl)) λ _ n by e.
      let z : ◌≡◌ {A = ℕ} 0 1 = cc in
      absurd (omega arith))
    where
      other : (m : ℕ) → (m ≡ 41) ⊎ (m ≡ 42) → Neither (turned_back m 0)
      other m (inl a) n (inl b) e = let z : m ≡ n = cc in omega arith
      other m (inl a) n (inr b) e = let z : m ≡ n = cc in omega arith
      other m (inr a) n (inl b) e = let z : m ≡ n = cc in omega arith
      other m (inr a) n (inr b) e = let z : m ≡ n = cc in omega arith

  told : CloseTold (by_tests K pool i wrong bad plain).call.answer
  told =
      let P : Shared Closed → Type 0 = λ r. CloseTold r.call.answer in
      by_test P wrong (laws.turned K pool i 6) _ (λ _. turned_told 6 (lit< tt) (lit< tt)) λ _.
      by_test P bad (laws.turned K pool i 34) (went K pool i plain) (λ _. turned_told 34 (lit< tt) (lit< tt)) λ _.
      replies_tell w p s window

  abbrev Left : Shared Closed → Type 0
  Left r = (n place : ℕ) → r.call.answer ≡ turned_back n place → (r.call.bytes ≡ s) × (r.call.window ≡ window)

  plain_left : (c : Closed) → Case w p s window c → (n place : ℕ) → c.answer ≡ turned_back n place
      → (c.bytes ≡ s) × (c.window ≡ window)
  unfolding close_process
  plain_left c (turned m some small other q) n place e = (rw q, rw q)
  plain_left c (accepted o named q) n place e =
      let same : process_closed _ ≡ turned_back n place = sym (ap (λ (d : Closed). d.answer) q) ∙ e in
      let z : ◌≡◌ {A = ℕ} 0 1 = cc in
      absurd (omega arith)

  left : Left (by_tests K pool i wrong bad plain)
  left =
      by_test Left wrong (laws.turned K pool i 6) _ (λ _ n place q. (refl, refl)) λ _.
      by_test Left bad (laws.turned K pool i 34) (went K pool i plain) (λ _ n place q. (refl, refl)) λ _.
      plain_left plain (close_case w p s window)

  abbrev Right : Type 0
  Right = RightlyPooled w s window pool

  judged : Judged K pool i wrong bad plain Right (Unfit w s window pool i)
  judged = record {
    lengths = (right_e w s window pool, right_i w s window pool);
    state = unfit_exact w s window pool i;
    pool_long = λ right. right.1;
    member = λ sound. share_below pool i (unfit_parts w s window pool i sound).1;
    neither = neither;
    settled = λ right sound. close_settled w p s window (good_watch w s window pool i right sound);
  }

  exact : SharedCloseExact w p s window pool i (by_tests K pool i wrong bad plain)
  exact = record {
    wrong_length = length_exact K pool i wrong bad plain Right (Unfit w s window pool i) judged;
    no_share = state_exact K pool i wrong bad plain Right (Unfit w s window pool i) judged;
    else_plain = λ lengths sound share.
        passes K pool i wrong bad plain Right (Unfit w s window pool i) judged lengths
        (not_either (bad_state w (room_of w (length window)) s) (Shareless pool i) sound share);
    else_exactly = other_exact K pool i wrong bad plain Right (Unfit w s window pool i) judged;
    refused_leaves = left;
    pool_exact = pool_by_lem K pool i wrong bad plain Right (Unfit w s window pool i) judged;
    told = told;
  }

-- ---- Theorem

pub shared_close_exact : SharedCloseIsExact
unfolding shared_close
shared_close_exact w p s window pool i = exact w p s window pool i
