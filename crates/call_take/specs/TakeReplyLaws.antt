-- A take's answers by its reply word, case by case. The number kept fits the word's value: it is 1 to 1,024.
use Rattle.std.specs.Prelude.{ℕ, ◌+◌, ◌*◌, ◌≤◌, ◌<◌, ◌/◌, ◌%◌, ◌≡◌, refl, Bool, true, false, List, ◌⊎◌, eqb}
use Rattle.std.proofs.Common.{arith, sym, inl, inr}
use Rattle.codec.specs.Little.{Bytes}
use Rattle.frontiers.specs.declared.Frontier.{Frontier}
use Rattle.frontiers.specs.Bytes.{frontiers}
use Rattle.window.specs.SteppedCount.{stepped_many}
use Rattle.records.specs.Record.{kept_count, taken_counts, pending_at}
use Rattle.trial.specs.Trial.{setting_in, undecided, false_clock, chosen}
use Rattle.answers.specs.Answer.{turned_back, state, nothing_ready, flag, reply_word, state_of}
use Rattle.call_take.specs.Take.{Taken, decided, take_capped}
use Rattle.call_take.specs.TakeCases.{Case, Taking, take_case, turned, none, falsified, takes}
use Rattle.call_take.specs.TakeReplies.{TakeTold, TakeTells}
use Rattle.call_take.specs.TakenCountsLaws.{counted-taken}

-- ---- An answer by its kind

pub turned_told : (w n : ℕ) (t : Taken) → t.answer ≡ turned_back n 0
    → (n ≡ 6) ⊎ ((n ≡ 34) ⊎ ((n ≡ 35) ⊎ (n ≡ 36))) → 0 < n → n < 256 → TakeTold w t
unfolding reply_word
turned_told w n t q by some small = rw q (record {
  nothing_exactly = (λ x. let z : ◌≡◌ {A = ℕ} 0 1 = cc in absurd (omega arith), λ x. absurd (omega (arith, x)));
  taken_exactly = λ counts truth kept.
      (λ x. let z : ◌≡◌ {A = ℕ} 0 1 = cc in absurd (omega arith), λ x. absurd (omega (arith, x.0, x.1)));
  few_kept = λ counts truth kept x. let z : ◌≡◌ {A = ℕ} 0 1 = cc in absurd (omega arith);
  turned_exactly = λ m.
      (λ x. let z : n ≡ m = cc in (omega arith, omega arith), λ x. let z : n ≡ m = omega (arith, x.1) in rw z);
  turned_by = λ m place x. let z : n ≡ m = cc in let p : 0 ≡ place = cc in (sym p, rw z at by);
  no_other = inr (inr (omega arith));
  one_flag = omega arith;
  no_place = omega arith;
})

nothing_told : (w : ℕ) (t : Taken) → t.answer ≡ nothing_ready → TakeTold w t
unfolding reply_word
nothing_told w t q = rw q (record {
  nothing_exactly = (λ x. refl, λ x. refl);
  taken_exactly = λ counts truth kept.
      (λ x. let z : ◌≡◌ {A = ℕ} 0 1 = cc in absurd (omega arith), λ x. absurd (omega (arith, x.0, x.1)));
  few_kept = λ counts truth kept x. let z : ◌≡◌ {A = ℕ} 0 1 = cc in absurd (omega arith);
  turned_exactly = λ m.
      (λ x. let z : ◌≡◌ {A = ℕ} 0 1 = cc in absurd (omega arith), λ x. absurd (omega (arith, x.0, x.1)));
  turned_by = λ m place x. let z : ◌≡◌ {A = ℕ} 0 1 = cc in absurd (omega arith);
  no_other = inl refl;
  one_flag = omega arith;
  no_place = omega arith;
})

-- The parts of an accepted take's word.
module _ (kept : ℕ) (few : kept ≤ 1024) where
  value_is : (b : Bool) → (256 * flag b + 65536 * kept) / 65536 % 65536 ≡ kept
  value_is true = omega arith
  value_is false = omega arith

  flag_is : (b : Bool) → eqb ((256 * flag b + 65536 * kept) / 256 % 256) 1 ≡ b
  flag_is true = let one : (256 * 1 + 65536 * kept) / 256 % 256 ≡ 1 = omega arith in rw one
  flag_is false = let none : (256 * 0 + 65536 * kept) / 256 % 256 ≡ 0 = omega arith in rw none

  number_is : (b : Bool) → (256 * flag b + 65536 * kept) % 256 ≡ 0
  number_is true = omega arith
  number_is false = omega arith

  flag_small : (b : Bool) → (256 * flag b + 65536 * kept) / 256 % 256 ≤ 1
  flag_small true = omega arith
  flag_small false = omega arith

  place_none : (b : Bool) → (256 * flag b + 65536 * kept) / 4294967296 ≡ 0
  place_none true = omega arith
  place_none false = omega arith

state_told : (w : ℕ) (t : Taken) (counts : List ℕ) (truth : Bool) (kept : ℕ) → t.answer ≡ state counts truth kept
    → 1 ≤ kept → kept ≤ 1024 → taken_counts w t.bytes ≡ counts → TakeTold w t
unfolding reply_word
state_told w t counts truth kept q some few c = rw q (record {
  nothing_exactly = (
    (λ x. let z : ◌≡◌ {A = ℕ} 0 1 = cc in absurd (omega arith)),
    (λ x. absurd (omega (arith, x))),
  );
  taken_exactly = λ counts' truth' kept'. (
    (λ x.
        let a : counts ≡ counts' = cc in
        let b : truth ≡ truth' = cc in
        let d : kept ≡ kept' = cc in
        (omega arith, rw (value_is kept few truth) d, rw (flag_is kept few truth) b, rw c a)),
    (λ x.
        let d : kept ≡ kept' = rw (value_is kept few truth) at x.1 in
        let b : truth ≡ truth' = rw (flag_is kept few truth) at x.2 in
        let a : counts ≡ counts' = rw c at x.3 in
        rw (a, b, d)),
  );
  few_kept = λ counts' truth' kept' x. let d : kept ≡ kept' = cc in omega arith;
  turned_exactly = λ m. (
    (λ x. let z : ◌≡◌ {A = ℕ} 0 1 = cc in absurd (omega arith)),
    (λ x. absurd (omega (arith, x.0, x.1, number_is kept few truth))),
  );
  turned_by = λ m place x. let z : ◌≡◌ {A = ℕ} 0 1 = cc in absurd (omega arith);
  no_other = inr (inl (rw (value_is kept few truth) some));
  one_flag = flag_small kept few truth;
  no_place = place_none kept few truth;
})

-- ---- A take by what it comes to

undecided_told : (w : ℕ) (s window : List ℕ) (fs : List Frontier) (seen : Bool)
    → TakeTold w (decided w s window fs (undecided seen))
unfolding decided
undecided_told w s window fs true =
    turned_told w 36 _ refl (inr (inr (inr refl))) (omega arith) (omega arith)
undecided_told w s window fs false = nothing_told w _ refl

falsified_told : (w : ℕ) (s window : List ℕ) (fs : List Frontier) (i : ℕ)
    → TakeTold w (decided w s window fs (false_clock i))
unfolding decided
falsified_told w s window fs i = turned_told w 35 _ refl (inr (inr (inl refl))) (omega arith) (omega arith)

taken_told : (w : ℕ) (s window : List ℕ) (fs : List Frontier) (i : ℕ) → Bytes s → Taking w s fs i
    → TakeTold w (decided w s window fs (chosen i))
unfolding decided state_of
taken_told w s window fs i b h =
    let many = stepped_many (setting_in w s (pending_at w s i)) fs in
    state_told w _ _ _ _ refl (rw many h.some) (rw many h.few) (counted-taken w s i _ b h.long h.ready)

-- ---- Theorem

pub replies_tell : TakeTells
replies_tell w cap s window scratch b = go (take_capped w cap s window scratch) (take_case w cap s window scratch)
  where
    fs : List Frontier
    fs = frontiers w window (kept_count s)

    go : (t : Taken) → Case w s window scratch fs t → TakeTold w t
    go t (turned n (inl x) q) = rw q (turned_told w n _ refl (inl x) (omega arith) (omega arith))
    go t (turned n (inr x) q) = rw q (turned_told w n _ refl (inr (inl x)) (omega arith) (omega arith))
    go t (none seen q) = rw q (undecided_told w s window fs seen)
    go t (falsified i q) = rw q (falsified_told w s window fs i)
    go t (takes i h q) = rw q (taken_told w s window fs i b h)
