-- Windows by the number of their frontiers, with counts of any width: what the calls ask of a window's length depends
-- on that number alone; and take and close leave a window as long as it was lent. By this the same calls are judged
-- alike in both forms.
use Prim.Native.Nat.{ℕ, ◌+◌, ◌-◌, ◌*◌, ◌<◌}
use native.Mathlib.Omega.{arith}
use Rattle.std.proofs.Math.Nat.{mul-div_cancel, mul-mod_left}
use Rattle.std.proofs.Common.{mul-lt-mul_of_pos_right, mul-le-mul_right, one-mul, add-mul, sym, ap₂, ◌∙◌, length-append, ltb-true, ltb-false, lt-ltb, le-ltb}
use Rattle.std.specs.Prelude.{◌≡◌, Bool, not, ◌||◌, List, ◌++◌, eqb, length, replicate}
use Rattle.std.proofs.Math.Path.{refl, ap}
use Rattle.std.proofs.Math.Bool.{true, false}
use Rattle.std.proofs.Math.Dec.{ltb}
use Rattle.std.proofs.lemmas.List.{length-replicate}
use Rattle.std.proofs.lemmas.List.Edits.{sets}
use Rattle.std.proofs.Math.Seq.{length-sets}
use Rattle.frontiers.specs.declared.Frontier.{Frontier}
use Rattle.frontiers.specs.Bytes.{frontier_length, framed, frontiers, replaced}
use Rattle.records.specs.Record.{kept_count}
use Rattle.refusals.specs.Refusals.{bad_record_length, bad_window_length, room_of, bad_state}
use Rattle.answers.specs.Answer.{turned_back}
use Rattle.answers.specs.Turns.{by_test}
use Rattle.trial.specs.Trial.{Decision, undecided, false_clock, chosen, trial}
use Rattle.call_take.specs.Take.{Taken, decided, take_within, allowed_of, take_capped}
use Rattle.call_close.specs.Close.{close_process, close_call}
use Rattle.call_close.specs.CloseCases as closing
use Rattle.call_close.specs.CloseCases.{CloseCase, close_case}

-- ---- A window of n frontiers

ltb_times : (m n F : ℕ) → 0 < F → ltb (m * F) (n * F) ≡ ltb m n
ltb_times m n F pos = go (ltb m n) refl
  where
    go : (b : Bool) → ltb m n ≡ b → ltb (m * F) (n * F) ≡ b
    go true h = lt-ltb (m * F) (n * F) (mul-lt-mul_of_pos_right (ltb-true m n h) pos)
    go false h = le-ltb (m * F) (n * F) (mul-le-mul_right F (ltb-false m n h))

module _ (w : ℕ) where
  some_bytes : 0 < frontier_length w
  unfolding frontier_length
  some_bytes = omega arith

  pub room_of_lem : (n : ℕ) → room_of w (n * frontier_length w) ≡ n
  unfolding room_of
  room_of_lem n = mul-div_cancel n some_bytes

  pub as_many : (m n : ℕ) → m * frontier_length w ≡ n * frontier_length w → m ≡ n
  as_many m n q = sym (room_of_lem m) ∙ ap (room_of w) q ∙ room_of_lem n

  -- its length is wrong exactly if it has none or more than 1,024
  pub bad_length : (n : ℕ) → bad_window_length w (n * frontier_length w) ≡ (ltb n 1 || ltb 1024 n)
  unfolding bad_window_length
  bad_length n =
      let F : ℕ = frontier_length w in
      let few : ltb (n * F) F ≡ ltb n 1 =
      ap (ltb (n * F)) (sym (one-mul F)) ∙ ltb_times n 1 F some_bytes in
      rw (few, ltb_times 1024 n F some_bytes, mul-mod_left n F) (either (ltb n 1) (ltb 1024 n))
    where
      either : (a b : Bool) → (a || (b || false)) ≡ (a || b)
      either true b = refl
      either false true = refl
      either false false = refl

  -- lent with zeros for more of them
  pub lent_more : (n more : ℕ) (window : List ℕ) → length window ≡ n * frontier_length w
      → length (window ++ replicate (more * frontier_length w) 0) ≡ (n + more) * frontier_length w
  lent_more n more window q =
      length-append window (replicate (more * frontier_length w) 0)
      ∙ ap₂ (λ (a b : ℕ). a + b) q (length-replicate (more * frontier_length w) 0)
      ∙ sym (add-mul n more (frontier_length w))

-- ---- What the calls leave

length-replaced : (w : ℕ) (s : List ℕ) (n : ℕ) (fs : List Frontier) → length (replaced w s n fs) ≡ length s
unfolding replaced
length-replaced w s n fs =
    length-sets (sets s 0 (framed w fs)) (length fs * frontier_length w)
    (replicate ((n - length fs) * frontier_length w) 0)
    ∙ length-sets s 0 (framed w fs)

length-decided : (w : ℕ) (s window : List ℕ) (fs : List Frontier) (d : Decision)
    → length (decided w s window fs d).window ≡ length window
unfolding decided
length-decided w s window fs (undecided seen) = refl
length-decided w s window fs (false_clock i) = refl
length-decided w s window fs (chosen i) = length-replaced w window (length fs) _

pub length_taken : (w cap : ℕ) (s window scratch : List ℕ)
    → length (take_capped w cap s window scratch).window ≡ length window
unfolding take_capped take_within
length_taken w cap s window scratch =
    let by = by_test (λ (t : Taken). length t.window ≡ length window) in
    let back : ℕ → Taken = λ n. record { answer = turned_back n 0; bytes = s; window = window; scratch = scratch } in
    let fs = frontiers w window (kept_count s) in
    let wrong = bad_window_length w (length window) || not (eqb (length scratch) (length window)) in
    by (bad_record_length w (length s) || wrong) (back 6) _ (λ _. refl) λ _.
    by (bad_state w (room_of w (length window)) s) (back 34) _ (λ _. refl) λ _.
    length-decided w s window fs (trial w s (allowed_of w cap window) fs)

pub length_closed : (w p : ℕ) (s window : List ℕ) → length (close_call w p s window).window ≡ length window
unfolding close_process
length_closed w p s window = go (close_case w p s window)
  where
    go : CloseCase w p s window → length (close_call w p s window).window ≡ length window
    go (closing.turned n some small other q) = rw q
    go (closing.accepted h41 h42 q) = rw q (length-replaced w window (length (frontiers w window (kept_count s))) _)
