-- Find's answers by its reply word, case by case. A place fits the word's value: at most 1,024 frontiers are kept.
use Rattle.std.specs.Prelude.{ℕ, ◌+◌, ◌≤◌, ◌<◌, ◌≡◌, refl, List, false, ◌||◌, leb, length}
use Rattle.std.proofs.Common.{arith}
use Rattle.clocks.specs.stored.CountsLaws.{length-list_of}
use Rattle.frontiers.specs.declared.Frontier.{Frontier}
use Rattle.frontiers.specs.Bytes.{frontier_at, frontiers}
use Rattle.records.specs.Record.{line_total, kept_count}
use Rattle.refusals.specs.Refusals.{bad_record_length, bad_window_length, room_of, bad_state}
use Rattle.refusals.specs.RefusalLaws.{state-within}
use Rattle.answers.specs.Answer.{Answer, turned_back, found, absent, reply_word}
use Rattle.answers.specs.Turns.{by_test}
use Rattle.call_find.specs.Find.{find_from, find_call}
use Rattle.call_find.specs.FindLaws.{Finding, finding, first, nowhere}
use Rattle.call_find.specs.FindReplies.{FindTold, FindTells}

turned_told : (n : ℕ) → 0 < n → n < 256 → FindTold (turned_back n 0)
unfolding reply_word
turned_told n some small = record {
  found_exactly = λ i. (λ x. let z : ◌≡◌ {A = ℕ} 0 1 = cc in absurd (omega arith), λ x. absurd (omega (arith, x.0)));
  turned_exactly = λ m.
      (λ x. let z : n ≡ m = cc in (omega arith, omega arith), λ x. let z : n ≡ m = omega (arith, x.1) in rw z);
  absent_exactly = (λ x. let z : ◌≡◌ {A = ℕ} 0 1 = cc in absurd (omega arith), λ x. absurd (omega (arith, x)));
}

found_told : (i : ℕ) → i < 65536 → FindTold (found i)
unfolding reply_word
found_told i small = record {
  found_exactly = λ j.
      (λ x. let z : i ≡ j = cc in (omega arith, omega arith), λ x. let z : i ≡ j = omega (arith, x.1) in rw z);
  turned_exactly = λ m.
      (λ x. let z : ◌≡◌ {A = ℕ} 0 1 = cc in absurd (omega arith), λ x. absurd (omega (arith, x.0, x.1)));
  absent_exactly = (λ x. let z : ◌≡◌ {A = ℕ} 0 1 = cc in absurd (omega arith), λ x. absurd (omega (arith, x)));
}

absent_told : FindTold absent
unfolding reply_word
absent_told = record {
  found_exactly = λ i. (λ x. let z : ◌≡◌ {A = ℕ} 0 1 = cc in absurd (omega arith), λ x. absurd (omega (arith, x.0)));
  turned_exactly = λ m.
      (λ x. let z : ◌≡◌ {A = ℕ} 0 1 = cc in absurd (omega arith), λ x. absurd (omega (arith, x.0, x.1)));
  absent_exactly = (λ x. refl, λ x. refl);
}

search_told : (line : ℕ) (fs : List Frontier) (d : Frontier) → length fs ≤ 1024 → FindTold (find_from line 0 fs)
search_told line fs d few = go (finding line 0 fs d)
  where
    go : Finding line 0 fs d → FindTold (find_from line 0 fs)
    go (first j l q t n) = rw q (found_told (0 + j) (omega arith))
    go (nowhere q n) = rw q absent_told

few : (w : ℕ) (s window : List ℕ) → bad_state w (room_of w (length window)) s ≡ false
    → length (frontiers w window (kept_count s)) ≤ 1024
unfolding frontiers
few w s window good =
    rw (length-list_of (kept_count s) (frontier_at w window)) (state-within w (room_of w (length window)) s good).3

pub replies_tell : FindTells
unfolding find_call
replies_tell w line s window =
    let back : (n : ℕ) → Answer = λ n. turned_back n 0 in
    let six = bad_record_length w (length s) || bad_window_length w (length window) in
    by_test FindTold six (back 6) _ (λ _. turned_told 6 (omega arith) (omega arith)) λ _.
    by_test FindTold (bad_state w (room_of w (length window)) s) (back 34) _
    (λ _. turned_told 34 (omega arith) (omega arith))
    λ good.
    by_test FindTold (leb (line_total s) line) (back 11) _ (λ _. turned_told 11 (omega arith) (omega arith)) λ _.
    search_told line (frontiers w window (kept_count s)) (frontier_at w window 0) (few w s window good)
