-- Close's answers by its reply word, case by case. The number kept fits the word's value: it is at most 1,024.
use Rattle.std.specs.Prelude.{ℕ, ◌≤◌, ◌<◌, ◌≡◌, List, Bool, false, ◌||◌, length}
use Rattle.std.proofs.Common.{arith}
use Rattle.clocks.specs.Counts.{at}
use Rattle.frontiers.specs.declared.Frontier.{Frontier}
use Rattle.frontiers.specs.Bytes.{frontiers}
use Rattle.frontiers.specs.WindowLaws.{length-frontiers}
use Rattle.window.specs.Step.{kept_by}
use Rattle.window.specs.Lists.{length-filtered}
use Rattle.records.specs.Record.{process_count, closed_mask, kept_count, taken_counts, pending_events}
use Rattle.refusals.specs.Refusals.{bad_record_length, bad_window_length, room_of, bad_state, not_open, named_by}
use Rattle.refusals.specs.RefusalLaws.{state-within}
use Rattle.answers.specs.Answer.{turned_back, process_closed, reply_word}
use Rattle.answers.specs.Turns.{by_test}
use Rattle.call_close.specs.Close.{Closed, closing, remaining, close_process, close_call}
use Rattle.call_close.specs.CloseReplies.{CloseTold, CloseTells}

pub turned_told : (n : ℕ) → 0 < n → n < 256 → CloseTold (turned_back n 0)
unfolding reply_word
turned_told n some small = record {
  closed_exactly = λ m. (λ x. let z : ◌≡◌ {A = ℕ} 0 1 = cc in absurd (omega arith), λ x. absurd (omega (arith, x.0)));
  turned_exactly = λ m.
      (λ x. let z : n ≡ m = cc in (omega arith, omega arith), λ x. let z : n ≡ m = omega (arith, x.1) in rw z);
}

closed_told : (n : ℕ) → n < 65536 → CloseTold (process_closed n)
unfolding reply_word
closed_told n small = record {
  closed_exactly = λ m.
      (λ x. let z : n ≡ m = cc in (omega arith, omega arith), λ x. let z : n ≡ m = omega (arith, x.1) in rw z);
  turned_exactly = λ m.
      (λ x. let z : ◌≡◌ {A = ℕ} 0 1 = cc in absurd (omega arith), λ x. absurd (omega (arith, x.0, x.1)));
}

-- No more frontiers are kept than there were.
pub few_remain : (w : ℕ) (s : List ℕ) (closed : ℕ) (window : List ℕ) (n : ℕ)
    → length (remaining w s closed (frontiers w window n)) ≤ n
unfolding remaining
few_remain w s closed window n =
    let stay : Frontier → Bool = λ f. kept_by 8 (process_count s) closed (at (taken_counts w s)) (at f.counts) in
    omega (arith, length-filtered stay (frontiers w window n), length-frontiers w window n)

process_told : (w p : ℕ) (s window : List ℕ) → bad_state w (room_of w (length window)) s ≡ false
    → CloseTold (close_process w p s window).answer
unfolding close_process
process_told w p s window good =
    let few = few_remain w s (closing (closed_mask s) p) window (kept_count s) in
    closed_told _ (omega (arith, few, (state-within w (room_of w (length window)) s good).3))

pub replies_tell : CloseTells
unfolding close_call
replies_tell w p s window =
    let back : (n : ℕ) → Closed = λ n. record { answer = turned_back n 0; bytes = s; window = window } in
    let P : Closed → Type 0 = λ c. CloseTold c.answer in
    let told : (n : ℕ) → 0 < n → n < 256 → P (back n) = λ n some small. turned_told n some small in
    let six = bad_record_length w (length s) || bad_window_length w (length window) in
    by_test P six (back 6) _ (λ _. told 6 (omega arith) (omega arith)) λ _.
    by_test P (bad_state w (room_of w (length window)) s) (back 34) _ (λ _. told 34 (omega arith) (omega arith)) λ good.
    by_test P (not_open (process_count s) (closed_mask s) p) (back 41) _ (λ _. told 41 (omega arith) (omega arith)) λ _.
    by_test P (named_by p (pending_events w s)) (back 42) _ (λ _. told 42 (omega arith) (omega arith)) λ _.
    process_told w p s window good
