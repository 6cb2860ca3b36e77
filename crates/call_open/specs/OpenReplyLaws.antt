-- An open's answers by its reply word, case by case.
use Rattle.std.specs.Prelude.{ℕ, ◌+◌, ◌-◌, ◌*◌, ◌^◌, ◌≤◌, ◌<◌, ◌/◌, ◌%◌, ◌≡◌, refl, Bool, true, false, ◌||◌, List, ◌++◌, ◌⊎◌, eqb, length, drop, replicate}
use Rattle.std.proofs.Math.Decide.{dec_lt}
use Rattle.std.proofs.Common.{arith, sym, ap, ◌∙◌, append_assoc, inl, inr}
use Rattle.codec.specs.Little.{bytes_of, number}
use Rattle.codec.specs.LittleLaws.{pow_256_pos}
use Rattle.codec.specs.PutLaws.{number-drop}
use Rattle.clocks.specs.Counts.{at, list_of}
use Rattle.clocks.specs.Refusal.{bad_start}
use Rattle.clocks.specs.stored.CountsLaws.{length-list_of, list_of-same, at-list_of, at_beyond}
use Rattle.frontiers.specs.BytesLaws.{count_bytes-zeros, number-count_bytes}
use Rattle.pactl.specs.declared.Line.{Line}
use Rattle.pactl.specs.Table.{table_bytes}
use Rattle.rules.specs.Fault.{Fault}
use Rattle.rules.specs.Line.{lines_at}
use Rattle.rules.specs.Reader.{Reading, read_rule, formed, faulty}
use Rattle.rules.specs.grammar.GrammarTheorem.{reader_first_fault}
use Rattle.rules.specs.reading.PlaceLaws.{fault_place}
use Rattle.records.specs.Record.{taken_counts, event_length}
use Rattle.refusals.specs.Refusals.{bad_record_length, bad_window_length, bad_processes}
use Rattle.answers.specs.Answer.{turned_back, state, flag, reply_word, state_of}
use Rattle.answers.specs.Turns.{by_test}
use Rattle.call_open.specs.Open.{Opened, first_record, open_table, open_read, open_call}
use Rattle.call_open.specs.OpenReplies.{OpenWord, OpenTold, OpenTells}

-- ---- A new watch has taken nothing

abbrev none : ℕ → ℕ
none p = 0

-- Counts read from zeros.
zeros_read : (w : ℕ) (rest : List ℕ) (p : ℕ) → p < 72 → number (replicate (72 * w) 0 ++ rest) (p * w) w ≡ 0
zeros_read w rest p l =
    rw (← count_bytes-zeros w 72)
    (number-count_bytes w (list_of 72 none) rest (λ q. fit q (dec_lt q 72)) p (rw (length-list_of 72 none) l)
    ∙ at-list_of 72 none p l)
  where
    fit : (q : ℕ) → Dec (q < 72) → at (list_of 72 none) q < 256 ^ w
    fit q (yes m) = rw (at-list_of 72 none q m) (pow_256_pos w)
    fit q (no m) = rw (at_beyond (list_of 72 none) q (rw (length-list_of 72 none) (omega arith))) (pow_256_pos w)

eight-zeros : list_of 8 none ≡ replicate 8 0
unfolding list_of
eight-zeros = refl

pub first_taken : (w k : ℕ) (table : List Line) → taken_counts w (first_record w k table) ≡ replicate 8 0
unfolding taken_counts first_record bytes_of
first_taken w k table =
    list_of-same 8 _ none (λ p l.
    sym (number-drop (first_record w k table) 8 (p * w) w)
    ∙ ap (λ (u : List ℕ). number u (p * w) w) after ∙ zeros_read w rest p (omega arith))
    ∙ eight-zeros
  where
    rest : List ℕ
    rest =
        table_bytes table ++ (replicate (192 - length (table_bytes table)) 0 ++ replicate (32 * event_length w) 0)

    after : drop 8 (first_record w k table) ≡ replicate (72 * w) 0 ++ rest
    after = simp append_assoc

-- ---- An answer by its kind

-- A rule's fault has a number of 1 to 4.
pub rule_number : (n : ℕ) (s : List ℕ) (k i : ℕ) → Fault n s k i → (1 ≤ n) × (n ≤ 4)
unfolding Fault
rule_number n s k i (inl h) = (omega arith, omega arith)
rule_number n s k i (inr (inl h)) = (omega arith, omega arith)
rule_number n s k i (inr (inr (inl h))) = (omega arith, omega arith)
rule_number n s k i (inr (inr (inr h))) = (omega arith, omega arith)

-- By which numbers, and with which places, an open is turned back.
abbrev TurnedBy : ℕ → ℕ → Type 0
TurnedBy n place =
    ((place ≡ 0) × ((n ≡ 6) ⊎ ((n ≡ 5) ⊎ (n ≡ 9)))) ⊎ ((1 ≤ n) × (n ≤ 4) × (place < 1024))

pub turned-word : (w n place : ℕ) (o : Opened) → o.answer ≡ turned_back n place → 0 < n → n < 256 → OpenWord w o
unfolding reply_word
turned-word w n place o q some small = rw q (record {
  opened_exactly = λ counts truth kept.
      (λ x. let z : ◌≡◌ {A = ℕ} 0 1 = cc in absurd (omega arith), λ x. absurd (omega (arith, x.0)));
  opened_with = λ counts truth kept x. let z : ◌≡◌ {A = ℕ} 0 1 = cc in absurd (omega arith);
  turned_exactly = λ m i. (
    (λ x. let z : n ≡ m = cc in let p : place ≡ i = cc in (omega arith, omega arith, omega arith)),
    (λ x. let z : n ≡ m = omega (arith, x.1) in let p : place ≡ i = omega (arith, x.2) in rw (z, p)),
  );
  one_flag = omega arith;
})

-- Turned back by one number with one place.
pub by_number : (R : ℕ → ℕ → Type 0) (n place : ℕ) (o : Opened) → o.answer ≡ turned_back n place → R n place
    → (m i : ℕ) → o.answer ≡ turned_back m i → R m i
by_number R n place o q by m i x =
    let same : turned_back n place ≡ turned_back m i = sym q ∙ x in
    let z : n ≡ m = cc in
    let p : place ≡ i = cc in
    rw (z, p) at by

turned_told : (w n place : ℕ) (o : Opened) → o.answer ≡ turned_back n place → TurnedBy n place → 0 < n → n < 256
    → OpenTold w o
turned_told w n place o q by some small = record {
  word = turned-word w n place o q some small;
  turned_by = by_number TurnedBy n place o q by;
}

-- The parts of an accepted open's word.
value_is : (b : Bool) → (256 * flag b + 65536 * 1) / 65536 % 65536 ≡ 1
value_is true = refl
value_is false = refl

flag_is : (b : Bool) → eqb ((256 * flag b + 65536 * 1) / 256 % 256) 1 ≡ b
flag_is true = refl
flag_is false = refl

number_is : (b : Bool) → (256 * flag b + 65536 * 1) % 256 ≡ 0
number_is true = refl
number_is false = refl

flag_small : (b : Bool) → (256 * flag b + 65536 * 1) / 256 % 256 ≤ 1
flag_small true = omega arith
flag_small false = omega arith

opened-word : (w : ℕ) (o : Opened) (truth : Bool) → o.answer ≡ state (replicate 8 0) truth 1
    → taken_counts w o.bytes ≡ replicate 8 0 → OpenWord w o
unfolding reply_word
opened-word w o truth q c = rw q (record {
  opened_exactly = λ counts' truth' kept'. (
    (λ x.
        let a : replicate 8 0 ≡ counts' = cc in
        let b : truth ≡ truth' = cc in
        let d : 1 ≡ kept' = cc in
        (number_is truth, rw (value_is truth) d, rw (flag_is truth) b, rw c a)),
    (λ x.
        let d : 1 ≡ kept' = rw (value_is truth) at x.1 in
        let b : truth ≡ truth' = rw (flag_is truth) at x.2 in
        let a : replicate 8 0 ≡ counts' = rw c at x.3 in
        rw (← a, b, ← d)),
  );
  opened_with = λ counts' truth' kept' x.
      let a : replicate 8 0 ≡ counts' = cc in let d : 1 ≡ kept' = cc in (sym d, sym a);
  turned_exactly = λ m i. (
    (λ x. let z : ◌≡◌ {A = ℕ} 0 1 = cc in absurd (omega arith)),
    (λ x. absurd (omega (arith, x.0, x.1, number_is truth))),
  );
  one_flag = flag_small truth;
})

opened_told : (w : ℕ) (o : Opened) (truth : Bool) → o.answer ≡ state (replicate 8 0) truth 1
    → taken_counts w o.bytes ≡ replicate 8 0 → OpenTold w o
opened_told w o truth q c = record {
  word = opened-word w o truth q c;
  turned_by = λ m i x.
      let same : state (replicate 8 0) truth 1 ≡ turned_back m i = sym q ∙ x in
      let z : ◌≡◌ {A = ℕ} 0 1 = cc in
      absurd (omega arith);
}

-- ---- Theorem

pub replies_tell : OpenTells
unfolding open_call open_read open_table state_of
replies_tell w text k labels s window =
    let back : ℕ → Opened = λ n. record { answer = turned_back n 0; bytes = s; window = window } in
    by_test (OpenTold w) (bad_record_length w (length s) || bad_window_length w (length window)) (back 6) _
    (λ _. turned_told w 6 0 (back 6) refl (inl (refl, inl refl)) (omega arith) (omega arith)) λ _.
    by_test (OpenTold w) (bad_processes k) (back 5) _
    (λ _. turned_told w 5 0 (back 5) refl (inl (refl, inr (inl refl))) (omega arith) (omega arith)) λ _.
    by_test (OpenTold w) (bad_start k labels) (back 9) _
    (λ _. turned_told w 9 0 (back 9) refl (inl (refl, inr (inr refl))) (omega arith) (omega arith)) λ _.
    go (read_rule text k) refl
  where
    go : (r : Reading) → read_rule text k ≡ r → OpenTold w (open_read w k labels s window r)
    go (formed i f) e =
        opened_told w (open_table w (lines_at 0 f) k labels (length window)) _ refl (first_taken w k (lines_at 0 f))
    go (faulty n i) e =
        let h = rule_number n text k i ((reader_first_fault text k n i).0 e).here in
        turned_told w n i (open_read w k labels s window (faulty n i)) refl
        (inr (h.0, h.1, fault_place text k n i e)) (omega (arith, h.0)) (omega (arith, h.1))
