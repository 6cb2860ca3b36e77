-- What the calls answer is within the parts of a reply word, and possible with the record that they leave.
use Rattle.std.specs.Prelude.{ℕ, ◌≡◌, refl, Bool, cond, ◌||◌, List, length}
use native.Mathlib.Omega.{arith}
use Rattle.std.proofs.Math.Path.{sym}
use Rattle.std.proofs.Common.{inl, inr, leb-false}
use Rattle.std.proofs.Math.Bool.{true, false}
use Rattle.codec.specs.Little.{Bytes}
use Rattle.rules.specs.Line.{lines_at}
use Rattle.frontiers.specs.declared.Frontier.{Frontier}
use Rattle.frontiers.specs.Bytes.{frontiers}
use Rattle.window.specs.SteppedCount.{stepped_many}
use Rattle.trial.specs.Trial.{setting_in, undecided, false_clock, chosen as takes}
use Rattle.call_take.specs.Take.{Taken, decided, take_call}
use Rattle.call_take.specs.TakeCases.{Case as TakenCase, Taking, take_case, turned as back, none, falsified, takes as taking}
use Rattle.call_take.specs.TakenCountsLaws.{counted-taken}
use Rattle.rules.specs.grammar.GrammarTheorem.{reader_first_fault}
use Rattle.rules.specs.reading.PlaceLaws.{fault_place}
use Rattle.rules.specs.Reader.{Reading, read_rule, formed, faulty}
use Rattle.clocks.specs.Refusal.{bad_start}
use Rattle.records.specs.Record.{pending_count, kept_count, taken_counts, pending_at}
use Rattle.refusals.specs.Refusals.{bad_record_length, bad_window_length, bad_processes}
use Rattle.answers.specs.Answer.{turned_back, state_of}
use Rattle.call_open.specs.Open.{Opened, open_table, open_read, open_call}
use Rattle.call_open.specs.OpenReplyLaws.{rule_number, first_taken}
use Rattle.answers.specs.Turns.{by_test}
use Rattle.call_offer.specs.Offer.{offer_call}
use Rattle.call_offer.specs.OfferCases.{OfferCase, offer_case, turned, repeats, accepted}
use Rattle.reply_text.specs.Form.{program_width}
use Rattle.replies.specs.Replies.{Fits, Possible}

-- One of two outcomes, by a test.
module _ {A : Type 0} (P : A → Type 0) where
  chosen : (b : Bool) (x y : A) → P x → (b ≡ false → P y) → P (cond b x y)
  chosen b x y p q = by_test P b x y (λ _. p) q

pub open_fits : (w : ℕ) (text : List ℕ) (k : ℕ) (labels s window : List ℕ) → Fits (open_call w text k labels s window).answer
unfolding open_call open_read open_table state_of
open_fits w text k labels s window =
    let by = chosen (λ (o : Opened). Fits o.answer) in
    let turned : ℕ → Opened = λ n. record { answer = turned_back n 0; bytes = s; window = window } in
    by (bad_record_length w (length s) || bad_window_length w (length window)) (turned 6) _ (omega arith, omega arith, omega arith) λ _.
    by (bad_processes k) (turned 5) _ (omega arith, omega arith, omega arith) λ _.
    by (bad_start k labels) (turned 9) _ (omega arith, omega arith, omega arith) λ _.
    go (read_rule text k) refl
  where
    go : (r : Reading) → read_rule text k ≡ r → Fits (open_read w k labels s window r).answer
    go (formed i f) e = omega arith
    go (faulty n i) e =
        let h = rule_number n text k i ((reader_first_fault text k n i).0 e).here in
        (h.0, omega (arith, h.1), omega (arith, fault_place text k n i e))

-- What open answers is possible with the record that it leaves.
abbrev pub OpenTold : Opened → Type 0
OpenTold o = Possible false (taken_counts program_width o.bytes) o.answer

-- A watch is opened with one frontier and the counts that stand in its record, or refused.
pub open_possible : (text : List ℕ) (k : ℕ) (labels s window : List ℕ)
    → OpenTold (open_call program_width text k labels s window)
unfolding open_call open_read open_table state_of
open_possible text k labels s window =
    let by = chosen OpenTold in
    let turned : ℕ → Opened = λ n. record { answer = turned_back n 0; bytes = s; window = window } in
    by (bad_record_length program_width (length s) || bad_window_length program_width (length window)) (turned 6) _
    (omega arith) λ _.
    by (bad_processes k) (turned 5) _ (omega arith) λ _.
    by (bad_start k labels) (turned 9) _ (omega arith) λ _.
    go (read_rule text k) refl
  where
    go : (r : Reading) → read_rule text k ≡ r → OpenTold (open_read program_width k labels s window r)
    go (formed i f) e = (refl, sym (first_taken program_width k (lines_at 0 f)), omega arith)
    go (faulty n i) e = (rule_number n text k i ((reader_first_fault text k n i).0 e).here).0

pub offer_fits : (w mask : ℕ) (clock labels s : List ℕ) → Fits (offer_call w mask clock labels s).answer
offer_fits w mask clock labels s = go (offer_case w mask clock labels s)
  where
    go : OfferCase w mask clock labels s → Fits (offer_call w mask clock labels s).answer
    go (turned n some small other q) = rw q (omega arith, omega arith, omega arith)
    go (repeats h7 h q) = rw q tt
    go (accepted h7 h8 h9 h42 h31 h32 h33 q) = rw q (omega (arith, leb-false 32 (pending_count s) h33))

-- An offer is answered with a refusal, with "again", or with the number of pending events, which is not 0.
pub offer_possible : (w mask : ℕ) (clock labels s counts : List ℕ) → Possible true counts (offer_call w mask clock labels s).answer
offer_possible w mask clock labels s counts = go (offer_case w mask clock labels s)
  where
    go : OfferCase w mask clock labels s → Possible true counts (offer_call w mask clock labels s).answer
    go (turned n some small other q) = rw q some
    go (repeats h7 h q) = rw q refl
    go (accepted h7 h8 h9 h42 h31 h32 h33 q) = rw q (refl, omega arith)

-- ---- Take

-- What a take answers is within the parts of a reply word, and possible with the record that it leaves.
abbrev pub TakeTold : ℕ → Taken → Type 0
TakeTold w o = Fits o.answer × Possible false (taken_counts w o.bytes) o.answer

module _ (w : ℕ) (s window : List ℕ) (fs : List Frontier) where
  -- A taken event leaves 1 to 1,024 frontiers, and the counts that it leads to stand in the record.
  taken_told : (i : ℕ) → Bytes s → Taking w s fs i → TakeTold w (decided w s window fs (takes i))
  unfolding decided state_of
  taken_told i b h =
      let many = stepped_many (setting_in w s (pending_at w s i)) fs in
      let some = h.some in
      let few = h.few in
      (omega arith, (refl, sym (counted-taken w s i _ b h.long h.ready), omega arith))

  -- Nothing is ready, or there is no room.
  none_told : (seen : Bool) → TakeTold w (decided w s window fs (undecided seen))
  unfolding decided
  none_told true = ((omega arith, omega arith, omega arith), omega arith)
  none_told false = (tt, refl)

  -- The clock of a ready one is false.
  falsified_told : (i : ℕ) → TakeTold w (decided w s window fs (false_clock i))
  unfolding decided
  falsified_told i = ((omega arith, omega arith, omega arith), omega arith)

-- A take of whatever bytes.
pub take_told : (w : ℕ) (s window scratch : List ℕ) → Bytes s → TakeTold w (take_call w s window scratch)
take_told w s window scratch b = go (take_call w s window scratch) (take_case w 1024 s window scratch)
  where
    fs : List Frontier
    fs = frontiers w window (kept_count s)

    go : (t : Taken) → TakenCase w s window scratch fs t → TakeTold w t
    go t (back n (inl x) q) = rw (q, x) ((omega arith, omega arith, omega arith), omega arith)
    go t (back n (inr x) q) = rw (q, x) ((omega arith, omega arith, omega arith), omega arith)
    go t (none seen q) = rw q (none_told w s window fs seen)
    go t (falsified i q) = rw q (falsified_told w s window fs i)
    go t (taking i h q) = rw q (taken_told w s window fs i b h)
