-- Calls that are turned back by 6 or 34: exactly when, and that they write nothing; on all bytes.
use Rattle.std.specs.Prelude.{ℕ, ◌+◌, refl, Bool, cond, ◌||◌, List, [], ◌∷◌, ◌⊎◌, ◌↔◌, eqb, leb, length}
use Rattle.std.proofs.Common.{arith, ◌∙◌, inl, inr}
use Rattle.std.proofs.Math.Path.{◌≡◌, sym}
use Rattle.std.proofs.Math.Bool.{true, false}
use Rattle.codec.specs.Bit.{bit}
use Rattle.frontiers.specs.declared.Frontier.{Frontier}
use Rattle.frontiers.specs.Bytes.{frontiers}
use Rattle.clocks.specs.Counts.{at}
use Rattle.clocks.specs.Refusal.{bad_mask, bad_clock, bad_labels}
use Rattle.records.specs.Record.{process_count, pending_count, closed_mask, taken_counts, pending_events, line_total, kept_count}
use Rattle.refusals.specs.Refusals.{bad_record_length, bad_window_length, room_of, bad_state, names_closed, already_taken, conflicting, not_open, named_by}
use Rattle.repeats.specs.Repeats.{repeated}
use Rattle.answers.specs.Answer.{Answer, turned_back, state, nothing_ready, held, again, found, absent, process_closed, state_of}
use Rattle.answers.specs.Turns.{by_test}
use Rattle.call_offer.specs.Offer.{Offered, offered_event, offer_call}
use Rattle.trial.specs.Trial.{Decision, undecided, false_clock, chosen, trial}
use Rattle.call_take.specs.Take.{Taken, decided, take_within, bad_lengths, allowed_of, take_capped}
use Rattle.call_find.specs.Find.{find_from, find_call}
use Rattle.call_close.specs.Close.{Closed, close_process, close_call}
use Rattle.demands.specs.Mislent.{offer_lent, take_lent, find_lent, close_lent, answer_to, Buffers, lent_to, left_by, wrong_lengths, wrong_state}
use Rattle.demands.specs.Run.{after}
use Rattle.demands.specs.statements.Mislent.{MislentIsExact}

-- ---- Neither 6 nor 34

unfoldable neither : Answer → Bool
neither (turned_back n i) = cond (eqb n 6) false (cond (eqb n 34) false true)
neither (state c t k) = true
neither nothing_ready = true
neither (held n) = true
neither again = true
neither (found i) = true
neither absent = true
neither (process_closed n) = true

-- ---- The first two turns of a call

-- What is known of a call that answers and leaves o, where these are its first two conditions and it was lent b.
record Judged {A : Type 0} (answer : A → Answer) (left : A → Buffers) (lent : Buffers) (wrong bad : Bool) (o : A)
    : Type 0 where
  by_length : (answer o ≡ turned_back 6 0) ↔ (wrong ≡ true)
  by_state : (answer o ≡ turned_back 34 0) ↔ ((wrong ≡ false) × (bad ≡ true))
  same : (answer o ≡ turned_back 6 0) ⊎ (answer o ≡ turned_back 34 0) → left o ≡ lent

module _ {A : Type 0} (answer : A → Answer) (left : A → Buffers) (lent : Buffers) where
  no : {B : Type 0} → ◌≡◌ {A = Bool} false true → B
  no h = let z : ◌≡◌ {A = ℕ} 0 1 = cc in absurd (omega arith)

  judged : (wrong bad : Bool) (x y rest : A) → answer x ≡ turned_back 6 0 → left x ≡ lent → answer y ≡ turned_back 34 0
      → left y ≡ lent → neither (answer rest) ≡ true
      → Judged answer left lent wrong bad (cond wrong x (cond bad y rest))
  unfolding neither
  judged true bad x y rest a l b m n = record {
    by_length = ((λ _. refl), λ _. a);
    by_state = (
      (λ q. let z : turned_back 6 0 ≡ turned_back 34 0 = sym a ∙ q in
          let z : ◌≡◌ {A = ℕ} 6 34 = cc in absurd (omega arith)),
      λ q. no (sym q.0),
    );
    same = λ _. l;
  }
  judged false true x y rest a l b m n = record {
    by_length = (
      (λ q. let z : turned_back 34 0 ≡ turned_back 6 0 = sym b ∙ q in
          let z : ◌≡◌ {A = ℕ} 34 6 = cc in absurd (omega arith)),
      λ q. no q,
    );
    by_state = ((λ _. (refl, refl)), λ _. b);
    same = λ _. m;
  }
  judged false false x y rest a l b m n = record {
    by_length = ((λ q. no (rw q at n)), λ q. no q);
    by_state = ((λ q. no (rw q at n)), λ q. no q.1);
    same = other;
  }
    where
      other : (answer rest ≡ turned_back 6 0) ⊎ (answer rest ≡ turned_back 34 0) → left rest ≡ lent
      other (inl q) = no (rw q at n)
      other (inr q) = no (rw q at n)

-- ---- Call by call

decided-neither : (w : ℕ) (s window : List ℕ) (fs : List Frontier) (d : Decision)
    → neither (decided w s window fs d).answer ≡ true
unfolding decided state_of neither
decided-neither w s window fs (undecided true) = refl
decided-neither w s window fs (undecided false) = refl
decided-neither w s window fs (false_clock i) = refl
decided-neither w s window fs (chosen i) = refl

found-neither : (line i : ℕ) (fs : List Frontier) → neither (find_from line i fs) ≡ true
unfolding find_from neither
found-neither line i [] = refl
found-neither line i (f ∷ fs) =
    by_test (λ (a : Answer). neither a ≡ true) (bit f.values line) (found i) (find_from line (i + 1) fs) (λ _. refl)
    (λ _. found-neither line (i + 1) fs)

-- The buffers of an offer, of a find or a close, of a take.
abbrev lone : List ℕ → Buffers
lone s = record { bytes = s; window = []; scratch = [] }

abbrev pair : List ℕ → List ℕ → Buffers
pair s window = record { bytes = s; window = window; scratch = [] }

abbrev triple : List ℕ → List ℕ → List ℕ → Buffers
triple s window scratch = record { bytes = s; window = window; scratch = scratch }

-- 6, where record and window are lent.
abbrev wrong_pair : ℕ → List ℕ → List ℕ → Bool
wrong_pair w s window = bad_record_length w (length s) || bad_window_length w (length window)

offer_judged : (w mask : ℕ) (clock labels s : List ℕ)
    → Judged (λ (o : Offered). o.answer) (λ o. lone o.bytes) (lone s) (bad_record_length w (length s))
    (bad_state w 1024 s) (offer_call w mask clock labels s)
unfolding offer_call neither
offer_judged w mask clock labels s =
    let by = by_test (λ (o : Offered). neither o.answer ≡ true) in
    let back : ℕ → Offered = λ n. record { answer = turned_back n 0; bytes = s } in
    let e = offered_event mask clock labels in
    judged (λ (o : Offered). o.answer) (λ o. lone o.bytes) (lone s) (bad_record_length w (length s))
    (bad_state w 1024 s) (back 6) (back 34) _ refl refl refl refl
    (by (bad_mask (process_count s) mask) (back 7) _ (λ _. refl) λ _.
    by (bad_clock (process_count s) mask clock) (back 8) _ (λ _. refl) λ _.
    by (bad_labels mask labels) (back 9) _ (λ _. refl) λ _.
    by (names_closed (closed_mask s) e) (back 42) _ (λ _. refl) λ _.
    by (already_taken e (at (taken_counts w s))) (back 31) _ (λ _. refl) λ _.
    by (repeated e (pending_events w s)) (record { answer = again; bytes = s }) _ (λ _. refl) λ _.
    by (conflicting e (pending_events w s)) (back 32) _ (λ _. refl) λ _.
    by (leb 32 (pending_count s)) (back 33) _ (λ _. refl) λ _. refl)

take_judged : (w cap : ℕ) (s window scratch : List ℕ)
    → Judged (λ (o : Taken). o.answer) (λ o. triple o.bytes o.window o.scratch) (triple s window scratch)
    (bad_lengths w (length s) (length window) (length scratch)) (bad_state w (room_of w (length window)) s)
    (take_capped w cap s window scratch)
unfolding take_capped take_within
take_judged w cap s window scratch =
    let back : ℕ → Taken = λ n. record { answer = turned_back n 0; bytes = s; window = window; scratch = scratch } in
    let fs = frontiers w window (kept_count s) in
    judged (λ (o : Taken). o.answer) (λ o. triple o.bytes o.window o.scratch) (triple s window scratch)
    (bad_lengths w (length s) (length window) (length scratch)) (bad_state w (room_of w (length window)) s) (back 6)
    (back 34) _ refl refl refl refl (decided-neither w s window fs (trial w s (allowed_of w cap window) fs))

find_judged : (w line : ℕ) (s window : List ℕ)
    → Judged (λ (a : Answer). a) (λ _. pair s window) (pair s window) (wrong_pair w s window)
    (bad_state w (room_of w (length window)) s) (find_call w line s window)
unfolding find_call neither
find_judged w line s window =
    judged (λ (a : Answer). a) (λ _. pair s window) (pair s window) (wrong_pair w s window)
    (bad_state w (room_of w (length window)) s) (turned_back 6 0) (turned_back 34 0) _ refl refl refl refl
    (by_test (λ (a : Answer). neither a ≡ true) (leb (line_total s) line) (turned_back 11 0) _ (λ _. refl)
    (λ _. found-neither line 0 (frontiers w window (kept_count s))))

close_judged : (w p : ℕ) (s window : List ℕ)
    → Judged (λ (o : Closed). o.answer) (λ o. pair o.bytes o.window) (pair s window) (wrong_pair w s window)
    (bad_state w (room_of w (length window)) s) (close_call w p s window)
unfolding close_call close_process neither
close_judged w p s window =
    let by = by_test (λ (o : Closed). neither o.answer ≡ true) in
    let back : ℕ → Closed = λ n. record { answer = turned_back n 0; bytes = s; window = window } in
    judged (λ (o : Closed). o.answer) (λ o. pair o.bytes o.window) (pair s window) (wrong_pair w s window)
    (bad_state w (room_of w (length window)) s) (back 6) (back 34) _ refl refl refl refl
    (by (not_open (process_count s) (closed_mask s) p) (back 41) _ (λ _. refl) λ _.
    by (named_by p (pending_events w s)) (back 42) _ (λ _. refl) λ _. refl)

-- ---- Theorem

pub mislent_exact : MislentIsExact
unfolding answer_to lent_to left_by wrong_lengths wrong_state after
mislent_exact w (offer_lent mask clock labels s) =
    let j = offer_judged w mask clock labels s in
    record { length_exactly = j.by_length; state_exactly = j.by_state; unwritten = j.same; goes_on = λ W. refl }
mislent_exact w (take_lent cap s window scratch) =
    let j = take_judged w cap s window scratch in
    record { length_exactly = j.by_length; state_exactly = j.by_state; unwritten = j.same; goes_on = λ W. refl }
mislent_exact w (find_lent line s window) =
    let j = find_judged w line s window in
    record { length_exactly = j.by_length; state_exactly = j.by_state; unwritten = j.same; goes_on = λ W. refl }
mislent_exact w (close_lent p s window) =
    let j = close_judged w p s window in
    record { length_exactly = j.by_length; state_exactly = j.by_state; unwritten = j.same; goes_on = λ W. refl }
