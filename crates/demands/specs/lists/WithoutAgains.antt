-- A list without its repeats leaves the same watch: "again" is only an answer.
use Rattle.std.specs.Prelude.{ℕ, ◌+◌, ◌≡◌, refl, Bool, true, false, cond, not, ◌||◌, List, [], ◌∷◌, ◌++◌, leb, eqb, length, replicate}
use Rattle.std.proofs.Common.{arith, sym, ap, ◌∙◌}
use Rattle.codec.specs.Bit.{bit}
use Rattle.frontiers.specs.declared.Frontier.{Frontier}
use Rattle.frontiers.specs.Bytes.{frontiers}
use Rattle.records.specs.Record.{line_total, kept_count}
use Rattle.refusals.specs.Refusals.{room_of, bad_record_length, bad_window_length, bad_state}
use Rattle.answers.specs.Answer.{Answer, turned_back, state, nothing_ready, held, again, found, absent, process_closed, state_of}
use Rattle.answers.specs.Turns.{by_test}
use Rattle.call_open.specs.Open.{open_call, open_table}
use Rattle.call_offer.specs.Offer.{offer_call}
use Rattle.call_offer.specs.OfferCases.{OfferCase, offer_case, turned, repeats, accepted}
use Rattle.trial.specs.Trial.{Decision, undecided, false_clock, chosen, trial}
use Rattle.call_take.specs.Take.{decided, Taken, take_within, allowed_of, take_capped}
use Rattle.call_find.specs.Find.{find_from, find_call}
use Rattle.call_close.specs.Close.{close_process, close_call}
use Rattle.call_close.specs.CloseCases as closing
use Rattle.call_close.specs.CloseCases.{CloseCase, close_case}
use Rattle.demands.specs.Mislent.{answer_to}
use Rattle.demands.specs.Run.{Call, offers, takes, finds, closes, mislends, Watch, answered_by, offered_ledger, accepted_by, after, run, opened}
use Rattle.demands.specs.calls.OpenLaws.{OpenCase, open_case, turns_back, opens}
use Rattle.demands.specs.statements.Again.{is_again, last_of, without_agains, other_answers, SameButAgains, AgainsMakeNoDifference}

-- ---- Only offers are answered "again"

decided_other : (w : ℕ) (s window : List ℕ) (fs : List Frontier) (d : Decision)
    → is_again (decided w s window fs d).answer ≡ false
unfolding decided state_of
decided_other w s window fs (undecided true) = refl
decided_other w s window fs (undecided false) = refl
decided_other w s window fs (false_clock i) = refl
decided_other w s window fs (chosen i) = refl

take_other : (w cap : ℕ) (s window scratch : List ℕ) → is_again (take_capped w cap s window scratch).answer ≡ false
unfolding take_capped take_within
take_other w cap s window scratch =
    let by = by_test (λ (t : Taken). is_again t.answer ≡ false) in
    let back : ℕ → Taken = λ n. record { answer = turned_back n 0; bytes = s; window = window; scratch = scratch } in
    let fs = frontiers w window (kept_count s) in
    let wrong = bad_window_length w (length window) || not (eqb (length scratch) (length window)) in
    by (bad_record_length w (length s) || wrong) (back 6) _ (λ _. refl) λ _.
    by (bad_state w (room_of w (length window)) s) (back 34) _ (λ _. refl) λ _.
    decided_other w s window fs (trial w s (allowed_of w cap window) fs)

found_other : (line i : ℕ) (fs : List Frontier) → is_again (find_from line i fs) ≡ false
unfolding find_from
found_other line i [] = refl
found_other line i (f ∷ fs) =
    by_test (λ (a : Answer). is_again a ≡ false) (bit f.values line) (found i) (find_from line (i + 1) fs) (λ _. refl)
    (λ _. found_other line (i + 1) fs)

find_other : (w line : ℕ) (s window : List ℕ) → is_again (find_call w line s window) ≡ false
unfolding find_call
find_other w line s window =
    let by = by_test (λ (a : Answer). is_again a ≡ false) in
    by (bad_record_length w (length s) || bad_window_length w (length window)) (turned_back 6 0) _ (λ _. refl) λ _.
    by (bad_state w (room_of w (length window)) s) (turned_back 34 0) _ (λ _. refl) λ _.
    by (leb (line_total s) line) (turned_back 11 0) _ (λ _. refl) λ _.
    found_other line 0 (frontiers w window (kept_count s))

close_other : (w p : ℕ) (s window : List ℕ) → is_again (close_call w p s window).answer ≡ false
unfolding close_process
close_other w p s window = go (close_case w p s window)
  where
    go : CloseCase w p s window → is_again (close_call w p s window).answer ≡ false
    go (closing.turned n some small other q) = rw q
    go (closing.accepted h41 h42 q) = rw q

open_other : (w : ℕ) (text : List ℕ) (k : ℕ) (labels s window : List ℕ)
    → is_again (open_call w text k labels s window).answer ≡ false
unfolding open_table state_of
open_other w text k labels s window = go (open_case w text k labels s window)
  where
    go : OpenCase w text k labels s window → is_again (open_call w text k labels s window).answer ≡ false
    go (turns_back n i q) = rw q
    go (opens f i h6 h5 h9 h q) = rw q

-- ---- Which leaves the watch

never : false ≡ true → ⊥
never x = let z : ◌≡◌ {A = ℕ} 0 1 = cc in omega arith

pub offer_idle : (w mask : ℕ) (clock labels : List ℕ) (W : Watch)
    → is_again (offer_call w mask clock labels W.bytes).answer ≡ true
    → after w (offers mask clock labels) W ≡ answered_by again W
unfolding after offered_ledger accepted_by
offer_idle w mask clock labels W h = go (offer_case w mask clock labels W.bytes)
  where
    go : OfferCase w mask clock labels W.bytes → after w (offers mask clock labels) W ≡ answered_by again W
    go (turned n some small other q) = absurd (never (rw q at h))
    go (repeats h7 r q) = rw q
    go (accepted h7 h8 h9 h42 h31 h32 h33 q) = absurd (never (rw q at h))

only_again : (a : Answer) → is_again a ≡ true → a ≡ again
only_again again h = refl
only_again (turned_back n i) h = absurd (never h)
only_again (state c t k) h = absurd (never h)
only_again nothing_ready h = absurd (never h)
only_again (held n) h = absurd (never h)
only_again (found i) h = absurd (never h)
only_again absent h = absurd (never h)
only_again (process_closed n) h = absurd (never h)

idle : (w : ℕ) (c : Call) (W : Watch) → is_again (last_of (after w c W).answers) ≡ true
    → after w c W ≡ answered_by again W
unfolding after last_of
idle w (offers mask clock labels) W h = offer_idle w mask clock labels W h
idle w (takes cap more scratch) W h =
    let z : ◌≡◌ {A = Bool} true false = sym h ∙ take_other w cap W.bytes (W.window ++ replicate more 0) scratch in
    let y : ◌≡◌ {A = ℕ} 0 1 = cc in absurd (omega arith)
idle w (finds line) W h =
    let z : ◌≡◌ {A = Bool} true false = sym h ∙ find_other w line W.bytes W.window in
    let y : ◌≡◌ {A = ℕ} 0 1 = cc in absurd (omega arith)
idle w (mislends m) W h = ap (λ (a : Answer). answered_by a W) (only_again (answer_to w m) h)
idle w (closes p) W h =
    let z : ◌≡◌ {A = Bool} true false = sym h ∙ close_other w p W.bytes W.window in
    let y : ◌≡◌ {A = ℕ} 0 1 = cc in absurd (omega arith)

-- ---- Call by call

-- Another call does the same to both.
step : (w : ℕ) (c : Call) (Y Z : Watch) → SameButAgains Y Z → is_again (last_of (after w c Z).answers) ≡ false
    → SameButAgains (after w c Y) (after w c Z)
unfolding after last_of other_answers
step w (offers mask clock labels) Y Z S h = record {
  same_record = rw S.same_record;
  same_window = S.same_window;
  same_ledger = rw (S.same_record, S.same_ledger);
  same_accepted = rw (S.same_record, S.same_accepted);
  other_answers = rw (S.same_record, S.other_answers, h);
}
step w (takes cap more scratch) Y Z S h = record {
  same_record = rw (S.same_record, S.same_window);
  same_window = rw (S.same_record, S.same_window);
  same_ledger = rw (S.same_record, S.same_window, S.same_ledger);
  same_accepted = S.same_accepted;
  other_answers = rw (S.same_record, S.same_window, S.other_answers, h);
}
step w (finds line) Y Z S h = record {
  same_record = S.same_record;
  same_window = S.same_window;
  same_ledger = S.same_ledger;
  same_accepted = S.same_accepted;
  other_answers = rw (S.same_record, S.same_window, S.other_answers, h);
}
step w (mislends m) Y Z S h = record {
  same_record = S.same_record;
  same_window = S.same_window;
  same_ledger = S.same_ledger;
  same_accepted = S.same_accepted;
  other_answers = rw (S.other_answers, h);
}
step w (closes p) Y Z S h = record {
  same_record = rw (S.same_record, S.same_window);
  same_window = rw (S.same_record, S.same_window);
  same_ledger = rw (S.same_record, S.same_window, S.same_ledger);
  same_accepted = S.same_accepted;
  other_answers = rw (S.same_record, S.same_window, S.other_answers, h);
}

along : (w : ℕ) (cs : List Call) (Y Z : Watch) → SameButAgains Y Z
    → SameButAgains (run w (without_agains w cs Z) Y) (run w cs Z)
unfolding run without_agains other_answers
along w [] Y Z S = S
along w (c ∷ cs) Y Z S = go (is_again (last_of (after w c Z).answers)) refl (λ U. along w cs U (after w c Z))
  where
    rest : List Call
    rest = without_agains w cs (after w c Z)

    go : (b : Bool) → is_again (last_of (after w c Z).answers) ≡ b
        → ((U : Watch) → SameButAgains U (after w c Z) → SameButAgains (run w rest U) (run w cs (after w c Z)))
        → SameButAgains (run w (cond (is_again (last_of (after w c Z).answers)) rest (c ∷ rest)) Y)
        (run w cs (after w c Z))
    go true h further = rw h (further Y (rw (idle w c Z h) (record {
      same_record = S.same_record;
      same_window = S.same_window;
      same_ledger = S.same_ledger;
      same_accepted = S.same_accepted;
      other_answers = S.other_answers;
    })))
    go false h further = rw h (further (after w c Y) (step w c Y Z S h))

-- ---- Theorem
pub agains_make_no_difference : AgainsMakeNoDifference
unfolding other_answers
agains_make_no_difference w text k labels s window cs =
    let o = open_call w text k labels s window in
    along w cs (opened o) (opened o) (record {
      same_record = refl;
      same_window = refl;
      same_ledger = refl;
      same_accepted = refl;
      other_answers = rw (open_other w text k labels s window);
    })
