-- Tests in their order, each with its answer: an answer comes exactly if its test is the first that holds.
use Rattle.std.specs.Prelude.{ℕ, zero, suc, ◌≡◌, refl, Bool, true, false, cond, ◌&&◌, ◌↔◌, eqb}
use Rattle.std.proofs.Common.{sym, ap, ◌∙◌, true≢false}
use Rattle.std.proofs.lemmas.Bool.{eqb-false}
use Rattle.clocks.specs.stored.BoundedLaws.{and-true}
use Rattle.answers.specs.Answer.{Answer, turned_back, state, nothing_ready, held, again, found, absent, process_closed}

-- The last answer comes where no test holds.
pub data Tests : Type 0 where
  else : (a : Answer) → Tests
  test : (b : Bool) (a : Answer) (others : Tests) → Tests

-- The answer of the first test that holds.
unfoldable pub result : Tests → Answer
result (else a) = a
result (test b a others) = cond b a (result others)

-- Test n and its answer; the last answer has a test that always holds.
unfoldable pub answer_of : Tests → ℕ → Answer
answer_of (else a) n = a
answer_of (test b a others) zero = a
answer_of (test b a others) (suc n) = answer_of others n

unfoldable pub test_of : Tests → ℕ → Bool
test_of (else a) n = true
test_of (test b a others) zero = b
test_of (test b a others) (suc n) = test_of others n

-- No test before number n holds.
unfoldable pub Failed : Tests → ℕ → Type 0
Failed ts zero = Unit {0}
Failed (else a) (suc n) = ⊥
Failed (test b a others) (suc n) = (b ≡ false) × Failed others n

-- There is a test n.
unfoldable pub within : Tests → ℕ → Bool
within ts zero = true
within (else a) (suc n) = false
within (test b a others) (suc n) = within others n

-- ---- Answers told apart

-- By their numbers, or by a number that is none.
unfoldable pub mark : Answer → ℕ
mark (turned_back n i) = n
mark (state c t k) = 1000
mark nothing_ready = 1001
mark (held n) = 1002
mark again = 1003
mark (found i) = 1004
mark absent = 1005
mark (process_closed n) = 1006

unfoldable pub lacks : ℕ → Tests → Bool
lacks n (else a) = cond (eqb n (mark a)) false true
lacks n (test b a others) = cond (eqb n (mark a)) false (lacks n others)

-- No two have the same.
unfoldable pub distinct : Tests → Bool
distinct (else a) = true
distinct (test b a others) = lacks (mark a) others && distinct others

-- ---- Laws

cond-false : (b c : Bool) → cond b false c ≡ true → (b ≡ false) × (c ≡ true)
cond-false true c h = absurd (true≢false (sym h))
cond-false false c h = (refl, h)

pub lacks-result : (n : ℕ) (ts : Tests) → lacks n ts ≡ true → n ≡ mark (result ts) → ⊥
unfolding lacks result
lacks-result n (else a) h q = eqb-false n (mark a) (cond-false (eqb n (mark a)) true h).0 q
lacks-result n (test true a others) h q = eqb-false n (mark a) (cond-false (eqb n (mark a)) _ h).0 q
lacks-result n (test false a others) h q = lacks-result n others (cond-false (eqb n (mark a)) _ h).1 q

lacks_answer : (n : ℕ) (ts : Tests) → lacks n ts ≡ true → (i : ℕ) → n ≡ mark (answer_of ts i) → ⊥
unfolding lacks answer_of
lacks_answer n (else a) h i q = eqb-false n (mark a) (cond-false (eqb n (mark a)) true h).0 q
lacks_answer n (test b a others) h zero q = eqb-false n (mark a) (cond-false (eqb n (mark a)) _ h).0 q
lacks_answer n (test b a others) h (suc i) q = lacks_answer n others (cond-false (eqb n (mark a)) _ h).1 i q

decided_by : (ts : Tests) → distinct ts ≡ true → (n : ℕ) → within ts n ≡ true
    → mark (result ts) ≡ mark (answer_of ts n)
    → Failed ts n × (test_of ts n ≡ true)
unfolding result answer_of test_of Failed within distinct
decided_by (else a) d zero i q = (tt, refl)
decided_by (else a) d (suc n) i q = absurd (true≢false (sym i))
decided_by (test true a others) d zero i q = (tt, refl)
decided_by (test true a others) d (suc n) i q =
    absurd (lacks_answer (mark a) others (and-true (lacks (mark a) others) (distinct others) d).0 n q)
decided_by (test false a others) d zero i q =
    absurd (lacks-result (mark a) others (and-true (lacks (mark a) others) (distinct others) d).0 (sym q))
decided_by (test false a others) d (suc n) i q =
    let x = decided_by others (and-true (lacks (mark a) others) (distinct others) d).1 n i q in
    ((refl, x.0), x.1)

gives_answer : (ts : Tests) (n : ℕ) → Failed ts n → test_of ts n ≡ true → result ts ≡ answer_of ts n
unfolding result answer_of test_of Failed
gives_answer (else a) zero h t = refl
gives_answer (else a) (suc n) h t = absurd h
gives_answer (test b a others) zero h t = rw t
gives_answer (test b a others) (suc n) h t = rw h.0 (gives_answer others n h.1 t)

-- ---- Theorems

pub first_decides : (ts : Tests) → distinct ts ≡ true → (n : ℕ) → within ts n ≡ true
    → (result ts ≡ answer_of ts n) ↔ (Failed ts n × (test_of ts n ≡ true))
first_decides ts d n i = ((λ q. decided_by ts d n i (ap mark q)), λ h. gives_answer ts n h.0 h.1)

-- By its mark alone.
pub marked : (ts : Tests) → distinct ts ≡ true → (n : ℕ) → within ts n ≡ true → (a : Answer)
    → mark a ≡ mark (answer_of ts n) → result ts ≡ a → Failed ts n × (a ≡ answer_of ts n)
marked ts d n i a e q =
    let h = decided_by ts d n i (ap mark q ∙ e) in
    (h.0, sym q ∙ gives_answer ts n h.0 h.1)

pub failed_next : (ts : Tests) (n : ℕ) → Failed ts (suc n) ↔ (Failed ts n × (test_of ts n ≡ false))
unfolding Failed test_of
failed_next (else a) zero = ((λ h. absurd h), λ h. absurd (true≢false h.1))
failed_next (else a) (suc n) = ((λ h. absurd h), λ h. absurd h.0)
failed_next (test b a others) zero = ((λ h. (tt, h.0)), λ h. (h.1, tt))
failed_next (test b a others) (suc n) =
    let x = failed_next others n in
    ((λ h. let y = x.0 h.1 in ((h.0, y.0), y.1)), λ h. (h.0.0, x.1 (h.0.1, h.1)))

-- None of them is an answer that has another mark.
pub never : (ts : Tests) (a : Answer) → lacks (mark a) ts ≡ true → result ts ≡ a → ⊥
never ts a h q = lacks-result (mark a) ts h (ap mark (sym q))
