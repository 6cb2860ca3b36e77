-- The rule's line: where the rule stands, and that no rule is empty.
use Rattle.std.proofs.Common.{ℕ, ◌-◌, ◌≤◌, ◌<◌, ◌≡◌, refl, ◌∙◌, Bool, true, false, cond, List, [], length, take, drop, ltb, eqb, arith, Result, Ok, Err}
use borrow.Author.Tests.{eq-eqb, ltb-true, ltb-false}
use Rattle.numbers.specs.declared.fault.Fault.{Fault}
use Rattle.rules.specs.RuleRead.{Accepted, Refused as TextRefused}
use Rattle.rules.specs.Text.{byte_at}
use Rattle.rules.specs.Reader.{Reading, formed, faulty, read_rule, form_at, expect, and_then}
use Rattle.rules.specs.RuleTable.{answer_of, rule_answer}
use Rattle.lines.proofs.LineSteps.{Agrees, line_limited}
use Rattle.line_pieces.specs.declared.Here.{Here}
use Rattle.line_pieces.specs.Read.{Read}
use Rattle.line_pieces.specs.Reading.{limited}
use Rattle.line_pieces.specs.ReadingCode.{read_of, within_limit}
use Rattle.lines.specs.RuleLine.{Rule, Refused}
use Rattle.lines.specs.Lines.{rule_text, rule_closed}

-- The rule's bytes in a line that has some.
pub text_short : (s : List ℕ) → length s < 7 → rule_text s ≡ []
unfolding rule_text
text_short s h = let e : length s - 7 ≡ 0 = omega arith in rw e

pub text_long : (s : List ℕ) (end : ℕ) → 7 ≤ length s → end ≡ length s - 1 → rule_text s ≡ take (end - 6) (drop 6 s)
unfolding rule_text
text_long s end h e = let q : length s - 7 ≡ end - 6 = omega arith in rw q

-- No text is empty.
pub empty_refused : (k : ℕ) → read_rule [] k ≡ faulty 1 0
unfolding read_rule form_at expect and_then
empty_refused k = refl

-- The answer on the rule's bytes, as the code asks for it.
pub text_answer : (s text : List ℕ) (k : ℕ) (old : List ℕ) → text ≡ rule_text s → length old ≡ 192
    → rule_answer text k old ≡ answer_of (read_rule (rule_text s) k)
unfolding rule_answer
text_answer s text k old e h = rw (eq-eqb (length old) 192 h, e)

-- What the code's answer on a text says of the line.
module _ (s : List ℕ) (k : ℕ) where
  pub closed_refused : (n i : ℕ) → TextRefused n i ≡ answer_of (read_rule (rule_text s) k)
      → Refused n i ≡ rule_closed s (read_rule (rule_text s) k)
  unfolding answer_of rule_closed
  closed_refused n i h = go (read_rule (rule_text s) k) h
    where
      go : (r : Reading) → TextRefused n i ≡ answer_of r → Refused n i ≡ rule_closed s r
      go (formed j f) e = cc
      go (faulty m j) e = cc

  pub closed_accepted : (n : ℕ) → Accepted n ≡ answer_of (read_rule (rule_text s) k)
      → rule_closed s (read_rule (rule_text s) k) ≡ cond (eqb (byte_at s (length s - 1)) 41) (Rule 6 (length s - 1))
      (Refused 1 (length s - 1))
  unfolding answer_of rule_closed
  closed_accepted n h = go (read_rule (rule_text s) k) h
    where
      go : (r : Reading) → Accepted n ≡ answer_of r
          → rule_closed s r
          ≡ cond (eqb (byte_at s (length s - 1)) 41) (Rule 6 (length s - 1)) (Refused 1 (length s - 1))
      go (formed j f) e = refl
      go (faulty m j) e = cc

  -- A line whose rule is accepted has the rule's first byte and the last one.
  pub accepted_long : (n : ℕ) → Accepted n ≡ answer_of (read_rule (rule_text s) k) → 7 ≤ length s
  unfolding answer_of
  accepted_long n h = go (ltb (length s) 7) refl
    where
      go : (t : Bool) → ltb (length s) 7 ≡ t → 7 ≤ length s
      go true e =
          let refused : Accepted n ≡ TextRefused 1 0 =
          h ∙ rw (text_short s (ltb-true (length s) 7 e), empty_refused k) in
          cc
      go false e = ltb-false (length s) 7 e

-- The line's head, and the limit on the line's bytes.
agrees : (head : Result Here Fault) → Agrees (read_of head) head
agrees (Ok here) = tt
agrees (Err f) = (refl, refl)

pub head_limited : (s : List ℕ) (head first : Result Here Fault) {r : Read} → read_of head ≡ r
    → first ≡ within_limit s head → read_of first ≡ limited s r
head_limited s head first h e =
    rw (e, ← h) (line_limited read_of (λ r. r) (λ n i f p q. rw (p, q)) s _ head (agrees head) refl)
