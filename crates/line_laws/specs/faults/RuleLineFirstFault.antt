-- The rule's line is refused exactly by the fault whose turn comes first, and accepted exactly if it has none.
use Prim.Native.Nat.{ℕ, zero, suc, ◌+◌, ◌-◌, ◌≤◌, ◌<◌}
use native.Mathlib.Omega.{arith}
use Rattle.std.proofs.Common.{add-zero, zero-add, ap₂, ◌∙◌, inl, inr, get_or-take, length-take-le}
use Rattle.std.proofs.Math.Decide.{dec_lt}
use Rattle.std.proofs.Math.Path.{◌≡◌, sym}
use Rattle.std.specs.Prelude.{refl, ◌⊎◌, ◌&&◌, List, [], ◌∷◌, length, take}
use Rattle.std.proofs.Math.Dec.{ltb}
use borrow.Author.Tests.{ltb-true, ltb-false}
use Rattle.clocks.specs.stored.BoundedLaws.{and-true}
use Rattle.codec.specs.Ascii.{ascii}
use Rattle.rules.specs.Text.{byte_at}
use Rattle.rules.specs.Fault.{StandsAt}
use Rattle.rules.specs.Formula.{Formula}
use Rattle.rules.specs.Reader.{Reading, formed, faulty, read_rule}
use Rattle.rules.specs.grammar.GrammarTheorem.{reader_first_fault}
use Rattle.rules.specs.reading.WordLaws.{if_byte}
use Rattle.line_pieces.specs.Read.{Read, At, Refused}
use Rattle.line_pieces.specs.Reading.{then_byte, then_bytes, head_read, line_limit, limited}
use Rattle.lines.specs.RuleLine.{RuleLine, Rule, Refused as RuleRefused}
use Rattle.lines.specs.Lines.{rule_text, rule_closed, rule_of, rule_line}
use Rattle.line_laws.specs.RuleLineFault.{Departs, RuleFault, RuleFirstFault}
use Rattle.line_laws.specs.FirstFaults.{RuleLineFindsFirstFault, RuleLineAcceptsFaultless}
use Rattle.line_laws.specs.pieces.NumberTextRead.{if_known}
use Rattle.line_laws.specs.faults.TenIsFault.{not_at}
use Rattle.line_laws.specs.says.LineNumbers.{stands_bytes}

-- ---- The head

-- The bytes stand from place j on and are passed; or the first other one turns the line back by 1.
unfoldable Headed : List ℕ → List ℕ → ℕ → Read → Type 0
Headed s bs j r =
    (StandsAt s j bs × ((i : ℕ) × (v : ℕ) × (r ≡ At i v)))
    ⊎ ((i : ℕ) × ((i < length bs)
    × (StandsAt s j (take i bs) × ((byte_at s (j + i) ≡ byte_at bs i → ⊥) × (r ≡ Refused 1 (j + i))))))

fault_stays : (s bs : List ℕ) (n i : ℕ) → then_bytes s bs (Refused n i) ≡ Refused n i
unfolding then_bytes then_byte
fault_stays s [] n i = refl
fault_stays s (b ∷ bs) n i = fault_stays s bs n i

headed : (s bs : List ℕ) (j v : ℕ) → Headed s bs j (then_bytes s bs (At j v))
unfolding Headed then_bytes then_byte StandsAt
headed s [] j v = inl (tt, (j, v, refl))
headed s (b ∷ bs) j v =
    if_byte (λ (r : Read). Headed s (b ∷ bs) j (then_bytes s bs r)) (byte_at s j) b (At (j + 1) v) (Refused 1 j)
    (λ e. on e (headed s bs (j + 1) v))
    (λ f. inr (0, (omega arith, (tt, (λ e. f (rw (add-zero j) at e), fault_stays s bs 1 j ∙ rw (add-zero j))))))
  where
    on : byte_at s j ≡ b → Headed s bs (j + 1) (then_bytes s bs (At (j + 1) v))
        → Headed s (b ∷ bs) j (then_bytes s bs (At (j + 1) v))
    on e (inl (h, q)) = inl ((e, h), q)
    on e (inr (i, (l, (h, (f, q))))) =
        let z : j + 1 + i ≡ j + suc i = omega arith in
        inr (suc i, (omega arith, ((e, h), (rw z at f, rw z at q))))

-- Where the bytes stand, the line does not depart from them.
never_departs : (s bs : List ℕ) (i : ℕ) → StandsAt s 0 bs → Departs bs s i → ⊥
never_departs s bs i h d = let z : 0 + i ≡ i = omega arith in d.other (rw z at (stands_bytes s bs 0 i h d.within))

departs_not-before : (s bs : List ℕ) (i j : ℕ) → i < j → Departs bs s i → Departs bs s j → ⊥
departs_not-before s bs i j l d e =
    let z : 0 + i ≡ i = omega arith in
    let long : i < length (take j bs) = let n = length-take-le j bs (omega (arith, e.within)) in omega (arith, n) in
    d.other (rw z at (stands_bytes s (take j bs) 0 i e.before long) ∙ get_or-take j bs i 256 l)

departs_once : (s bs : List ℕ) (i j : ℕ) → Departs bs s i → Departs bs s j → i ≡ j
departs_once s bs i j d e = go (dec_lt i j) (dec_lt j i)
  where
    go : Dec (i < j) → Dec (j < i) → i ≡ j
    go (yes l) q = absurd (departs_not-before s bs i j l d e)
    go (no l) (yes k) = absurd (departs_not-before s bs j i k e d)
    go (no l) (no k) = omega arith

-- ---- The line's answer

-- Refused: that fault's turn comes first. Accepted: no fault.
unfoldable Answered : List ℕ → ℕ → RuleLine → Type 0
Answered s k (Rule start end) = (turn n i : ℕ) → RuleFault turn n s k i → ⊥
Answered s k (RuleRefused n i) = RuleFirstFault n s k i

module _ (s : List ℕ) (k : ℕ) where
  -- Behind the head.
  after-head : StandsAt s 0 (ascii "(rule ") → (t m j : ℕ) → t < 1 → RuleFault t m s k j → ⊥
  unfolding RuleFault
  after-head h zero m j l (q, d) = never_departs s (ascii "(rule ") j h d
  after-head h (suc t) m j l f = omega arith

  -- And with a length within the limit.
  after-length : StandsAt s 0 (ascii "(rule ") → length s ≤ line_limit → (t m j : ℕ) → t < 2 → RuleFault t m s k j → ⊥
  unfolding RuleFault
  after-length h short zero m j l f = after-head h zero m j (omega arith) f
  after-length h short (suc zero) m j l (q, (p, o)) = omega arith
  after-length h short (suc (suc t)) m j l f = omega arith

  -- And with a rule that is read.
  after_rule : StandsAt s 0 (ascii "(rule ") → length s ≤ line_limit → (e : ℕ) (g : Formula)
      → read_rule (rule_text s) k ≡ formed e g
      → (t m j : ℕ) → t < 3 → RuleFault t m s k j → ⊥
  unfolding RuleFault
  after_rule h short e g r zero m j l f = after-head h zero m j (omega arith) f
  after_rule h short e g r (suc zero) m j l f = after-length h short (suc zero) m j (omega arith) f
  after_rule h short e g r (suc (suc zero)) m j l f =
      let q : formed e g ≡ faulty m j = sym r ∙ (reader_first_fault (rule_text s) k m j).1 f in
      let z : ◌≡◌ {A = ℕ} 0 1 = cc in
      omega arith
  after_rule h short e g r (suc (suc (suc t))) m j l f = omega arith

  closed_answered : StandsAt s 0 (ascii "(rule ") → length s ≤ line_limit → (r : Reading) → read_rule (rule_text s) k ≡ r
      → Answered s k (rule_closed s r)
  unfolding Answered rule_closed RuleFault
  closed_answered h short (faulty n i) e =
      record { turn = 2; here = (reader_first_fault (rule_text s) k n i).0 e; none_before = after-length h short }
  closed_answered h short (formed i f) e =
      if_byte (Answered s k) (byte_at s (length s - 1)) 41 (Rule 6 (length s - 1)) (RuleRefused 1 (length s - 1))
      (λ b. faultless b)
      (λ b. record { turn = 3; here = (refl, (refl, b)); none_before = after_rule h short i f e })
    where
      faultless : byte_at s (length s - 1) ≡ 41 → (turn n j : ℕ) → RuleFault turn n s k j → ⊥
      faultless b zero n j x = after_rule h short i f e zero n j (omega arith) x
      faultless b (suc zero) n j x = after_rule h short i f e (suc zero) n j (omega arith) x
      faultless b (suc (suc zero)) n j x = after_rule h short i f e (suc (suc zero)) n j (omega arith) x
      faultless b (suc (suc (suc zero))) n j (q, (p, o)) = o (rw p b)
      faultless b (suc (suc (suc (suc t)))) n j x = x

  head-answered : (r : Read) → Headed s (ascii "(rule ") 0 r → Answered s k (rule_of s k (limited s r))
  unfolding Headed limited rule_of Answered RuleFault
  head-answered (At i v) (inl (h, q)) =
      if_known (λ (x : Read). Answered s k (rule_of s k x)) (ltb line_limit (length s)) (Refused 10 line_limit) (At i v)
      (λ t. record { turn = 1; here = (refl, (refl, ltb-true line_limit (length s) t)); none_before = after-head h })
      (λ t. closed_answered h (ltb-false line_limit (length s) t) (read_rule (rule_text s) k) refl)
  head-answered (Refused n i) (inl (h, (a, b, e))) = absurd (not_at a b n i (sym e))
  head-answered (At i v) (inr (j, (l, (h, (f, e))))) = absurd (not_at i v 1 (0 + j) e)
  head-answered (Refused n i) (inr (j, (l, (h, (f, e))))) =
      if_known (λ (x : Read). Answered s k (rule_of s k x)) (ltb line_limit (length s) && ltb line_limit i)
      (Refused 10 line_limit) (Refused n i)
      (λ t. absurd (omega (
        arith,
        ltb-true line_limit i (and-true (ltb line_limit (length s)) (ltb line_limit i) t).1,
        place,
      )))
      (λ _. record { turn = 0; here = (number, departs); none_before = λ t m q y. absurd (omega arith) })
    where
      number : n ≡ 1
      number = cc

      place : i ≡ j
      place = let z : i ≡ 0 + j = cc in omega arith

      departs : Departs (ascii "(rule ") s i
      departs = record { within = omega (arith, place); before = rw place h; other = rw place (rw (zero-add j) at f) }

  rule_answered : Answered s k (rule_line s k)
  unfolding rule_line
  rule_answered = head-answered (head_read s (ascii "(rule ")) (headed s (ascii "(rule ") 0 0)

  -- ---- A line has one first fault

  same_turn : (t n m i j : ℕ) → RuleFault t n s k i → RuleFault t m s k j → (n ≡ m) × (i ≡ j)
  unfolding RuleFault
  same_turn zero n m i j (a, d) (b, e) = (a ∙ sym b, departs_once s (ascii "(rule ") i j d e)
  same_turn (suc zero) n m i j (a, (p, _)) (b, (q, _)) = (a ∙ sym b, p ∙ sym q)
  same_turn (suc (suc zero)) n m i j x y =
      let e : faulty n i ≡ faulty m j =
      sym ((reader_first_fault (rule_text s) k n i).1 x) ∙ (reader_first_fault (rule_text s) k m j).1 y in (cc, cc)
  same_turn (suc (suc (suc zero))) n m i j (a, (p, _)) (b, (q, _)) = (a ∙ sym b, p ∙ sym q)
  same_turn (suc (suc (suc (suc t)))) n m i j x y = absurd x

  first_once : (n m i j : ℕ) → RuleFirstFault n s k i → RuleFirstFault m s k j → (n ≡ m) × (i ≡ j)
  first_once n m i j x y = go (dec_lt x.turn y.turn) (dec_lt y.turn x.turn)
    where
      go : Dec (x.turn < y.turn) → Dec (y.turn < x.turn) → (n ≡ m) × (i ≡ j)
      go (yes l) q = absurd (y.none_before x.turn n i l x.here)
      go (no l) (yes q) = absurd (x.none_before y.turn m j q y.here)
      go (no l) (no q) = let z : y.turn ≡ x.turn = omega arith in
          same_turn x.turn n m i j x.here (rw z at y.here)

-- ---- The theorem

pub rule_line-first_fault : RuleLineFindsFirstFault
unfolding Answered
rule_line-first_fault s k n i = (λ e. rw e at (rule_answered s k), λ f. go f (rule_line s k) refl (rule_answered s k))
  where
    go : RuleFirstFault n s k i → (r : RuleLine) → rule_line s k ≡ r → Answered s k r → rule_line s k ≡ RuleRefused n i
    go f (Rule start end) e none = absurd (none f.turn n i f.here)
    go f (RuleRefused m j) e g = let same = first_once s k m n j i g f in e ∙ ap₂ RuleRefused same.0 same.1

pub rule_line_faultless : RuleLineAcceptsFaultless
unfolding Answered
rule_line_faultless s k =
    (λ x. rw x.2 at (rule_answered s k), λ none. go none (rule_line s k) refl (rule_answered s k))
  where
    go : ((turn n i : ℕ) → RuleFault turn n s k i → ⊥) → (r : RuleLine) → rule_line s k ≡ r → Answered s k r
        → (start : ℕ) × (end : ℕ) × (rule_line s k ≡ Rule start end)
    go none (Rule start end) e g = (start, end, e)
    go none (RuleRefused m j) e g = absurd (none g.turn m j g.here)
