use Rattle.std.proofs.Common.{ℕ, ◌+◌, ◌≡◌, true, false, sym, ◌∙◌, ap, List, [], ◌∷◌, length, get_or, drop, arith, drop_of_length-le}
use Rattle.rules.specs.Text.{byte_at}
use Rattle.rules.specs.reading.TextLaws.{byte_at_inside}
use Rattle.codec.specs.Decimal.{is_digit, digits, value}
use Rattle.line_pieces.specs.NumberLaws.{digits_next, digits-end}
use Rattle.line_pieces.specs.Digits.{Says, DigitsRead, grown}
use Rattle.line_pieces.proofs.number.NumberSteps.{says_next}
use Rattle.line_pieces.proofs.number.read_digits.Goals as goal

-- Where no digit is to come, that is the answer.
read : (s : List ℕ) (i end v : ℕ) → i + length (digits (drop i s)) ≡ end + length (digits (drop end s))
    → Says v (digits (drop end s)) (value (digits (drop i s)))
    → digits (drop end s) ≡ [] → DigitsRead s i end v
read s i end v h q e = record { ends = omega (arith, ap length e); says = rw e at q }

pub returns-then-not-is_ascii_digit : goal.returns-then-not-is_ascii_digit
returns-then-not-is_ascii_digit c =
    let l = c.loop-end in
    let s = c.args.line.now in
    let none : is_digit (get_or s l.end 0) ≡ false =
    sym c.is_ascii_digit.ensures.value ∙ c.if-not-is_ascii_digit.true in
    read s _ l.end l.value l.invariant.ends l.invariant.says
    (digits-end s l.end (rw (← byte_at_inside s l.end c.loop-end-test.true) none))

pub loop-end-preserved : goal.loop-end-preserved
loop-end-preserved c =
    let l = c.loop-end in
    let s = c.args.line.now in
    let here = byte_at_inside s l.end c.loop-end-test.true in
    let some : is_digit (get_or s l.end 0) ≡ true =
    sym c.is_ascii_digit.ensures.value ∙ c.if-not-is_ascii_digit.false in
    let e : digits (drop l.end s) ≡ byte_at s l.end ∷ digits (drop (l.end + 1) s) =
    digits_next s l.end (rw (← here) some) in
    let g : c.grown-value.result ≡ grown l.value (byte_at s l.end) = rw (← here) c.grown-value.ensures in
    record {
      within = omega arith;
      ends = omega (arith, l.invariant.ends, ap length e);
      says = rw g (says_next l.value (byte_at s l.end) (digits (drop (l.end + 1) s)) _ (rw e at l.invariant.says));
    }

pub returns : goal.returns
unfolding digits
returns c =
    let l = c.loop-end in
    let s = c.args.line.now in
    let last : c.max.result ≡ l.end = omega arith in
    let e : digits (drop l.end s) ≡ [] = rw (drop_of_length-le s c.loop-end-test.false) in
    rw last (read s _ l.end l.value l.invariant.ends l.invariant.says e)
