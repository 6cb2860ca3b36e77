-- A fault's place is below 1,024, however long the text is: each closed form has at most 9 bytes a line, each open one
-- at most 8.
use Prim.Native.Nat.{ℕ, zero, suc, ◌+◌, ◌-◌, ◌*◌, ◌≤◌}
use Rattle.std.proofs.Common.{arith, subst, length-append}
use Rattle.std.specs.Prelude.{◌≡◌, refl, Bool, true, false, cond, ◌&&◌, List, leb, ltb, length}
use Rattle.rules.specs.declared.Constant.{Constant}
use Rattle.rules.specs.declared.Constant.TheVariants.{True, False}
use Rattle.rules.specs.declared.Unary.{Unary}
use Rattle.rules.specs.declared.Unary.TheVariants.{Not, Ey, Ep, Ap, Ay, Eh, Ah}
use Rattle.rules.specs.declared.Binary.{Binary}
use Rattle.rules.specs.declared.Binary.TheVariants.{And, Es, As, Or}
use Rattle.rules.specs.WordRead.{WordRead, AtWord, ConstantWord, UnaryWord, BinaryWord, NoWord}
use Rattle.rules.specs.Formula.{Formula, atom, constant, unary, binary}
use Rattle.rules.specs.Line.{constant_weight, unary_weight, binary_weight, line_count}
use Rattle.rules.specs.Text.{byte_at, constant_letters, unary_letters, binary_letters, text_of}
use Rattle.rules.specs.Reader.{word_at, Reading, formed, faulty, and_then, expect, expect_digit, close_at, atom_at, inner_with, unary_with, binary_with, body_with, form_at, read_rule}
use Rattle.rules.specs.Fault.{FaultPlaceBelow1024}
use Rattle.rules.specs.reading.WordLaws.{WordSpan, word_at_span, if_byte}
use Rattle.rules.specs.reading.ReaderLaws.{form_at-formed, Sound, inner_formed}

-- Words and texts are short

pub constant_short : (w : Constant) → (length (constant_letters w) ≤ 5) × (length (constant_letters w) + 3 ≤ 9 * constant_weight w)
unfolding constant_letters constant_weight
constant_short True = omega arith
constant_short False = omega arith

pub unary_short : (w : Unary) → (length (unary_letters w) ≤ 3) × (1 ≤ unary_weight w)
unfolding unary_letters unary_weight
unary_short Not = omega arith
unary_short Ey = omega arith
unary_short Ep = omega arith
unary_short Ap = omega arith
unary_short Ay = omega arith
unary_short Eh = omega arith
unary_short Ah = omega arith

pub binary_short : (w : Binary) → (length (binary_letters w) ≤ 3) × (1 ≤ binary_weight w)
unfolding binary_letters binary_weight
binary_short And = omega arith
binary_short Es = omega arith
binary_short As = omega arith
binary_short Or = omega arith

-- A form's text, with a byte more, has at most nine bytes for each of its lines.
pub length-text_of : (f : Formula) → length (text_of f) + 1 ≤ 9 * line_count f
unfolding text_of line_count
length-text_of (atom p b) = omega arith
length-text_of (constant w) = simp length-append (omega (arith, (constant_short w).1))
length-text_of (unary w f) = simp length-append (omega (arith, (unary_short w).0, (unary_short w).1, length-text_of f))
length-text_of (binary w f g) =
    simp length-append (omega (arith, (binary_short w).0, (binary_short w).1, length-text_of f, length-text_of g))

-- A fault at most so far on.
unfoldable pub FaultBy : ℕ → Reading → Type 0
FaultBy limit (formed j f) = Unit {0}
FaultBy limit (faulty n j) = j ≤ limit

weaken : (m n : ℕ) (r : Reading) → m ≤ n → FaultBy m r → FaultBy n r
unfolding FaultBy
weaken m n (formed j f) h p = tt
weaken m n (faulty l j) h p = omega arith

expect_by : (limit : ℕ) (s : List ℕ) (i b : ℕ) (r : Reading) → i ≤ limit → FaultBy limit r → FaultBy limit (expect s i b r)
unfolding expect FaultBy
expect_by limit s i b r h q = if_byte (FaultBy limit) (byte_at s i) b r (faulty 1 i) (λ _. q) (λ _. h)

cond_by : (limit : ℕ) (t : Bool) (x y : Reading) → FaultBy limit x → FaultBy limit y → FaultBy limit (cond t x y)
cond_by limit true x y p q = p
cond_by limit false x y p q = q

expect_digit_by : (limit : ℕ) (s : List ℕ) (i bound : ℕ) (r : Reading) → i ≤ limit → FaultBy limit r → FaultBy limit (expect_digit s i bound r)
unfolding expect_digit FaultBy
expect_digit_by limit s i bound r h q =
    cond_by limit (leb 48 (byte_at s i) && leb (byte_at s i) 57) _ _
    (cond_by limit (ltb (byte_at s i - 48) bound) r (faulty 4 i) q h) h

close_at_by : (limit : ℕ) (s : List ℕ) (closed i : ℕ) (f : Formula) → i ≤ limit → FaultBy limit (close_at s closed i f)
unfolding close_at FaultBy
close_at_by limit s closed i f h =
    expect_by limit s i 41 _ h (cond_by limit (leb (closed + line_count f) 64) (formed (i + 1) f) (faulty 3 i) tt h)

and_then_by : (limit : ℕ) (r : Reading) (next : ℕ → Formula → Reading) → FaultBy limit r
    → ((j : ℕ) (f : Formula) → r ≡ formed j f → FaultBy limit (next j f)) → FaultBy limit (and_then r next)
unfolding and_then FaultBy
and_then_by limit (formed j f) next p q = q j f refl
and_then_by limit (faulty n j) next p q = p

-- How far a fault can be from a form's place, with brackets nested at most a deep and after forms with `closed` lines.
abbrev limit_from : ℕ → ℕ → ℕ → ℕ
limit_from a closed i = i + 9 * (64 - closed) + 8 * a

module _ (s : List ℕ) (k : ℕ) where
  abbrev By : ℕ → (ℕ → ℕ → Reading) → Type 0
  By a reader = (closed i : ℕ) → FaultBy (limit_from a closed i) (reader closed i)

  inner_by : (a : ℕ) (reader : ℕ → ℕ → Reading) → By a reader → (limit closed i : ℕ) → i ≤ limit → limit_from a closed (i + 1) ≤ limit
      → FaultBy limit (inner_with reader s closed i)
  unfolding inner_with
  inner_by a reader by limit closed i h q = expect_by limit s i 32 _ h (weaken _ limit _ q (by closed (i + 1)))

  body_by : (a : ℕ) (reader : ℕ → ℕ → Reading) → Sound s k a reader → By a reader → (closed i : ℕ) (word : WordRead)
      → WordSpan s (i + 1) word → FaultBy (limit_from (suc a) closed i) (body_with reader s k closed word)
  unfolding body_with WordSpan atom_at unary_with binary_with
  body_by a reader sound by closed i (AtWord l) p =
      let m = limit_from (suc a) closed i in
      expect_by m s l 32 _ (omega (arith, p.ends))
      (expect_digit_by m s (l + 1) k _ (omega (arith, p.ends))
      (expect_by m s (l + 2) 32 _ (omega (arith, p.ends))
      (expect_digit_by m s (l + 3) 8 _ (omega (arith, p.ends))
      (close_at_by m s closed (l + 4) _ (omega (arith, p.ends))))))
  body_by a reader sound by closed i (ConstantWord w l) p =
      close_at_by _ s closed l (constant w) (omega (arith, p.ends, (constant_short w).0))
  body_by a reader sound by closed i (UnaryWord w l) p =
      let m = limit_from (suc a) closed i in
      let near : l ≤ i + 4 = omega (arith, p.ends, (unary_short w).0) in
      and_then_by m (inner_with reader s closed l) _
      (inner_by a reader by m closed l (omega arith) (omega arith))
      (λ j f e.
      let x = (inner_formed s k a reader sound closed l j f e).1 in
      close_at_by m s closed j (unary w f) (omega (arith, x.span.ends, x.short, length-text_of f)))
  body_by a reader sound by closed i (BinaryWord w l) p =
      let m = limit_from (suc a) closed i in
      let near : l ≤ i + 4 = omega (arith, p.ends, (binary_short w).0) in
      and_then_by m (inner_with reader s closed l) _
      (inner_by a reader by m closed l (omega arith) (omega arith))
      (λ j f e.
      let x = (inner_formed s k a reader sound closed l j f e).1 in
      and_then_by m (inner_with reader s (closed + line_count f) j) _
      (inner_by a reader by m (closed + line_count f) j
      (omega (arith, x.span.ends, x.short, length-text_of f))
      (omega (arith, x.span.ends, x.short, length-text_of f)))
      (λ j' g e'.
      let y = (inner_formed s k a reader sound (closed + line_count f) j j' g e').1 in
      close_at_by m s closed j' (binary w f g)
      (omega (arith, x.span.ends, y.span.ends, y.short, length-text_of f, length-text_of g))))
  body_by a reader sound by closed i (NoWord l) p = unfold FaultBy in (omega arith)

  pub form_at_by : (a : ℕ) → By a (form_at a s k)
  unfolding form_at
  form_at_by zero closed i = expect_by _ s i 40 (faulty 2 i) (omega arith) (unfold FaultBy in (omega arith))
  form_at_by (suc a) closed i =
      expect_by _ s i 40 _ (omega arith)
      (body_by a (form_at a s k) (form_at-formed s k a) (form_at_by a) closed i (word_at s (i + 1)) (word_at_span s (i + 1)))

read_rule_by : (s : List ℕ) (k : ℕ) → FaultBy 832 (read_rule s k)
unfolding read_rule FaultBy
read_rule_by s k =
    and_then_by 832 (form_at 32 s k 0 0) _ (form_at_by s k 32 0 0)
    (λ j f e.
    let x = form_at-formed s k 32 0 0 j f e in
    cond_by 832 (ltb j (length s)) (faulty 1 j) (formed j f) (omega (arith, x.span.ends, x.short, length-text_of f))
    tt)

-- A first fault stands below 1,024, however long the text is.
pub fault_place : FaultPlaceBelow1024
unfolding FaultBy
fault_place s k n i h =
    let by : i ≤ 832 = subst (FaultBy 832) h (read_rule_by s k) in
    omega arith
