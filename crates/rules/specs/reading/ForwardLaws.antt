-- The reader goes forward: what it answers stands at or behind the place where it began.
use Prim.Native.Nat.{ℕ, zero, suc, ◌+◌, ◌≤◌, ◌-◌}
use Rattle.std.proofs.Common.{arith}
use Rattle.std.specs.Prelude.{Bool, true, false, cond, ◌&&◌, List, [], ◌∷◌, leb, ltb}
use Rattle.rules.specs.declared.Constant.TheVariants.{True, False}
use Rattle.rules.specs.declared.Unary.TheVariants.{Not}
use Rattle.rules.specs.declared.Binary.{Binary}
use Rattle.rules.specs.declared.Binary.TheVariants.{And, Or}
use Rattle.rules.specs.Line.{line_count}
use Rattle.rules.specs.reading.WordLaws.{if_byte, rest_case}
use Rattle.rules.specs.Text.{byte_at}
use Rattle.rules.specs.Formula.{Formula, constant, unary, binary}
use Rattle.rules.specs.Reader.{rest_at, a_word_at, e_word_at, word_at, Reading, and_then, expect, expect_digit, close_at, atom_at, inner_with, unary_with, binary_with, body_with, form_at, formed, faulty}
use Rattle.rules.specs.WordRead.{WordRead, AtWord, ConstantWord, UnaryWord, BinaryWord, NoWord}

-- The place of an answer: that of the byte behind a form, or of a fault.
unfoldable pub place : Reading → ℕ
place (formed j f) = j
place (faulty n j) = j

-- The place of a word's answer.
unfoldable pub word_place : WordRead → ℕ
word_place (AtWord j) = j
word_place (ConstantWord w j) = j
word_place (UnaryWord w j) = j
word_place (BinaryWord w j) = j
word_place (NoWord j) = j

-- Words

rest_from : (m : ℕ) (s : List ℕ) (i : ℕ) (bs : List ℕ) (word : WordRead) → m ≤ i → m ≤ word_place word → m ≤ word_place (rest_at s i bs word)
unfolding word_place
rest_from m s i bs word h q = rest_case (λ w. m ≤ word_place w) s i bs word (λ _. q) (λ j l p. omega arith)

pub a_word_from : (s : List ℕ) (i : ℕ) → i ≤ word_place (a_word_at s i)
unfolding word_place a_word_at
a_word_from s i =
    let P : WordRead → Type 0 = λ w. i ≤ word_place w in
    let c = byte_at s i in
    if_byte P c 116 _ _ (λ _. omega arith)
    (λ _. if_byte P c 115 _ _ (λ _. omega arith)
    (λ _. if_byte P c 112 _ _ (λ _. omega arith)
    (λ _. if_byte P c 121 _ _ (λ _. omega arith)
    (λ _. if_byte P c 104 _ _ (λ _. omega arith)
    (λ _. if_byte P c 110 _ _ (λ _. rest_from i s (i + 1) (100 ∷ []) (BinaryWord And (i + 2)) (omega arith) (omega arith))
    (λ _. omega arith))))))

pub e_word_from : (s : List ℕ) (i : ℕ) → i ≤ word_place (e_word_at s i)
unfolding word_place e_word_at
e_word_from s i =
    let P : WordRead → Type 0 = λ w. i ≤ word_place w in
    let c = byte_at s i in
    if_byte P c 121 _ _ (λ _. omega arith)
    (λ _. if_byte P c 115 _ _ (λ _. omega arith)
    (λ _. if_byte P c 112 _ _ (λ _. omega arith)
    (λ _. if_byte P c 104 _ _ (λ _. omega arith)
    (λ _. omega arith))))

pub word_from : (s : List ℕ) (i : ℕ) → i ≤ word_place (word_at s i)
unfolding word_place word_at
word_from s i =
    let P : WordRead → Type 0 = λ w. i ≤ word_place w in
    let c = byte_at s i in
    if_byte P c 97 _ _ (λ _. omega (arith, a_word_from s (i + 1)))
    (λ _. if_byte P c 101 _ _ (λ _. omega (arith, e_word_from s (i + 1)))
    (λ _. if_byte P c 110 _ _ (λ _. rest_from i s (i + 1) (111 ∷ 116 ∷ []) (UnaryWord Not (i + 3)) (omega arith) (omega arith))
    (λ _. if_byte P c 116 _ _ (λ _. rest_from i s (i + 1) (114 ∷ 117 ∷ 101 ∷ []) (ConstantWord True (i + 4)) (omega arith) (omega arith))
    (λ _. if_byte P c 102 _ _ (λ _. rest_from i s (i + 1) (97 ∷ 108 ∷ 115 ∷ 101 ∷ []) (ConstantWord False (i + 5)) (omega arith) (omega arith))
    (λ _. if_byte P c 111 _ _ (λ _. rest_from i s (i + 1) (114 ∷ []) (BinaryWord Or (i + 2)) (omega arith) (omega arith))
    (λ _. omega arith))))))

-- Forms

expect_from : (m : ℕ) (s : List ℕ) (i b : ℕ) (r : Reading) → m ≤ i → m ≤ place r → m ≤ place (expect s i b r)
unfolding expect place
expect_from m s i b r h q = if_byte (λ x. m ≤ place x) (byte_at s i) b r (faulty 1 i) (λ _. q) (λ _. h)

cond_from : (m : ℕ) (t : Bool) (x y : Reading) → m ≤ place x → m ≤ place y → m ≤ place (cond t x y)
cond_from m true x y p q = p
cond_from m false x y p q = q

expect_digit_from : (m : ℕ) (s : List ℕ) (i bound : ℕ) (r : Reading) → m ≤ i → m ≤ place r → m ≤ place (expect_digit s i bound r)
unfolding expect_digit place
expect_digit_from m s i bound r h q =
    cond_from m (leb 48 (byte_at s i) && leb (byte_at s i) 57) _ _
    (cond_from m (ltb (byte_at s i - 48) bound) r (faulty 4 i) q h) h

pub close_at_from : (m : ℕ) (s : List ℕ) (closed i : ℕ) (f : Formula) → m ≤ i → m ≤ place (close_at s closed i f)
unfolding close_at place
close_at_from m s closed i f h =
    expect_from m s i 41 _ h (cond_from m (leb (closed + line_count f) 64) (formed (i + 1) f) (faulty 3 i) (omega arith)
    h)

and_then_from : (m : ℕ) (r : Reading) (next : ℕ → Formula → Reading) → m ≤ place r
    → ((j : ℕ) (f : Formula) → m ≤ j → m ≤ place (next j f)) → m ≤ place (and_then r next)
unfolding and_then place
and_then_from m (formed j f) next p q = q j f p
and_then_from m (faulty n j) next p q = p

module _ (s : List ℕ) (k : ℕ) where
  -- A reader of forms that goes forward.
  abbrev pub Forward : (ℕ → ℕ → Reading) → Type 0
  Forward reader = (closed i : ℕ) → i ≤ place (reader closed i)

  inner_from : (m : ℕ) (reader : ℕ → ℕ → Reading) → Forward reader → (closed i : ℕ) → m ≤ i → m ≤ place (inner_with reader s closed i)
  unfolding inner_with
  inner_from m reader forward closed i h = expect_from m s i 32 _ h (omega (arith, forward closed (i + 1)))

  pub second_from : (m : ℕ) (reader : ℕ → ℕ → Reading) → Forward reader → (closed : ℕ) (w : Binary) (j : ℕ) (f : Formula) → m ≤ j
      → m ≤ place (and_then (inner_with reader s (closed + line_count f) j) (λ l g. close_at s closed l (binary w f g)))
  second_from m reader forward closed w j f h =
      and_then_from m (inner_with reader s (closed + line_count f) j) _ (inner_from m reader forward (closed + line_count f) j h)
      (λ l g. close_at_from m s closed l (binary w f g))

  pub body_from : (reader : ℕ → ℕ → Reading) → Forward reader → (closed m : ℕ) (word : WordRead) → m ≤ word_place word
      → m ≤ place (body_with reader s k closed word)
  unfolding body_with word_place atom_at unary_with binary_with
  body_from reader forward closed m (AtWord l) h =
      expect_from m s l 32 _ h
      (expect_digit_from m s (l + 1) k _ (omega arith)
      (expect_from m s (l + 2) 32 _ (omega arith)
      (expect_digit_from m s (l + 3) 8 _ (omega arith)
      (close_at_from m s closed (l + 4) _ (omega arith)))))
  body_from reader forward closed m (ConstantWord w l) h = close_at_from m s closed l (constant w) h
  body_from reader forward closed m (UnaryWord w l) h =
      and_then_from m (inner_with reader s closed l) _ (inner_from m reader forward closed l h)
      (λ j f. close_at_from m s closed j (unary w f))
  body_from reader forward closed m (BinaryWord w l) h =
      and_then_from m (inner_with reader s closed l) _ (inner_from m reader forward closed l h)
      (λ j f. second_from m reader forward closed w j f)
  body_from reader forward closed m (NoWord l) h = unfold place in h

  pub form_at_from : (a : ℕ) → Forward (form_at a s k)
  unfolding form_at
  form_at_from zero closed i = expect_from i s i 40 (faulty 2 i) (omega arith) (unfold place in (omega arith))
  form_at_from (suc a) closed i =
      expect_from i s i 40 _ (omega arith)
      (body_from (form_at a s k) (form_at_from a) closed i (word_at s (i + 1)) (omega (arith, word_from s (i + 1))))
