-- The reader of rules: from a text to the form that it is, or to the first fault and its place. No byte is read twice.
use Rattle.std.specs.Prelude.{ℕ, zero, suc, ◌+◌, ◌-◌, cond, ◌&&◌, List, [], ◌∷◌, leb, ltb, eqb, length}
use Rattle.rules.specs.declared.Constant.TheVariants.{True, False}
use Rattle.rules.specs.declared.Unary.{Unary}
use Rattle.rules.specs.declared.Unary.TheVariants.{Not, Ey, Ep, Ap, Ay, Eh, Ah}
use Rattle.rules.specs.declared.Binary.{Binary}
use Rattle.rules.specs.declared.Binary.TheVariants.{And, Es, As, Or}
use Rattle.rules.specs.WordRead.{WordRead, AtWord, ConstantWord, UnaryWord, BinaryWord, NoWord}
use Rattle.rules.specs.Formula.{Formula, atom, constant, unary, binary}
use Rattle.rules.specs.Line.{line_count}
use Rattle.rules.specs.Text.{byte_at}

-- Words

-- The rest of a word, letter by letter: the word if all are there, else the place of the first that is not.
unfoldable pub rest_at : (s : List ℕ) (i : ℕ) (xs : List ℕ) (word : WordRead) → WordRead
rest_at s i [] word = word
rest_at s i (b ∷ bs) word = cond (eqb (byte_at s i) b) (rest_at s (i + 1) bs word) (NoWord i)

-- The words that begin with a, from their second letter on: at, as, ap, ay, ah, and.
unfoldable pub a_word_at : (s : List ℕ) (i : ℕ) → WordRead
a_word_at s i =
    cond (eqb (byte_at s i) 116) (AtWord (i + 1))
    (cond (eqb (byte_at s i) 115) (BinaryWord As (i + 1))
    (cond (eqb (byte_at s i) 112) (UnaryWord Ap (i + 1))
    (cond (eqb (byte_at s i) 121) (UnaryWord Ay (i + 1))
    (cond (eqb (byte_at s i) 104) (UnaryWord Ah (i + 1))
    (cond (eqb (byte_at s i) 110) (rest_at s (i + 1) (100 ∷ []) (BinaryWord And (i + 2)))
    (NoWord i))))))

-- The words that begin with e, from their second letter on: ey, es, ep, eh.
unfoldable pub e_word_at : (s : List ℕ) (i : ℕ) → WordRead
e_word_at s i =
    cond (eqb (byte_at s i) 121) (UnaryWord Ey (i + 1))
    (cond (eqb (byte_at s i) 115) (BinaryWord Es (i + 1))
    (cond (eqb (byte_at s i) 112) (UnaryWord Ep (i + 1))
    (cond (eqb (byte_at s i) 104) (UnaryWord Eh (i + 1))
    (NoWord i))))

-- The word at a place: those with a, those with e, not, true, false, or.
unfoldable pub word_at : (s : List ℕ) (i : ℕ) → WordRead
word_at s i =
    cond (eqb (byte_at s i) 97) (a_word_at s (i + 1))
    (cond (eqb (byte_at s i) 101) (e_word_at s (i + 1))
    (cond (eqb (byte_at s i) 110) (rest_at s (i + 1) (111 ∷ 116 ∷ []) (UnaryWord Not (i + 3)))
    (cond (eqb (byte_at s i) 116) (rest_at s (i + 1) (114 ∷ 117 ∷ 101 ∷ []) (ConstantWord True (i + 4)))
    (cond (eqb (byte_at s i) 102) (rest_at s (i + 1) (97 ∷ 108 ∷ 115 ∷ 101 ∷ []) (ConstantWord False (i + 5)))
    (cond (eqb (byte_at s i) 111) (rest_at s (i + 1) (114 ∷ []) (BinaryWord Or (i + 2)))
    (NoWord i))))))

-- Forms

-- What reading a form gives: the place after it and the form, or a fault's number and place.
pub data Reading : Type 0 where
  formed : (place : ℕ) (f : Formula) → Reading
  faulty : (n place : ℕ) → Reading

-- Goes on after a form; a fault stays.
unfoldable pub and_then : (r : Reading) (next : ℕ → Formula → Reading) → Reading
and_then (formed i f) next = next i f
and_then (faulty n i) next = faulty n i

-- Goes on if the byte at a place is the one that the grammar has there, else 1.
unfoldable pub expect : (s : List ℕ) (i b : ℕ) (next : Reading) → Reading
expect s i b next = cond (eqb (byte_at s i) b) next (faulty 1 i)

-- Goes on if a digit below a bound stands at a place: 1 if it is no digit, 4 if it is not below.
unfoldable pub expect_digit : (s : List ℕ) (i bound : ℕ) (next : Reading) → Reading
expect_digit s i bound next =
    cond (leb 48 (byte_at s i) && leb (byte_at s i) 57)
    (cond (ltb (byte_at s i - 48) bound) next (faulty 4 i))
    (faulty 1 i)

-- The closing bracket of a form, where `closed` lines were those of the forms closed before this one began: 3 if they
-- are over 64 then.
unfoldable pub close_at : (s : List ℕ) (closed i : ℕ) (f : Formula) → Reading
close_at s closed i f = expect s i 41 (cond (leb (closed + line_count f) 64) (formed (i + 1) f) (faulty 3 i))

-- (at p b) from behind its word on.
unfoldable pub atom_at : (s : List ℕ) (k closed i : ℕ) → Reading
atom_at s k closed i =
    expect s i 32
    (expect_digit s (i + 1) k
    (expect s (i + 2) 32
    (expect_digit s (i + 3) 8
    (close_at s closed (i + 4) (atom (byte_at s (i + 1) - 48) (byte_at s (i + 3) - 48))))))

-- A space and a form, by a reader of forms: it is given the lines closed so far and the form's place.
unfoldable pub inner_with : (reader : ℕ → ℕ → Reading) (s : List ℕ) (closed i : ℕ) → Reading
inner_with reader s closed i = expect s i 32 (reader closed (i + 1))

-- The form inside and the closing bracket, behind a word with one form.
unfoldable pub unary_with : (reader : ℕ → ℕ → Reading) (s : List ℕ) (w : Unary) (closed i : ℕ) → Reading
unary_with reader s w closed i =
    and_then (inner_with reader s closed i) (λ j f. close_at s closed j (unary w f))

-- The forms inside and the closing bracket, behind a word with two forms.
unfoldable pub binary_with : (reader : ℕ → ℕ → Reading) (s : List ℕ) (w : Binary) (closed i : ℕ) → Reading
binary_with reader s w closed i =
    and_then (inner_with reader s closed i)
    (λ j f. and_then (inner_with reader s (closed + line_count f) j) (λ l g. close_at s closed l (binary w f g)))

-- What stands behind a form's opening bracket and its word.
unfoldable pub body_with : (reader : ℕ → ℕ → Reading) (s : List ℕ) (k closed : ℕ) (r : WordRead) → Reading
body_with reader s k closed (AtWord i) = atom_at s k closed i
body_with reader s k closed (ConstantWord w i) = close_at s closed i (constant w)
body_with reader s k closed (UnaryWord w i) = unary_with reader s w closed i
body_with reader s k closed (BinaryWord w i) = binary_with reader s w closed i
body_with reader s k closed (NoWord i) = faulty 1 i

-- The form at a place, with brackets nested at most so deep, `closed` lines being those of the forms closed so far.
unfoldable pub form_at : (n : ℕ) (s : List ℕ) (k closed i : ℕ) → Reading
form_at zero s k closed i = expect s i 40 (faulty 2 i)
form_at (suc a) s k closed i = expect s i 40 (body_with (form_at a s k) s k closed (word_at s (i + 1)))

-- A whole text: a form, and 1 at the first byte behind it.
unfoldable pub read_rule : (s : List ℕ) (k : ℕ) → Reading
read_rule s k =
    and_then (form_at 32 s k 0 0) (λ i f. cond (ltb i (length s)) (faulty 1 i) (formed i f))
