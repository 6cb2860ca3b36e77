-- Where a word's letters stand up to some place, the reader answers that word, or answers at or behind that place.
use Rattle.std.specs.Prelude.{ℕ, suc, ◌+◌, ◌≤◌, ◌<◌, ◌≡◌, refl, Bool, true, false, List, [], ◌∷◌, ◌++◌, ◌⊎◌, ltb, length}
use Rattle.std.proofs.Common.{arith, add-zero, subst, ap, inl, inr, ltb-true, ltb-false}
use Rattle.rules.specs.WordRead.{WordRead, NoWord, AtWord, ConstantWord, UnaryWord, BinaryWord}
use Rattle.rules.specs.reading.ForwardLaws.{word_place, word_from, a_word_from, e_word_from}
use Rattle.rules.specs.reading.WordLaws.{if_byte}
use Rattle.codec.specs.Ascii.{ascii}
use Rattle.rules.specs.Text.{byte_at, constant_letters, unary_letters, binary_letters}
use Rattle.rules.specs.Reader.{rest_at, a_word_at, word_at, e_word_at}
use Rattle.rules.specs.declared.Constant.{Constant}
use Rattle.rules.specs.declared.Constant.TheVariants.{True, False}
use Rattle.rules.specs.declared.Unary.{Unary}
use Rattle.rules.specs.declared.Unary.TheVariants.{Not, Ey, Ep, Ap, Ay, Eh, Ah}
use Rattle.rules.specs.declared.Binary.{Binary}
use Rattle.rules.specs.declared.Binary.TheVariants.{And, Es, As, Or}

-- These bytes stand in a text from a place on, as far as they are before place m.
unfoldable pub StandsTo : ℕ → List ℕ → ℕ → List ℕ → Type 0
StandsTo m s i [] = Unit {0}
StandsTo m s i (b ∷ bs) = (i < m → byte_at s i ≡ b) × StandsTo m s (i + 1) bs

pub stands_to_left : (m : ℕ) (s : List ℕ) (i : ℕ) (xs ys : List ℕ) → StandsTo m s i (xs ++ ys) → StandsTo m s i xs
unfolding StandsTo
stands_to_left m s i [] ys h = tt
stands_to_left m s i (x ∷ xs) ys h = (h.0, stands_to_left m s (i + 1) xs ys h.1)

pub stands_to_right : (m : ℕ) (s : List ℕ) (i : ℕ) (xs ys : List ℕ) → StandsTo m s i (xs ++ ys) → StandsTo m s (i + length xs) ys
unfolding StandsTo
stands_to_right m s i [] ys h = rw (add-zero) h
stands_to_right m s i (x ∷ xs) ys h =
    subst (λ (j : ℕ). StandsTo m s j ys) (omega arith) (stands_to_right m s (i + 1) xs ys h.1)

-- Two texts with the same bytes before place m.
pub stands_to-same : (m : ℕ) (s : List ℕ) (i : ℕ) (bs : List ℕ) → ((l : ℕ) → l < length bs → i + l < m → byte_at s (i + l) ≡ byte_at bs l) → StandsTo m s i bs
unfolding StandsTo
stands_to-same m s i [] h = tt
stands_to-same m s i (b ∷ bs) h = (
  λ p. rw (← add-zero i) (h 0 (omega arith) (omega arith)),
  stands_to-same m s (i + 1) bs (λ l p q. subst (λ (j : ℕ). byte_at s j ≡ byte_at bs l) (omega arith) (h (suc l) (omega arith) (omega arith))),
)

-- What is known before place m: we are at or behind m, or it is so.
pub known : (m i : ℕ) {Q P : Type 0} → (i < m → Q) → (m ≤ i → P) → (Q → P) → P
known m i {Q} {P} h late met = go (ltb i m) refl
  where
    go : (t : Bool) → ltb i m ≡ t → P
    go true e = met (h (ltb-true i m e))
    go false e = late (ltb-false i m e)

-- The answer is this word, or stands at or behind place m.
abbrev pub WordMet : ℕ → WordRead → WordRead → Type 0
WordMet m word r = (r ≡ word) ⊎ (m ≤ word_place r)

rest_met : (m : ℕ) (s : List ℕ) (i : ℕ) (bs : List ℕ) (word : WordRead) → StandsTo m s i bs → WordMet m word (rest_at s i bs word)
unfolding StandsTo rest_at word_place
rest_met m s i [] word h = inl refl
rest_met m s i (b ∷ bs) word h =
    if_byte (WordMet m word) (byte_at s i) b (rest_at s (i + 1) bs word) (NoWord i)
    (λ _. rest_met m s (i + 1) bs word h.1)
    (λ ne. inr (known m i h.0 (λ l. l) (λ e. absurd (ne e))))

-- From a letter on: we are behind m, or that letter stands there and the rest decides.
letter_met : (m i c b : ℕ) (word r rest : WordRead) → i ≤ word_place r → (i < m → c ≡ b) → (c ≡ b → r ≡ rest) → WordMet m word rest → WordMet m word r
letter_met m i c b word r rest from h q p = known m i h (λ l. inr (omega arith)) (λ e. rw (q e) p)

module _ (m : ℕ) (s : List ℕ) (i : ℕ) where
  -- A word of two letters, which the second decides among those with the first.
  two_word : (c b : ℕ) (second : WordRead) (word : ℕ → WordRead) → i + 1 ≤ word_place second → (byte_at s i ≡ c → word_at s i ≡ second)
      → (byte_at s (i + 1) ≡ b → second ≡ word (i + 1 + 1)) → StandsTo m s i (c ∷ b ∷ []) → WordMet m (word (i + 2)) (word_at s i)
  unfolding StandsTo
  two_word c b second word from first q h =
      letter_met m i (byte_at s i) c _ _ second (word_from s i) h.0 first
      (letter_met m (i + 1) (byte_at s (i + 1)) b _ _ (word (i + 1 + 1)) from h.1.0 q (inl (ap word (omega arith))))

  a_word : (b : ℕ) (word : ℕ → WordRead) → (byte_at s (i + 1) ≡ b → a_word_at s (i + 1) ≡ word (i + 1 + 1)) → StandsTo m s i (97 ∷ b ∷ [])
      → WordMet m (word (i + 2)) (word_at s i)
  unfolding word_at
  a_word b word q h = two_word 97 b (a_word_at s (i + 1)) word (a_word_from s (i + 1)) (λ e. rw e) q h

  e_word : (b : ℕ) (word : ℕ → WordRead) → (byte_at s (i + 1) ≡ b → e_word_at s (i + 1) ≡ word (i + 1 + 1)) → StandsTo m s i (101 ∷ b ∷ [])
      → WordMet m (word (i + 2)) (word_at s i)
  unfolding word_at
  e_word b word q h = two_word 101 b (e_word_at s (i + 1)) word (e_word_from s (i + 1)) (λ e. rw e) q h

  -- A word that its first letter decides.
  first_word : (b : ℕ) (bs : List ℕ) (word : WordRead) → (byte_at s i ≡ b → word_at s i ≡ rest_at s (i + 1) bs word) → StandsTo m s i (b ∷ bs)
      → WordMet m word (word_at s i)
  unfolding StandsTo
  first_word b bs word q h =
      letter_met m i (byte_at s i) b word (word_at s i) (rest_at s (i + 1) bs word) (word_from s i) h.0 q (rest_met m s (i + 1) bs word h.1)

  and_word : StandsTo m s i (ascii "and") → WordMet m (BinaryWord And (i + 3)) (word_at s i)
  unfolding StandsTo word_at a_word_at
  and_word h =
      let word = BinaryWord And (i + 1 + 2) in
      let rest = rest_at s (i + 1 + 1) (100 ∷ []) word in
      letter_met m i (byte_at s i) 97 _ _ (a_word_at s (i + 1)) (word_from s i) h.0 (λ e. rw e)
      (letter_met m (i + 1) (byte_at s (i + 1)) 110 _ _ rest (a_word_from s (i + 1)) h.1.0 (λ e. rw e)
      (subst (λ (n : ℕ). WordMet m (BinaryWord And n) rest) (omega arith) (rest_met m s (i + 1 + 1) (100 ∷ []) word h.1.1)))

  -- Each word, where its letters stand up to place m.

  pub at_met : StandsTo m s i (ascii "at") → WordMet m (AtWord (i + 2)) (word_at s i)
  unfolding a_word_at
  at_met h = a_word 116 AtWord (λ e. rw e) h

  pub constant_met : (w : Constant) → StandsTo m s i (constant_letters w) → WordMet m (ConstantWord w (i + length (constant_letters w))) (word_at s i)
  unfolding word_at constant_letters
  constant_met True h = first_word 116 (ascii "rue") (ConstantWord True (i + 4)) (λ e. rw e) h
  constant_met False h = first_word 102 (ascii "alse") (ConstantWord False (i + 5)) (λ e. rw e) h

  pub unary_met : (w : Unary) → StandsTo m s i (unary_letters w) → WordMet m (UnaryWord w (i + length (unary_letters w))) (word_at s i)
  unfolding word_at a_word_at e_word_at unary_letters
  unary_met Not h = first_word 110 (ascii "ot") (UnaryWord Not (i + 3)) (λ e. rw e) h
  unary_met Ey h = e_word 121 (UnaryWord Ey) (λ e. rw e) h
  unary_met Ep h = e_word 112 (UnaryWord Ep) (λ e. rw e) h
  unary_met Ap h = a_word 112 (UnaryWord Ap) (λ e. rw e) h
  unary_met Ay h = a_word 121 (UnaryWord Ay) (λ e. rw e) h
  unary_met Eh h = e_word 104 (UnaryWord Eh) (λ e. rw e) h
  unary_met Ah h = a_word 104 (UnaryWord Ah) (λ e. rw e) h

  pub binary_met : (w : Binary) → StandsTo m s i (binary_letters w) → WordMet m (BinaryWord w (i + length (binary_letters w))) (word_at s i)
  unfolding word_at a_word_at e_word_at binary_letters
  binary_met And h = and_word h
  binary_met Es h = e_word 115 (BinaryWord Es) (λ e. rw e) h
  binary_met As h = a_word 115 (BinaryWord As) (λ e. rw e) h
  binary_met Or h = first_word 111 (ascii "r") (BinaryWord Or (i + 2)) (λ e. rw e) h
