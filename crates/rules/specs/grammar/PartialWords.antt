-- Where the reader meets no word, the letters before that place begin one.
use Rattle.std.specs.Prelude.{ℕ, ◌+◌, ◌≡◌, T}
use Rattle.std.proofs.Math.Path.{refl}
use Rattle.std.proofs.Common.{ap, sym, subst, ◌∙◌}
use mathlib.Core.List.{List, [], ◌∷◌, ◌++◌, append_assoc}
use Rattle.rules.specs.WordRead.{WordRead, AtWord, ConstantWord, UnaryWord, BinaryWord, NoWord}
use Rattle.rules.specs.grammar.OpenForms.{Viable, viable_part, viable_at, viable_constant, viable_unary, viable_binary}
use Rattle.rules.specs.reading.WordLaws.{span_byte, span_append, if_byte, span_nil}
use Rattle.codec.specs.Ascii.{ascii}
use Rattle.rules.specs.Text.{byte_at, constant_letters, unary_letters, binary_letters}
use Rattle.rules.specs.grammar.PlainBytes.{every, plain, every_left, at_plain, constant-plain, unary-plain, binary-plain}
use Rattle.rules.specs.Reader.{rest_at, a_word_at, e_word_at, word_at}
use Rattle.rules.specs.declared.Constant.TheVariants.{True, False}
use Rattle.rules.specs.declared.Unary.TheVariants.{Not, Ey}
use Rattle.rules.specs.declared.Binary.TheVariants.{And, Or}
use Rattle.rules.specs.Fault.{Span}

-- From place i to before place j stand plain letters that begin a word.
pub record WordBegun (s : List ℕ) (i j : ℕ) : Type 0 where
  pub letters : List ℕ
  pub span : Span s i letters j
  pub plains : T (every plain letters)
  pub viable : Viable (40 ∷ letters)

-- A reader's answer, where it is no word.
unfoldable pub IfNoWord : (ℕ → Type 0) → WordRead → Type 0
IfNoWord P (AtWord j) = Unit {0}
IfNoWord P (ConstantWord w j) = Unit {0}
IfNoWord P (UnaryWord w j) = Unit {0}
IfNoWord P (BinaryWord w j) = Unit {0}
IfNoWord P (NoWord j) = P j

-- The rest of a word: the letters before the first that is missing stand there.
rest-begun : (P : WordRead → Type 0) (s : List ℕ) (i : ℕ) (bs : List ℕ) (word : WordRead) → P word
    → ((j : ℕ) (xs ys : List ℕ) → xs ++ ys ≡ bs → Span s i xs j → P (NoWord j)) → P (rest_at s i bs word)
unfolding rest_at
rest-begun P s i [] word p q = p
rest-begun P s i (b ∷ bs) word p q =
    if_byte P (byte_at s i) b (rest_at s (i + 1) bs word) (NoWord i)
    (λ e. rest-begun P s (i + 1) bs word p (λ j xs ys h x. q j (b ∷ xs) ys (ap (◌∷◌ b) h) (span_append (span_byte s i b e) x)))
    (λ _. q i [] (b ∷ bs) refl (span_nil s i))

-- The first letters of a word stand there and, of the rest, those before the first that is missing.
begun-rest : (s : List ℕ) (i l j : ℕ) (done bs xs ys : List ℕ) → T (every plain (done ++ bs)) → Viable (40 ∷ (done ++ bs))
    → Span s i done l → xs ++ ys ≡ bs → Span s l xs j → WordBegun s i j
begun-rest s i l j done bs xs ys p v x e y =
    let same : (done ++ xs) ++ ys ≡ done ++ bs = append_assoc done xs ys ∙ ap (λ (z : List ℕ). done ++ z) e in
    record {
      letters = done ++ xs;
      span = span_append x y;
      plains = every_left plain (done ++ xs) ys (rw same p);
      viable = viable_part (40 ∷ (done ++ xs)) ys (subst (λ (z : List ℕ). Viable (40 ∷ z)) (sym same) v);
    }

module _ (s : List ℕ) (i : ℕ) where
  abbrev P : WordRead → Type 0
  P = IfNoWord (WordBegun s i)

  a_word_begun : byte_at s i ≡ 97 → P (a_word_at s (i + 1))
  unfolding IfNoWord a_word_at binary_letters
  a_word_begun e =
      let c = byte_at s (i + 1) in
      if_byte P c 116 _ _ (λ _. tt)
      (λ _. if_byte P c 115 _ _ (λ _. tt)
      (λ _. if_byte P c 112 _ _ (λ _. tt)
      (λ _. if_byte P c 121 _ _ (λ _. tt)
      (λ _. if_byte P c 104 _ _ (λ _. tt)
      (λ _. if_byte P c 110 _ _
      (λ h. rest-begun P s (i + 1 + 1) (100 ∷ []) (BinaryWord And (i + 1 + 2)) tt
      (λ j xs ys. begun-rest s i (i + 1 + 1) j (97 ∷ 110 ∷ []) (100 ∷ []) xs ys (binary-plain And) (viable_binary And)
      (span_append (span_byte s i 97 e) (span_byte s (i + 1) 110 h))))
      (λ _. begun-rest s i (i + 1) (i + 1) (97 ∷ []) (116 ∷ []) [] (116 ∷ []) at_plain viable_at (span_byte s i 97 e) refl (span_nil s (i + 1))))))))

  e_word_begun : byte_at s i ≡ 101 → P (e_word_at s (i + 1))
  unfolding IfNoWord e_word_at unary_letters
  e_word_begun e =
      let c = byte_at s (i + 1) in
      if_byte P c 121 _ _ (λ _. tt)
      (λ _. if_byte P c 115 _ _ (λ _. tt)
      (λ _. if_byte P c 112 _ _ (λ _. tt)
      (λ _. if_byte P c 104 _ _ (λ _. tt)
      (λ _. begun-rest s i (i + 1) (i + 1) (101 ∷ []) (121 ∷ []) [] (121 ∷ []) (unary-plain Ey) (viable_unary Ey) (span_byte s i 101 e) refl (span_nil s (i + 1))))))

  -- A word whose first letter decides.
  first-begun : (b : ℕ) (bs : List ℕ) (word : WordRead) → P word → T (every plain (b ∷ bs)) → Viable (40 ∷ b ∷ bs) → byte_at s i ≡ b
      → P (rest_at s (i + 1) bs word)
  unfolding IfNoWord
  first-begun b bs word p plains v e =
      rest-begun P s (i + 1) bs word p (λ j xs ys. begun-rest s i (i + 1) j (b ∷ []) bs xs ys plains v (span_byte s i b e))

  pub word_at-begun : P (word_at s i)
  unfolding IfNoWord word_at constant_letters unary_letters binary_letters
  word_at-begun =
      let c = byte_at s i in
      if_byte P c 97 _ _ a_word_begun
      (λ _. if_byte P c 101 _ _ e_word_begun
      (λ _. if_byte P c 110 _ _ (first-begun 110 (ascii "ot") (UnaryWord Not (i + 3)) tt (unary-plain Not) (viable_unary Not))
      (λ _. if_byte P c 116 _ _ (first-begun 116 (ascii "rue") (ConstantWord True (i + 4)) tt (constant-plain True) (viable_constant True))
      (λ _. if_byte P c 102 _ _ (first-begun 102 (ascii "alse") (ConstantWord False (i + 5)) tt (constant-plain False) (viable_constant False))
      (λ _. if_byte P c 111 _ _ (first-begun 111 (ascii "r") (BinaryWord Or (i + 2)) tt (binary-plain Or) (viable_binary Or))
      (λ _. begun-rest s i i i [] (ascii "true") [] (ascii "true") (constant-plain True) (viable_constant True) (span_nil s i) refl (span_nil s i)))))))
