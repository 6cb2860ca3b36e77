-- Bytes that stand in a text from place to place, and the word that the reader answers: it stands there.
use Rattle.std.specs.Prelude.{ℕ, suc, ◌+◌, ◌<◌, ◌≤◌, ◌≡◌, refl, Bool, true, false, cond, List, [], ◌∷◌, ◌++◌, eqb, length}
use Rattle.std.proofs.Common.{add-zero, arith, subst, length-append, eqb-true}
use Rattle.std.proofs.lemmas.Bool.{eqb-false}
use Rattle.rules.specs.declared.Binary.TheVariants.{And}
use Rattle.rules.specs.WordRead.{WordRead, AtWord, ConstantWord, UnaryWord, BinaryWord, NoWord}
use Rattle.codec.specs.Ascii.{ascii}
use Rattle.rules.specs.Text.{byte_at, constant_letters, unary_letters, binary_letters}
use Rattle.rules.specs.Reader.{rest_at, a_word_at, e_word_at, word_at}
use Rattle.rules.specs.Fault.{StandsAt, Span}

-- Bytes from place to place

pub span_nil : (s : List ℕ) (i : ℕ) → Span s i [] i
unfolding StandsAt
span_nil s i = record { stands = tt; ends = omega arith }

pub span_next : (s : List ℕ) (i b j : ℕ) → byte_at s i ≡ b → j ≡ i + 1 → Span s i (b ∷ []) j
unfolding StandsAt
span_next s i b j e h = record { stands = (e, tt); ends = h }

pub span_byte : (s : List ℕ) (i b : ℕ) → byte_at s i ≡ b → Span s i (b ∷ []) (i + 1)
span_byte s i b e = span_next s i b (i + 1) e refl

stands_append : (s : List ℕ) (i : ℕ) (xs ys : List ℕ) → StandsAt s i xs → StandsAt s (i + length xs) ys
    → StandsAt s i (xs ++ ys)
unfolding StandsAt
stands_append s i [] ys p q = rw (add-zero i) at q
stands_append s i (x ∷ xs) ys p q =
    (p.0, stands_append s (i + 1) xs ys p.1 (subst (λ (j : ℕ). StandsAt s j ys) (omega arith) q))

pub span_append : {s : List ℕ} {i j l : ℕ} {xs ys : List ℕ} → Span s i xs j → Span s j ys l → Span s i (xs ++ ys) l
span_append {s} {i} {j} {l} {xs} {ys} p q = record {
  stands = stands_append s i xs ys p.stands (rw p.ends at q.stands);
  ends = omega (arith, length-append xs ys, p.ends, q.ends);
}

-- The word that was read stands there; the first byte that no word has there is one of the next five.

unfoldable pub WordSpan : List ℕ → ℕ → WordRead → Type 0
WordSpan s i (AtWord j) = Span s i (ascii "at") j
WordSpan s i (ConstantWord w j) = Span s i (constant_letters w) j
WordSpan s i (UnaryWord w j) = Span s i (unary_letters w) j
WordSpan s i (BinaryWord w j) = Span s i (binary_letters w) j
WordSpan s i (NoWord j) = j ≤ i + 4

-- A test of a byte, by its two answers.
pub if_byte {ℓ} : {A : Type ℓ} (P : A → Type 0) (c b : ℕ) (x y : A) → (c ≡ b → P x) → ((c ≡ b → ⊥) → P y) → P (cond (eqb c b) x y)
if_byte P c b x y p q = go (eqb c b) refl
  where
    go : (t : Bool) → eqb c b ≡ t → P (cond t x y)
    go true e = p (eqb-true c b e)
    go false e = q (eqb-false c b e)

-- The rest of a word, by its two answers; the second names a place within the rest.
pub rest_case : (P : WordRead → Type 0) (s : List ℕ) (i : ℕ) (bs : List ℕ) (word : WordRead)
    → (StandsAt s i bs → P word) → ((j : ℕ) → i ≤ j → j < i + length bs → P (NoWord j)) → P (rest_at s i bs word)
unfolding rest_at StandsAt
rest_case P s i [] word p q = p tt
rest_case P s i (b ∷ bs) word p q =
    if_byte P (byte_at s i) b (rest_at s (i + 1) bs word) (NoWord i)
    (λ e. rest_case P s (i + 1) bs word (λ h. p (e, h)) (λ j l h. q j (omega arith) (omega arith)))
    (λ _. q i (omega arith) (omega arith))

two : (s : List ℕ) (i : ℕ) {a b : ℕ} → byte_at s i ≡ a → byte_at s (i + 1) ≡ b → Span s i (a ∷ b ∷ []) (i + 1 + 1)
two s i e h = span_append (span_byte s i _ e) (span_byte s (i + 1) _ h)

more : (s : List ℕ) (i : ℕ) {a j : ℕ} {bs : List ℕ} → byte_at s i ≡ a → StandsAt s (i + 1) bs → j ≡ i + suc (length bs)
    → Span s i (a ∷ bs) j
unfolding StandsAt
more s i e h q = record { stands = (e, h); ends = q }

a_word_span : (s : List ℕ) (i : ℕ) → byte_at s i ≡ 97 → WordSpan s i (a_word_at s (i + 1))
unfolding WordSpan a_word_at unary_letters binary_letters
a_word_span s i e =
    let P = WordSpan s i in
    let c = byte_at s (i + 1) in
    if_byte P c 116 _ _ (λ h. two s i e h)
    (λ _. if_byte P c 115 _ _ (λ h. two s i e h)
    (λ _. if_byte P c 112 _ _ (λ h. two s i e h)
    (λ _. if_byte P c 121 _ _ (λ h. two s i e h)
    (λ _. if_byte P c 104 _ _ (λ h. two s i e h)
    (λ _. if_byte P c 110 _ _ (λ h. rest_case P s (i + 1 + 1) (100 ∷ []) (BinaryWord And (i + 1 + 2))
    (λ q. unfold StandsAt in (more s i e (h, q) (omega arith))) (λ j l h. omega arith))
    (λ _. omega arith))))))

e_word_span : (s : List ℕ) (i : ℕ) → byte_at s i ≡ 101 → WordSpan s i (e_word_at s (i + 1))
unfolding WordSpan e_word_at unary_letters binary_letters
e_word_span s i e =
    let P = WordSpan s i in
    let c = byte_at s (i + 1) in
    if_byte P c 121 _ _ (λ h. two s i e h)
    (λ _. if_byte P c 115 _ _ (λ h. two s i e h)
    (λ _. if_byte P c 112 _ _ (λ h. two s i e h)
    (λ _. if_byte P c 104 _ _ (λ h. two s i e h)
    (λ _. omega arith))))

pub word_at_span : (s : List ℕ) (i : ℕ) → WordSpan s i (word_at s i)
unfolding WordSpan word_at constant_letters unary_letters binary_letters
word_at_span s i =
    let P = WordSpan s i in
    let c = byte_at s i in
    if_byte P c 97 _ _ (a_word_span s i)
    (λ _. if_byte P c 101 _ _ (e_word_span s i)
    (λ _. if_byte P c 110 _ _ (λ e. rest_case P s (i + 1) (111 ∷ 116 ∷ []) _ (λ q. more s i e q (omega arith)) (λ j l h. omega arith))
    (λ _. if_byte P c 116 _ _ (λ e. rest_case P s (i + 1) (114 ∷ 117 ∷ 101 ∷ []) _ (λ q. more s i e q (omega arith)) (λ j l h. omega arith))
    (λ _. if_byte P c 102 _ _ (λ e. rest_case P s (i + 1) (97 ∷ 108 ∷ 115 ∷ 101 ∷ []) _ (λ q. more s i e q (omega arith)) (λ j l h. omega arith))
    (λ _. if_byte P c 111 _ _ (λ e. rest_case P s (i + 1) (114 ∷ []) _ (λ q. more s i e q (omega arith)) (λ j l h. omega arith))
    (λ _. omega arith))))))
