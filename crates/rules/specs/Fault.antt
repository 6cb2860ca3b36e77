-- The faults of a rule's text, apart from any reader (01, Turned back, from the input: 1 to 4), and what is to be shown
-- of the reader.
use Rattle.std.specs.Prelude.{ℕ, ◌+◌, ◌<◌, ◌≤◌, ◌≡◌, ◌⊎◌, ◌↔◌, Bool, true, false, cond, ◌&&◌, List, [], ◌∷◌, ◌++◌, eqb, length, get_or, take, drop}
use Rattle.numbers.specs.Refusal.{atom_number, grammar_number, many_lines_number, nesting_number}
use Rattle.rules.specs.declared.Constant.TheVariants.{True, False}
use Rattle.rules.specs.declared.Unary.TheVariants.{Not, Ey, Ep, Ap, Ay, Eh, Ah}
use Rattle.rules.specs.declared.Binary.TheVariants.{And, Es, As, Or}
use Rattle.rules.specs.Formula.{Formula}
use Rattle.rules.specs.Line.{constant_weight, unary_weight, binary_weight}
use Rattle.codec.specs.Ascii.{ascii}
use Rattle.rules.specs.Text.{byte_at, constant_letters, unary_letters, binary_letters, text_of, Grammatical, WithinLimits}
use Rattle.rules.specs.Reader.{formed, faulty, read_rule}

-- 1: no text of the grammar begins with the bytes up to and with this one; or the text ends here and is no whole text
-- of the grammar.
unfoldable pub Fault1 : (s : List ℕ) (i : ℕ) → Type 0
Fault1 s i =
    ((i < length s) × ((f : Formula) → Grammatical f → take (i + 1) (text_of f) ≡ take (i + 1) s → ⊥))
    ⊎ ((i ≡ length s) × ((f : Formula) → Grammatical f → text_of f ≡ s → ⊥))

-- How often a byte stands in a text.
unfoldable pub occurring : (b : ℕ) (xs : List ℕ) → ℕ
occurring b [] = 0
occurring b (c ∷ s) = cond (eqb c b) 1 0 + occurring b s

-- 2: an opening bracket before which 32 or more are open.
unfoldable pub Fault2 : (s : List ℕ) (i : ℕ) → Type 0
Fault2 s i = (byte_at s i ≡ 40) × (32 + occurring 41 (take i s) ≤ occurring 40 (take i s))

-- A text begins with these bytes.
unfoldable pub begins_with : (xs s : List ℕ) → Bool
begins_with [] s = true
begins_with (b ∷ bs) [] = false
begins_with (b ∷ bs) (c ∷ s) = eqb c b && begins_with bs s

-- The words, each with the lines that its form adds to those of its inner forms.
unfoldable pub words : List (List ℕ × ℕ)
words =
    (ascii "at", 1)
    ∷ (constant_letters True, constant_weight True) ∷ (constant_letters False, constant_weight False)
    ∷ (unary_letters Not, unary_weight Not) ∷ (unary_letters Ey, unary_weight Ey) ∷ (unary_letters Ep, unary_weight Ep)
    ∷ (unary_letters Ap, unary_weight Ap) ∷ (unary_letters Ay, unary_weight Ay) ∷ (unary_letters Eh, unary_weight Eh)
    ∷ (unary_letters Ah, unary_weight Ah)
    ∷ (binary_letters And, binary_weight And) ∷ (binary_letters Es, binary_weight Es) ∷ (binary_letters As, binary_weight As)
    ∷ (binary_letters Or, binary_weight Or) ∷ []

-- The weight of the word that a text begins with: none is the beginning of another; 0 where there is none.
unfoldable pub weight_of : (words : List (List ℕ × ℕ)) → (s : List ℕ) → ℕ
weight_of [] s = 0
weight_of (w ∷ ws) s = cond (begins_with w.0 s) w.1 (weight_of ws s)

-- The weights of the open forms, the innermost first, after a byte c with the text s behind it.
unfoldable pub opened_after : (opened : List ℕ) (c : ℕ) (s : List ℕ) → List ℕ
opened_after opened c s = cond (eqb c 40) (weight_of words s ∷ opened) (cond (eqb c 41) (drop 1 opened) opened)

-- The lines of the forms closed in a text, each counted with its weight, where forms of these weights are open before
-- it.
unfoldable pub lines_closed : (opened xs : List ℕ) → ℕ
lines_closed opened [] = 0
lines_closed opened (c ∷ s) = cond (eqb c 41) (get_or opened 0 0) 0 + lines_closed (opened_after opened c s) s

-- 3: a closing bracket after which the forms closed so far have over 64 lines.
unfoldable pub Fault3 : (s : List ℕ) (i : ℕ) → Type 0
Fault3 s i = (byte_at s i ≡ 41) × (64 < lines_closed [] (take (i + 1) s))

-- These bytes stand in a text from a place on.
unfoldable pub StandsAt : (s : List ℕ) (i : ℕ) (xs : List ℕ) → Type 0
StandsAt s i [] = Unit {0}
StandsAt s i (b ∷ bs) = (byte_at s i ≡ b) × StandsAt s (i + 1) bs

-- 4: a digit in p's place of an (at p b) that is not below k, or one in b's place that is above 7; the bracket stands
-- at q.
unfoldable pub Fault4 : (s : List ℕ) (k i : ℕ) → Type 0
Fault4 s k i =
    ((q d : ℕ) × StandsAt s q (ascii "(at " ++ (48 + d) ∷ []) × (d ≤ 9) × (k ≤ d) × (i ≡ q + 4))
    ⊎ ((q c d : ℕ) × StandsAt s q (ascii "(at " ++ (48 + c) ∷ 32 ∷ (48 + d) ∷ []) × (c ≤ 9) × (d ≤ 9) × (7 < d) × (i
    ≡ q + 6))

-- The text, with k processes, has fault n at place i.
unfoldable pub Fault : (n : ℕ) (s : List ℕ) (k i : ℕ) → Type 0
Fault n s k i =
    ((n ≡ grammar_number) × Fault1 s i)
    ⊎ (((n ≡ nesting_number) × Fault2 s i)
    ⊎ (((n ≡ many_lines_number) × Fault3 s i) ⊎ ((n ≡ atom_number) × Fault4 s k i)))

-- The first fault, and of those at its place the one with the lowest number.
pub record FirstFault (n : ℕ) (s : List ℕ) (k i : ℕ) : Type 0 where
  pub here : Fault n s k i
  pub none_before : (m j : ℕ) → j < i → Fault m s k j → ⊥
  pub none_lower : (m : ℕ) → m < n → Fault m s k i → ⊥

-- The statements (proved in GrammarTheorem, ReaderAccepts and ReaderPlace)

-- The reader refuses a text exactly by its first fault.
abbrev pub ReaderFindsFirstFault : Type 0
ReaderFindsFirstFault = (s : List ℕ) (k n i : ℕ) → (read_rule s k ≡ faulty n i) ↔ FirstFault n s k i

-- It accepts a text exactly if that is the text of a form of the grammar within the limits, and reads that form.
abbrev pub ReaderAcceptsForms : Type 0
ReaderAcceptsForms =
    (s : List ℕ) (k i : ℕ) (f : Formula) → (read_rule s k ≡ formed i f) ↔ ((text_of f ≡ s) × (i ≡ length s)
    × Grammatical f × WithinLimits k f)

-- It accepts a text exactly if that has no fault.
abbrev pub ReaderAcceptsFaultless : Type 0
ReaderAcceptsFaultless =
    (s : List ℕ) (k : ℕ) → ((i : ℕ) × (f : Formula) × (read_rule s k ≡ formed i f)) ↔ ((n i : ℕ) → Fault n s k i → ⊥)

-- A first fault stands below 1,024, however long the text is.
abbrev pub FaultPlaceBelow1024 : Type 0
FaultPlaceBelow1024 = (s : List ℕ) (k n i : ℕ) → read_rule s k ≡ faulty n i → i < 1024

-- These bytes stand in a text from place i to before place j.
pub record Span (s : List ℕ) (i : ℕ) (bs : List ℕ) (j : ℕ) : Type 0 where
  pub stands : StandsAt s i bs
  pub ends : j ≡ i + length bs
