-- Brackets and closed lines, counted byte by byte, over the text of a form.
use Rattle.std.specs.Prelude.{ℕ, ◌+◌, ◌≤◌, ◌≡◌, refl, List, [], ◌∷◌, ◌++◌, T}
use Rattle.std.proofs.Common.{arith, zero-add, ◌∙◌, sym, append_assoc, ne_eqb}
use Rattle.rules.specs.declared.Constant.{Constant}
use Rattle.rules.specs.declared.Constant.TheVariants.{True, False}
use Rattle.rules.specs.declared.Unary.{Unary}
use Rattle.rules.specs.declared.Unary.TheVariants.{Not, Ey, Ep, Ap, Ay, Eh, Ah}
use Rattle.rules.specs.declared.Binary.{Binary}
use Rattle.rules.specs.declared.Binary.TheVariants.{And, Es, As, Or}
use Rattle.rules.specs.Line.{constant_weight, unary_weight, binary_weight, line_count}
use Rattle.codec.specs.Ascii.{ascii}
use Rattle.rules.specs.Text.{constant_letters, unary_letters, binary_letters, text_of}
use Rattle.rules.specs.Fault.{occurring, begins_with, words, weight_of, opened_after, lines_closed}
use Rattle.rules.specs.Formula.{Formula, atom, constant, unary, binary}
use Rattle.rules.specs.grammar.PlainBytes.{every, plain, and_left, and_right, plain_e, constant-plain, unary-plain, binary-plain, at_plain}

-- Brackets

pub count-append : (b : ℕ) (xs ys : List ℕ) → occurring b (xs ++ ys) ≡ occurring b xs + occurring b ys
unfolding occurring
count-append b [] ys = omega arith
count-append b (x ∷ xs) ys = omega (arith, count-append b xs ys)

-- Another byte counts nothing.
count_other : (b c : ℕ) (s : List ℕ) → (c ≡ b → ⊥) → occurring b (c ∷ s) ≡ occurring b s
unfolding occurring
count_other b c s h = rw (ne_eqb c b h) (zero-add (occurring b s))

-- Plain bytes hold no bracket.
count-plain : (b : ℕ) (bs : List ℕ) → 40 ≤ b → b ≤ 57 → T (every plain bs) → occurring b bs ≡ 0
unfolding occurring every
count-plain b [] l h p = refl
count-plain b (c ∷ bs) l h p =
    count_other b c bs (λ e. (plain_e c (and_left (plain c) _ p)).quiet (omega arith) (omega arith))
    ∙ count-plain b bs l h (and_right (plain c) _ p)

-- As many closing as opening brackets.
abbrev pub Balanced : List ℕ → Type 0
Balanced bs = occurring 40 bs ≡ occurring 41 bs

pub balanced_append : (xs ys : List ℕ) → Balanced xs → Balanced ys → Balanced (xs ++ ys)
balanced_append xs ys p q = omega (arith, count-append 40 xs ys, count-append 41 xs ys)

pub balanced_plain : (bs : List ℕ) → T (every plain bs) → Balanced bs
balanced_plain bs h = omega (arith, count-plain 40 bs (omega arith) (omega arith) h, count-plain 41 bs (omega arith) (omega arith) h)

balanced_digit : (d : ℕ) (bs : List ℕ) → Balanced bs → Balanced ((48 + d) ∷ bs)
balanced_digit d bs h = count_other 40 (48 + d) bs (omega arith) ∙ h ∙ sym (count_other 41 (48 + d) bs (omega arith))

-- A closing bracket more than opening ones, at the end; with an opening one before it that is made even.
closed_once : (xs ys : List ℕ) → Balanced xs → occurring 40 ys + 1 ≡ occurring 41 ys → occurring 40 (xs ++ ys) + 1
    ≡ occurring 41 (xs ++ ys)
closed_once xs ys p q = omega (arith, count-append 40 xs ys, count-append 41 xs ys)

pub text_balanced : (f : Formula) → Balanced (text_of f)
unfolding text_of occurring
text_balanced (atom p b) = omega (arith, balanced_digit p [] refl, balanced_digit b [] refl)
text_balanced (constant w) =
    let c = constant_letters w in
    omega (arith, closed_once c (41 ∷ []) (balanced_plain c (constant-plain w)) refl)
text_balanced (unary w f) =
    let c = unary_letters w in
    let rest = closed_once (text_of f) (41 ∷ []) (text_balanced f) refl in
    omega (arith, closed_once c (32 ∷ (text_of f ++ 41 ∷ [])) (balanced_plain c (unary-plain w)) (omega arith))
text_balanced (binary w f g) =
    let c = binary_letters w in
    let inner = closed_once (text_of g) (41 ∷ []) (text_balanced g) refl in
    let rest = closed_once (text_of f) (32 ∷ (text_of g ++ 41 ∷ [])) (text_balanced f) (omega arith) in
    omega (arith, closed_once c (32 ∷ (text_of f ++ 32 ∷ (text_of g ++ 41 ∷ []))) (balanced_plain c (binary-plain w)) (omega arith))

-- Closed lines

-- A byte that is no bracket changes nothing.
closed_other : (opened : List ℕ) (c : ℕ) (s : List ℕ) → (c ≡ 40 → ⊥) → (c ≡ 41 → ⊥) → lines_closed opened (c ∷ s) ≡ lines_closed opened s
unfolding lines_closed opened_after
closed_other opened c s p q = rw (ne_eqb c 40 p, ne_eqb c 41 q) (zero-add (lines_closed opened s))

closed_plain : (opened xs ys : List ℕ) → T (every plain xs) → lines_closed opened (xs ++ ys) ≡ lines_closed opened ys
unfolding every
closed_plain opened [] ys h = refl
closed_plain opened (c ∷ xs) ys h =
    let p = plain_e c (and_left (plain c) _ h) in
    closed_other opened c (xs ++ ys) (λ e. p.quiet (omega arith) (omega arith)) (λ e. p.quiet (omega arith) (omega arith))
    ∙ closed_plain opened xs ys (and_right (plain c) _ h)

closed_open : (opened s : List ℕ) → lines_closed opened (40 ∷ s) ≡ lines_closed (weight_of words s ∷ opened) s
unfolding lines_closed opened_after
closed_open opened s = zero-add _

closed_close : (w : ℕ) (opened s : List ℕ) → lines_closed (w ∷ opened) (41 ∷ s) ≡ w + lines_closed opened s
unfolding lines_closed opened_after
closed_close w opened s = refl

-- The word behind a bracket gives the weight.
at_weight : (s : List ℕ) → weight_of words (ascii "at" ++ s) ≡ 1
unfolding weight_of words begins_with
at_weight s = refl

constant_weight_lem : (w : Constant) (s : List ℕ) → weight_of words (constant_letters w ++ s) ≡ constant_weight w
unfolding weight_of words begins_with constant_letters unary_letters binary_letters constant_weight unary_weight binary_weight
constant_weight_lem True s = refl
constant_weight_lem False s = refl

pub unary_weight_lem : (w : Unary) (s : List ℕ) → weight_of words (unary_letters w ++ s) ≡ unary_weight w
unfolding weight_of words begins_with constant_letters unary_letters binary_letters constant_weight unary_weight binary_weight
unary_weight_lem Not s = refl
unary_weight_lem Ey s = refl
unary_weight_lem Ep s = refl
unary_weight_lem Ap s = refl
unary_weight_lem Ay s = refl
unary_weight_lem Eh s = refl
unary_weight_lem Ah s = refl

pub binary_weight_lem : (w : Binary) (s : List ℕ) → weight_of words (binary_letters w ++ s) ≡ binary_weight w
unfolding weight_of words begins_with constant_letters unary_letters binary_letters constant_weight unary_weight binary_weight
binary_weight_lem And s = refl
binary_weight_lem Es s = refl
binary_weight_lem As s = refl
binary_weight_lem Or s = refl

-- An opening bracket and a word: a form of the word's weight is open behind it.
pub closed_word : (opened letters s : List ℕ) (w : ℕ) → weight_of words (letters ++ s) ≡ w → T (every plain letters)
    → lines_closed opened (40 ∷ (letters ++ s)) ≡ lines_closed (w ∷ opened) s
closed_word opened letters s w e h = closed_open opened (letters ++ s) ∙ rw e (closed_plain (w ∷ opened) letters s h)

pub closed_space : (opened s : List ℕ) → lines_closed opened (32 ∷ s) ≡ lines_closed opened s
closed_space opened s = closed_other opened 32 s (omega arith) (omega arith)

closed_digit : (opened : List ℕ) (d : ℕ) (s : List ℕ) → lines_closed opened ((48 + d) ∷ s) ≡ lines_closed opened s
closed_digit opened d s = closed_other opened (48 + d) s (omega arith) (omega arith)

-- A form's text closes the form's lines, and leaves open what was open.
pub closed_form : (opened : List ℕ) (f : Formula) (s : List ℕ) → lines_closed opened (text_of f ++ s) ≡ line_count f + lines_closed opened s
unfolding text_of line_count
closed_form opened (atom p b) s =
    closed_word opened (ascii "at") (32 ∷ (48 + p) ∷ 32 ∷ (48 + b) ∷ 41 ∷ s) 1 (at_weight _) at_plain
    ∙ closed_space _ _ ∙ closed_digit _ p _ ∙ closed_space _ _ ∙ closed_digit _ b _ ∙ closed_close 1 opened s
closed_form opened (constant w) s =
    rw append_assoc (closed_word opened (constant_letters w) (41 ∷ s) (constant_weight w) (constant_weight_lem w (41 ∷ s)) (constant-plain w)
    ∙ closed_close (constant_weight w) opened s)
closed_form opened (unary w f) s =
    let n = unary_weight w in
    simp append_assoc (closed_word opened (unary_letters w) (32 ∷ (text_of f ++ 41 ∷ s)) n (unary_weight_lem w _) (unary-plain w)
    ∙ closed_space _ _ ∙ closed_form (n ∷ opened) f (41 ∷ s) ∙ omega (arith, closed_close n opened s))
closed_form opened (binary w f g) s =
    let n = binary_weight w in
    simp append_assoc (closed_word opened (binary_letters w) (32 ∷ (text_of f ++ 32 ∷ (text_of g ++ 41 ∷ s))) n (binary_weight_lem w _) (binary-plain w)
    ∙ closed_space _ _ ∙ closed_form (n ∷ opened) f (32 ∷ (text_of g ++ 41 ∷ s))
    ∙ omega (arith, closed_space (n ∷ opened) (text_of g ++ 41 ∷ s), closed_form (n ∷ opened) g (41 ∷ s), closed_close n opened s))
