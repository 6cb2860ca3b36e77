-- Tests of every byte of a text: bytes at all, and plain ones, which are no bracket and no digit; words have plain
-- letters.
use Rattle.std.specs.Prelude.{ℕ, ◌+◌, ◌≤◌, ◌<◌, ◌≡◌, refl, Bool, true, false, cond, ◌&&◌, List, [], ◌∷◌, ◌++◌, leb, ltb, T}
use Rattle.std.proofs.Common.{arith, leb→le, lt→ltb}
use Rattle.codec.specs.Ascii.{ascii}
use Rattle.rules.specs.Text.{constant_letters, unary_letters, binary_letters, text_of, Grammatical}
use Rattle.rules.specs.declared.Constant.{Constant}
use Rattle.rules.specs.declared.Constant.TheVariants.{True, False}
use Rattle.rules.specs.declared.Unary.{Unary}
use Rattle.rules.specs.declared.Unary.TheVariants.{Not, Ey, Ep, Ap, Ay, Eh, Ah}
use Rattle.rules.specs.declared.Binary.{Binary}
use Rattle.rules.specs.declared.Binary.TheVariants.{And, Es, As, Or}
use Rattle.rules.specs.Formula.{Formula, Atoms, atom, constant, unary, binary}

-- Every byte of a text passes a test.
unfoldable pub every : (ℕ → Bool) → List ℕ → Bool
every test [] = true
every test (b ∷ bs) = test b && every test bs

-- A byte.
abbrev pub small : ℕ → Bool
small b = ltb b 256

-- A byte that is no bracket and no digit.
abbrev pub plain : ℕ → Bool
plain b = cond (leb b 39) true (leb 58 b && leb b 255)

pub and_left : (x y : Bool) → T (x && y) → T x
and_left true y h = tt
and_left false y h = h

pub and_right : (x y : Bool) → T (x && y) → T y
and_right true y h = h
and_right false y h = absurd h

and_both : (x y : Bool) → T x → T y → T (x && y)
and_both true y p q = q
and_both false y p q = p

pub every_append : (test : ℕ → Bool) (xs ys : List ℕ) → T (every test xs) → T (every test ys) → T (every test (xs ++ ys))
unfolding every
every_append test [] ys p q = q
every_append test (x ∷ xs) ys p q =
    and_both (test x) _ (and_left (test x) _ p) (every_append test xs ys (and_right (test x) _ p) q)

pub every_left : (test : ℕ → Bool) (xs ys : List ℕ) → T (every test (xs ++ ys)) → T (every test xs)
unfolding every
every_left test [] ys p = tt
every_left test (x ∷ xs) ys p = and_both (test x) _ (and_left (test x) _ p) (every_left test xs ys (and_right (test x) _ p))

-- What a plain byte is not.
pub record Plain (b : ℕ) : Type 0 where
  pub below : b < 256
  pub quiet : 40 ≤ b → b ≤ 57 → ⊥

pub plain_e : (b : ℕ) → T (plain b) → Plain b
plain_e b h = go (leb b 39) refl h
  where
    go : (t : Bool) → leb b 39 ≡ t → T (cond t true (leb 58 b && leb b 255)) → Plain b
    go true e p = let l = leb→le b 39 (rw e tt) in record { below = omega arith; quiet = omega arith }
    go false e p =
        let l = leb→le 58 b (and_left (leb 58 b) _ p) in
        let m = leb→le b 255 (and_right (leb 58 b) _ p) in
        record { below = omega arith; quiet = omega arith }

-- Plain bytes are bytes.
pub plain-small : (bs : List ℕ) → T (every plain bs) → T (every small bs)
unfolding every
plain-small [] h = tt
plain-small (b ∷ bs) h =
    and_both (small b) _ (lt→ltb b 256 (plain_e b (and_left (plain b) _ h)).below) (plain-small bs (and_right (plain b) _ h))

-- Words have plain letters

pub at_plain : T (every plain (ascii "at"))
unfolding every
at_plain = tt

pub constant-plain : (w : Constant) → T (every plain (constant_letters w))
unfolding every constant_letters
constant-plain True = tt
constant-plain False = tt

pub unary-plain : (w : Unary) → T (every plain (unary_letters w))
unfolding every unary_letters
unary-plain Not = tt
unary-plain Ey = tt
unary-plain Ep = tt
unary-plain Ap = tt
unary-plain Ay = tt
unary-plain Eh = tt
unary-plain Ah = tt

pub binary-plain : (w : Binary) → T (every plain (binary_letters w))
unfolding every binary_letters
binary-plain And = tt
binary-plain Es = tt
binary-plain As = tt
binary-plain Or = tt

-- A form's text has only bytes.
pub text-small : (f : Formula) → Grammatical f → T (every small (text_of f))
unfolding every text_of Atoms
text-small (atom p b) h =
    and_both (small (48 + p)) _ (lt→ltb (48 + p) 256 (omega arith)) (and_both (small (48 + b)) _ (lt→ltb (48 + b) 256 (omega arith)) tt)
text-small (constant w) h = every_append small (constant_letters w) _ (plain-small (constant_letters w) (constant-plain w)) tt
text-small (unary w f) h =
    every_append small (unary_letters w) _ (plain-small (unary_letters w) (unary-plain w)) (every_append small (text_of f) _ (text-small f h) tt)
text-small (binary w f g) h =
    every_append small (binary_letters w) _ (plain-small (binary_letters w) (binary-plain w))
    (every_append small (text_of f) _ (text-small f h.0) (every_append small (text_of g) _ (text-small g h.1) tt))
