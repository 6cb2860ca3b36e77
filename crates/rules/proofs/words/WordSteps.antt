-- The rest of a word, one letter further: the step of the code's loop.
use Prim.Native.Nat.{ℕ, ◌+◌, ◌≤◌, ◌<◌}
use native.Mathlib.Omega.{arith}
use native.Mathlib.Numerals.{add-one}
use mathlib.Core.Path.{◌≡◌, refl}
use mathlib.Core.Bool.{Bool, true, false, cond, not}
use mathlib.Core.List.{List}
use lib.Dec.{eqb}
use borrow.Author.Tests.{ne_eqb}
use Rattle.std.specs.Prelude.{Option, None, Some, nat_eq}
use Rattle.std.specs.Option.{option_eq}
use Rattle.rules.specs.ReaderCode.{byte_of}
use lib.ListN.{length, drop, get_or, drop_of_length-le}
use lib.Seq.{drop-cons}
use Rattle.rules.specs.WordRead.{WordRead, NoWord}
use Rattle.rules.specs.Text.{byte_at}
use Rattle.rules.specs.Reader.{rest_at}

-- While letters are left, letter j decides; then the word is there.
pub rest_at_next : (s : List ℕ) (i j : ℕ) (letters : List ℕ) (word : WordRead) → j < length letters
    → rest_at s (i + j) (drop j letters) word
    ≡ cond (eqb (byte_at s (i + j)) (get_or letters j 0)) (rest_at s (i + (j + 1)) (drop (j + 1) letters) word) (NoWord (i + j))
unfolding rest_at
rest_at_next s i j letters word h =
    let e : i + (j + 1) ≡ i + j + 1 = omega arith in
    rw (drop-cons letters j 0 h, e, add-one j)

pub rest_at-end : (s : List ℕ) (i j : ℕ) (letters : List ℕ) (word : WordRead) → length letters ≤ j → rest_at s (i + j) (drop j letters) word ≡ word
unfolding rest_at
rest_at-end s i j letters word h = rw (drop_of_length-le letters h)

-- The byte that is there, compared with a letter.

not_false : (x : Bool) → false ≡ not x → x ≡ true
not_false true h = refl
not_false false h = h

not_true : (x : Bool) → true ≡ not x → x ≡ false
not_true true h = h
not_true false h = refl

pub byte_met : (byte : Option ℕ) (n letter : ℕ) → byte_of byte ≡ n → false ≡ not (option_eq nat_eq byte (Some letter)) → eqb n letter ≡ true
byte_met None n letter e h = let z : ◌≡◌ {A = ℕ} 0 1 = cc in absurd (omega arith)
byte_met (Some byte) n letter e h = rw (← e) (not_false _ h)

pub byte_other : (byte : Option ℕ) (n letter : ℕ) → byte_of byte ≡ n → letter < 256 → true ≡ not (option_eq nat_eq byte (Some letter))
    → eqb n letter ≡ false
byte_other None n letter e small h = rw (← e) (ne_eqb 256 letter (omega arith))
byte_other (Some byte) n letter e small h = rw (← e) (not_true _ h)
