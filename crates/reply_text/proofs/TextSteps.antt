-- The answers' text, piece by piece: each piece goes after the text so far.
use Prim.Native.Nat.{ℕ, zero, suc, ◌+◌, ◌-◌, ◌/◌, ◌%◌, ◌≤◌, ◌<◌}
use native.Mathlib.Omega.{arith}
use native.Mathlib.Numerals.{add-one}
use mathlib.Core.Path.{◌≡◌, sym, ap, ◌∙◌}
use mathlib.Core.List.{List, [], ◌∷◌, ◌++◌, append_assoc, append-nil}
use lib.ListN.{length, get_or, set, take, drop, length-drop}
use lib.Seq.{take-suc-set, length-take-le}
use Rattle.std.proofs.Common.{max}
use Rattle.std.proofs.lemmas.Grind.{common_steps}
use borrow.Author.Tests.{lt-ltb, le-ltb}
use Rattle.clocks.specs.Counts.{at}
use Rattle.codec.specs.Decimal.{numeral_of, numeral}
use Rattle.reply_text.specs.Texts.{more_counts, counts_text}

-- A piece more behind a text that is known.
pub behind : {x y z : List ℕ} (w : List ℕ) → y ≡ z → x ≡ y ++ w → x ≡ z ++ w
behind w f e = e ∙ ap (λ (r : List ℕ). r ++ w) f

-- A numeral: no digits, one, or the last behind the others.
pub no_digits : (text : List ℕ) (most n : ℕ) → most ≡ 0 → text ≡ text ++ numeral_of most n
unfolding numeral_of
no_digits text most n e = rw e (sym (append-nil text))

pub one_digit : (out : List ℕ) (at most n : ℕ) → at < length out → 1 ≤ most → n < 10 → take (at + 1) (set out at (48 + n)) ≡ take at out ++ numeral_of most n
unfolding numeral_of
one_digit out at zero n h m l = absurd (omega (arith, m))
one_digit out at (suc most) n h m l = rw (add-one at, lt-ltb n 10 l) (take-suc-set out at (48 + n) h)

pub last_digit : (out text : List ℕ) (at most n : ℕ) → at < length out → 1 ≤ most → 10 ≤ n → take at out ≡ text ++ numeral_of (most - 1) (n / 10)
    → take (at + 1) (set out at (48 + n % 10)) ≡ text ++ numeral_of most n
unfolding numeral_of
last_digit out text at zero n h m l e = absurd (omega (arith, m))
last_digit out text at (suc most) n h m l e =
    let s : suc most - 1 ≡ most = omega arith in
    rw (add-one at, le-ltb n 10 l, take-suc-set out at (48 + n % 10) h, e, s) (append_assoc text (numeral_of most (n / 10)) ((48 + n % 10) ∷ []))

-- The counts after the first, one by one.
pub count_here : (counts : List ℕ) (n i : ℕ) → i < length (take n (drop 1 counts)) → get_or (take n (drop 1 counts)) i 0 ≡ at counts (i + 1)
count_here counts n i l = grind (arith, common_steps)

pub counts_long : (counts : List ℕ) (k : ℕ) → 1 ≤ length counts → k ≤ length counts → length (take (max k 1 - 1) (drop 1 counts)) ≡ k - 1
counts_long counts k some few =
    length-take-le (max k 1 - 1) (drop 1 counts) (omega (arith, length-drop 1 counts)) ∙ omega arith

-- One count more after the counts so far, with a space before it.
pub counts_next : (start counts : List ℕ) (i n : ℕ) → n ≡ at counts (i + 1)
    → start ++ more_counts counts i ++ (32 ∷ []) ++ numeral n ≡ start ++ more_counts counts (i + 1)
unfolding more_counts
counts_next start counts i n e =
    rw (e, add-one i, append_assoc start (more_counts counts i) (32 ∷ []), append_assoc start (more_counts counts i ++ (32 ∷ [])) (numeral (at counts (suc i))))

-- All the counts.
pub counts_end : (start counts : List ℕ) (k i n : ℕ) → i ≡ k - 1 → n ≡ at counts 0 → start ++ numeral n ++ more_counts counts i ≡ start ++ counts_text counts k
unfolding counts_text
counts_end start counts k i n e f = rw (e, f) (append_assoc start (numeral (at counts 0)) (more_counts counts (k - 1)))
