-- What a column says, read back.
use Rattle.std.specs.Prelude.{ℕ, zero, suc, ◌-◌, ◌^◌, ◌≤◌, ◌<◌, ◌≡◌, refl, Bool, true, false, cond, List, [], ◌∷◌, ◌++◌, leb, eqb, length, get_or, replicate}
use Rattle.std.proofs.Common.{arith, ap, ◌∙◌, lt-ltb, le-ltb, ne_eqb, leb-true}
use Rattle.codec.specs.Decimal.{numeral, is_digit, digits}
use Rattle.codec.specs.DecimalLaws.{digits-numeral, value-numeral, some_digit, no_leading_zero}
use Rattle.clocks.specs.Counts.{at}
use Rattle.clocks.specs.stored.BoundedLaws.{and-true}
use Rattle.call_page.specs.Page.{aligned, column}
use Rattle.call_page.specs.PageExact.{without_blanks, Says}
use Rattle.call_page.specs.RowLaws.{ten_digits, length-count}

-- ---- Blanks

behind_blanks : (m : ℕ) (text : List ℕ) → without_blanks (replicate m 32 ++ text) ≡ without_blanks text
unfolding without_blanks
behind_blanks zero text = refl
behind_blanks (suc m) text = behind_blanks m text

-- Digits begin with no blank.
digits_stay : (text : List ℕ) → digits text ≡ text → without_blanks text ≡ text
unfolding without_blanks digits
digits_stay [] h = refl
digits_stay (c ∷ text) h = go (is_digit c) refl
  where
    go : (b : Bool) → is_digit c ≡ b → cond (eqb c 32) (without_blanks text) (c ∷ text) ≡ c ∷ text
    go true e =
        let low : 48 ≤ c = leb-true 48 c (and-true (leb 48 c) (leb c 57) e).0 in
        let other : c ≡ 32 → ⊥ = λ q. omega arith in
        rw (ne_eqb c 32 other)
    go false e = let z : ◌≡◌ {A = List ℕ} [] (c ∷ text) = rw e at h in absurd (omega (arith, ap length z))

-- ---- A count

-- A count of at most ten digits in its column.
pub count_says : (c : ℕ) → c < 10 ^ 10 → Says (aligned 11 (numeral c)) c
unfolding aligned
count_says c l =
    let short = length-count c l in
    let ten = ten_digits c l in
    let all : digits (numeral c) ≡ numeral c = digits-numeral 20 c in
    let seen : without_blanks (replicate (11 - length (numeral c)) 32 ++ numeral c) ≡ numeral c =
    behind_blanks (11 - length (numeral c)) (numeral c) ∙ digits_stay (numeral c) all in
    record {
      begins = first (11 - length (numeral c)) (numeral c) (omega arith);
      all_digits = rw seen all;
      some = rw seen (some_digit 19 c);
      says = rw (seen, ten) (value-numeral 10 c l);
      no_needless_zero = λ positive. rw (seen, ten) (no_leading_zero 9 c l positive);
    }
  where
    first : (m : ℕ) (text : List ℕ) → 1 ≤ m → get_or (replicate m 32 ++ text) 0 0 ≡ 32
    first zero text h = absurd (omega arith)
    first (suc m) text h = refl

-- ---- By its process

pub column_says : (k : ℕ) (counts : List ℕ) (p : ℕ) → p < k → at counts p < 10 ^ 10
    → Says (column k counts p) (at counts p)
unfolding column
column_says k counts p l small = rw (lt-ltb p k l) (count_says (at counts p) small)

pub column_blank : (k : ℕ) (counts : List ℕ) (p : ℕ) → k ≤ p → column k counts p ≡ replicate 11 32
unfolding column aligned
column_blank k counts p l = rw (le-ltb p k l)
