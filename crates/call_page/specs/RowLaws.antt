-- The lengths of a page's parts: a column has 11 characters, as no count of 32 bits has more than ten digits, and a row
-- 93 bytes.
use Prim.Native.Nat.{ℕ, zero, suc, ◌+◌, ◌-◌, ◌*◌, ◌^◌, ◌≤◌, ◌<◌}
use Rattle.std.proofs.Common.{arith, lt_of_lt_of_le, le_trans, sym, ap, ◌∙◌, append_assoc, append-nil, lit<, lit≤}
use Rattle.std.proofs.Math.Decide.{dec_lt}
use Rattle.std.proofs.Math.Nat.{pow-le-pow_right}
use Rattle.std.specs.Prelude.{◌≡◌, Bool, true, false, cond, List, [], ◌∷◌, ◌++◌, ltb, length, replicate}
use Rattle.std.proofs.Math.Path.{refl}
use Rattle.std.proofs.Math.ListN.{length-append}
use Rattle.std.proofs.lemmas.List.{length-replicate}
use Rattle.codec.specs.Bit.{bit}
use Rattle.codec.specs.Decimal.{numeral_of, numeral}
use Rattle.codec.specs.DecimalLaws.{length-numeral, enough-digits}
use Rattle.clocks.specs.Counts.{at, list_of}
use Rattle.clocks.specs.stored.CountsLaws.{at-list_of, at_beyond, length-list_of}
use Rattle.codec.specs.Little.{Bytes, number}
use Rattle.codec.specs.PutLaws.{number_lt}
use Rattle.frontiers.specs.declared.Frontier.{Frontier}
use Rattle.frontiers.specs.Bytes.{frontier_length, frontier_from, frontier_at, frontiers}
use Rattle.frontiers.specs.WindowLaws.{frontiers_more}
use Rattle.call_page.specs.PageCode.{TenDigits}
use Rattle.call_page.specs.Page.{aligned, column, columns, word, row, rows, ending}

-- ---- A column

pub length-aligned : (width : ℕ) (text : List ℕ) → length text ≤ width → length (aligned width text) ≡ width
unfolding aligned
length-aligned width text h =
    rw (length-append (replicate (width - length text) 32) text, length-replicate {A = ℕ} (width - length text) 32)
    (omega arith)

-- Ten digits are enough for such a count, and so is any number above.
pub ten_digits : (n : ℕ) → n < 10 ^ 10 → numeral n ≡ numeral_of 10 n
ten_digits n l = enough-digits 9 10 n l

pub eleven_digits : (n : ℕ) → n < 10 ^ 10 → numeral n ≡ numeral_of 11 n
eleven_digits n l = ten_digits n l ∙ sym (enough-digits 9 1 n l)

pub length-count : (n : ℕ) → n < 10 ^ 10 → length (numeral n) ≤ 10
length-count n l = rw (ten_digits n l) (length-numeral 10 n)

pub length-column : (k : ℕ) (counts : List ℕ) (p : ℕ) → TenDigits counts → length (column k counts p) ≡ 11
unfolding column
length-column k counts p ten = length-aligned 11 (cond (ltb p k) (numeral (at counts p)) []) (go (ltb p k))
  where
    go : (b : Bool) → length (cond b (numeral (at counts p)) []) ≤ 11
    go true = omega (arith, length-count (at counts p) (ten p))
    go false = omega arith

-- ---- A row

pub length-columns : (k : ℕ) (counts : List ℕ) (n : ℕ) → TenDigits counts → length (columns k counts n) ≡ 11 * n
unfolding columns
length-columns k counts zero ten = refl
length-columns k counts (suc p) ten =
    rw (length-append (columns k counts p) (column k counts p))
    (omega (arith, length-columns k counts p ten, length-column k counts p ten))

pub length-ending : (truth : Bool) → length (ending truth) ≡ 5
unfolding ending word
length-ending true = refl
length-ending false = refl

pub length-row : (k : ℕ) (counts : List ℕ) (truth : Bool) → TenDigits counts → length (row k counts truth) ≡ 93
unfolding row
length-row k counts truth ten =
    rw (length-append (columns k counts 8) (ending truth))
    (omega (arith, length-columns k counts 8 ten, length-ending truth))

-- ---- Rows

-- A count of up to four bytes has at most ten digits.
pub few_digits : (w : ℕ) (s : List ℕ) → Bytes s → w ≤ 4 → (i : ℕ) → TenDigits (frontier_at w s i).counts
unfolding frontier_at frontier_from
few_digits w s b narrow i p = go (dec_lt p 8)
  where
    place : ℕ
    place = i * frontier_length w

    go : Dec (p < 8) → at (list_of 8 (λ q. number s (place + q * w) w)) p < 10 ^ 10
    go (yes l) =
        rw (at-list_of 8 (λ q. number s (place + q * w) w) p l)
        (lt_of_lt_of_le (number_lt s (place + p * w) w b) (le_trans (pow-le-pow_right (lit< tt) narrow) (lit≤ tt)))
    go (no l) = rw (at_beyond (list_of 8 (λ q. number s (place + q * w) w)) p (rw length-list_of (omega arith))) (lit< tt)

pub rows_behind : (k line : ℕ) (fs gs : List Frontier) → rows k line (fs ++ gs) ≡ rows k line fs ++ rows k line gs
unfolding rows
rows_behind k line [] gs = refl
rows_behind k line (f ∷ fs) gs =
    ap (λ (s : List ℕ). row k f.counts (bit f.values line) ++ s) (rows_behind k line fs gs)
    ∙ sym (append_assoc (row k f.counts (bit f.values line)) (rows k line fs) (rows k line gs))

-- The row of frontier number i.
abbrev pub row_at : ℕ → List ℕ → ℕ → ℕ → ℕ → List ℕ
row_at w s k line i = row k (frontier_at w s i).counts (bit (frontier_at w s i).values line)

-- One row more.
pub rows_more : (w : ℕ) (s : List ℕ) (k line n : ℕ)
    → rows k line (frontiers w s (suc n)) ≡ rows k line (frontiers w s n) ++ row_at w s k line n
unfolding rows
rows_more w s k line n =
    ap (rows k line) (frontiers_more w s n) ∙ rows_behind k line (frontiers w s n) (frontier_at w s n ∷ []) ∙ one
  where
    one : rows k line (frontiers w s n) ++ rows k line (frontier_at w s n ∷ [])
        ≡ rows k line (frontiers w s n) ++ row_at w s k line n
    one = ap (λ (r : List ℕ). rows k line (frontiers w s n) ++ r) (append-nil (row_at w s k line n))

module _ (w : ℕ) (s : List ℕ) (b : Bytes s) (narrow : w ≤ 4) (k line : ℕ) where
  pub length-row_at : (i : ℕ) → length (row_at w s k line i) ≡ 93
  length-row_at i =
      length-row k (frontier_at w s i).counts (bit (frontier_at w s i).values line) (few_digits w s b narrow i)

  pub length-rows : (n : ℕ) → length (rows k line (frontiers w s n)) ≡ 93 * n
  unfolding rows frontiers list_of
  length-rows zero = refl
  length-rows (suc n) =
      rw (rows_more w s k line n, length-append (rows k line (frontiers w s n)) (row_at w s k line n))
      (omega (arith, length-rows n, length-row_at n))
