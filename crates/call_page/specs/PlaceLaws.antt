-- Where a column and a row's ending stand in a page.
use Prim.Native.Nat.{ℕ, zero, suc, ◌+◌, ◌-◌, ◌*◌, ◌≤◌, ◌<◌}
use native.Mathlib.Omega.{arith}
use Rattle.std.proofs.Common.{add-zero, add-suc, sym, ap, ◌∙◌, append_assoc, append-nil, length-append, take_at, drop_at}
use Rattle.std.specs.Prelude.{◌≡◌, refl, List, [], ◌++◌, take, drop}
use Rattle.std.proofs.Math.ListN.{length}
use Rattle.codec.specs.Bit.{bit}
use Rattle.codec.specs.Little.{Bytes}
use Rattle.frontiers.specs.Bytes.{frontier_at, frontiers}
use Rattle.call_page.specs.Page.{column, columns, row, rows, ending}
use Rattle.call_page.specs.PageCode.{TenDigits}
use Rattle.call_page.specs.RowLaws.{few_digits, row_at, rows_more, length-rows, length-column, length-columns, length-ending}

-- ---- Parts of a text

-- A part of a text, with so many characters before it.
record Part (text part : List ℕ) (place : ℕ) : Type 0 where
  before : List ℕ
  behind : List ℕ
  text_is : text ≡ before ++ part ++ behind
  place_is : length before ≡ place

part-taken : (text part : List ℕ) (place n : ℕ) → Part text part place → length part ≡ n
    → take n (drop place text) ≡ part
part-taken text part place n P long =
    rw (
      P.text_is,
      append_assoc P.before part P.behind,
      drop_at P.before (part ++ P.behind) place P.place_is,
    )
    (take_at part P.behind n long)

-- A part of a part, and of a text with more behind it.
within : (text part piece : List ℕ) (a b : ℕ) → Part text part a → Part part piece b → Part text piece (a + b)
within text part piece a b P Q = record {
  before = P.before ++ Q.before;
  behind = Q.behind ++ P.behind;
  text_is = P.text_is ∙ rw Q.text_is (join P.before Q.before piece Q.behind P.behind);
  place_is = length-append P.before Q.before ∙ rw (P.place_is, Q.place_is);
}
  where
    join : (u v x y z : List ℕ) → u ++ (v ++ x ++ y) ++ z ≡ u ++ v ++ x ++ (y ++ z)
    join u v x y z =
        append_assoc u (v ++ x ++ y) z
        ∙ ap (λ (s : List ℕ). u ++ s) (append_assoc (v ++ x) y z ∙ append_assoc v x (y ++ z))
        ∙ sym (append_assoc u v (x ++ (y ++ z)))
        ∙ sym (append_assoc (u ++ v) x (y ++ z))

begun : (text part more : List ℕ) (a : ℕ) → Part text part a → Part (text ++ more) part a
begun text part more a P = record {
  before = P.before;
  behind = P.behind ++ more;
  text_is = ap (λ (s : List ℕ). s ++ more) P.text_is ∙ append_assoc (P.before ++ part) P.behind more;
  place_is = P.place_is;
}

ends : (text part : List ℕ) → Part (text ++ part) part (length text)
ends text part = record {
  before = text;
  behind = [];
  text_is = sym (append-nil (text ++ part));
  place_is = refl;
}

-- ---- Columns and rows

column_in : (k : ℕ) (counts : List ℕ) → TenDigits counts → (p m : ℕ)
    → Part (columns k counts (suc p + m)) (column k counts p) (11 * p)
unfolding columns
column_in k counts ten p zero =
    rw (add-zero (suc p), ← length-columns k counts p ten) (ends (columns k counts p) (column k counts p))
column_in k counts ten p (suc m) =
    rw (add-suc (suc p) m)
    (begun (columns k counts (suc p + m)) (column k counts p) (column k counts (suc p + m)) (11 * p)
    (column_in k counts ten p m))

module _ (w : ℕ) (s : List ℕ) (b : Bytes s) (narrow : w ≤ 4) (k line : ℕ) where
  row_in : (i m : ℕ) → Part (rows k line (frontiers w s (suc i + m))) (row_at w s k line i) (93 * i)
  row_in i zero =
      rw (add-zero (suc i), rows_more w s k line i, ← length-rows w s b narrow k line i)
      (ends (rows k line (frontiers w s i)) (row_at w s k line i))
  row_in i (suc m) =
      rw (add-suc (suc i) m, rows_more w s k line (suc i + m))
      (begun (rows k line (frontiers w s (suc i + m))) (row_at w s k line i) (row_at w s k line (suc i + m)) (93 * i)
      (row_in i m))

  -- In a page of n rows, whatever stands behind them.
  module _ (n i : ℕ) (l : i < n) (rest : List ℕ) where
    abbrev text : List ℕ
    text = rows k line (frontiers w s n) ++ rest

    row-there : Part text (row_at w s k line i) (93 * i)
    row-there =
        let all : suc i + (n - suc i) ≡ n = omega arith in
        begun (rows k line (frontiers w s n)) (row_at w s k line i) rest (93 * i) (rw all at (row_in i (n - suc i)))

    pub column-there : (p : ℕ) → p < 8 → take 11 (drop (93 * i + 11 * p) text) ≡ column k (frontier_at w s i).counts p
    unfolding row
    column-there p m =
        let counts = (frontier_at w s i).counts in
        let ten = few_digits w s b narrow i in
        let all : suc p + (8 - suc p) ≡ 8 = omega arith in
        let inside : Part (columns k counts 8) (column k counts p) (11 * p) =
        rw all at (column_in k counts ten p (8 - suc p)) in
        let truth = bit (frontier_at w s i).values line in
        let begin : Part (row_at w s k line i) (column k counts p) (11 * p) =
        begun (columns k counts 8) (column k counts p) (ending truth) (11 * p) inside in
        part-taken text (column k counts p) (93 * i + 11 * p) 11
        (within text (row_at w s k line i) (column k counts p) (93 * i) (11 * p) row-there begin)
        (length-column k counts p ten)

    pub ending_there : take 5 (drop (93 * i + 88) text) ≡ ending (bit (frontier_at w s i).values line)
    unfolding row
    ending_there =
        let counts = (frontier_at w s i).counts in
        let truth = bit (frontier_at w s i).values line in
        let eight : length (columns k counts 8) ≡ 88 = length-columns k counts 8 (few_digits w s b narrow i) in
        let end : Part (row_at w s k line i) (ending truth) 88 =
        rw (← eight) (ends (columns k counts 8) (ending truth)) in
        part-taken text (ending truth) (93 * i + 88) 5
        (within text (row_at w s k line i) (ending truth) (93 * i) 88 row-there end)
        (length-ending truth)
