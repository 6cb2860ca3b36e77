-- Laws of what reading a rule answers and leaves, by the answer for its form; and the table's bytes out of the lines
-- laid down.
use Rattle.std.specs.Prelude.{ℕ, zero, suc, ◌+◌, ◌-◌, ◌*◌, ◌≤◌, ◌<◌, ◌≡◌, refl, true, List, ◌∷◌, ◌++◌, length, take, drop, replicate}
use Rattle.std.proofs.Common.{suc-add, zero-add, arith, ap, ◌∙◌, length-append}
use Rattle.std.proofs.lemmas.List.{length-replicate}
use Rattle.std.proofs.lemmas.List.Edits.{sets, sets-eq}
use Rattle.std.proofs.Math.Seq.{take-append-add}
use borrow.Author.Tests.{eq-eqb, ne_eqb, lt-ltb, le-ltb}
use Rattle.rules.specs.RuleRead.{Accepted, Refused}
use Rattle.rules.specs.Formula.{Formula, AtomsBelow}
use Rattle.rules.specs.Line.{line_count, lines_at}
use Rattle.rules.specs.lines.LineLaws.{length-lines_at, good_lines_at}
use Rattle.pactl.specs.Table.{table_bytes, good_table}
use Rattle.pactl.specs.TableBytes.{lines_of}
use Rattle.pactl.specs.TableBytesLaws.{lines_of-table_bytes}
use Rattle.pactl.specs.TableLaws.{length-table_bytes}
use Rattle.rules.specs.Reader.{formed, faulty, and_then, form_at, read_rule}
use Rattle.rules.specs.Laying.{lay}
use Rattle.rules.specs.RuleTable.{table_of, answer_of, table_after, rule_answer, rule_table}

-- The whole text, by its form

module _ (s : List ℕ) (k : ℕ) where
  pub rule_fault : (n i : ℕ) → form_at 32 s k 0 0 ≡ faulty n i → read_rule s k ≡ faulty n i
  unfolding read_rule and_then
  rule_fault n i e = rw e

  pub rule_more : (i : ℕ) (f : Formula) → form_at 32 s k 0 0 ≡ formed i f → i < length s → read_rule s k ≡ faulty 1 i
  unfolding read_rule and_then
  rule_more i f e h = rw (e, lt-ltb i (length s) h)

  pub rule_form : (i : ℕ) (f : Formula) → form_at 32 s k 0 0 ≡ formed i f → length s ≤ i → read_rule s k ≡ formed i f
  unfolding read_rule and_then
  rule_form i f e h = rw (e, le-ltb i (length s) h)

  -- The answer and the table

  pub rule_length : (old : List ℕ) → (length old ≡ 192 → ⊥) → (Refused 6 0 ≡ rule_answer s k old) × (old ≡ rule_table s k old)
  unfolding rule_answer rule_table
  rule_length old z = rw (ne_eqb (length old) 192 z) (refl, refl)

  pub rule_refused : (old : List ℕ) (n i : ℕ) → length old ≡ 192 → read_rule s k ≡ faulty n i
      → (Refused n i ≡ rule_answer s k old) × (old ≡ rule_table s k old)
  unfolding rule_answer rule_table answer_of table_after
  rule_refused old n i z e = rw (eq-eqb (length old) 192 z, e) (refl, refl)

  pub rule_accepted : (old new : List ℕ) (n i : ℕ) (f : Formula) → length old ≡ 192 → read_rule s k ≡ formed i f → n ≡ line_count f → new ≡ table_of f
      → (Accepted n ≡ rule_answer s k old) × (new ≡ rule_table s k old)
  unfolding rule_answer rule_table answer_of table_after
  rule_accepted old new n i f z e p q = rw (eq-eqb (length old) 192 z, e) (ap Accepted p, q)

-- Zeros behind the lines

drop-replicate : (m n : ℕ) (x : ℕ) → drop m (replicate (m + n) x) ≡ replicate n x
drop-replicate zero n x = rw zero-add
drop-replicate (suc m) n x = rw suc-add (drop-replicate m n x)

take-replicate : (m n : ℕ) (x : ℕ) → take m (replicate (m + n) x) ≡ replicate m x
take-replicate zero n x = refl
take-replicate (suc m) n x = rw suc-add (ap (λ (l : List ℕ). x ∷ l) (take-replicate m n x))

-- Bytes stored at the front of zeros, and zeros behind them.
front_zeros : (bs : List ℕ) (a b m n : ℕ) → a ≡ length bs + m → b ≡ length bs + (m + n) → take a (sets (replicate b 0) 0 bs) ≡ bs ++ replicate m 0
front_zeros bs a b m n p q =
    let zeros : List ℕ = replicate b 0 in
    let size : length zeros ≡ b = length-replicate {A = ℕ} b 0 in
    let split : sets zeros 0 bs ≡ bs ++ drop (length bs) zeros = sets-eq bs zeros 0 (omega arith) ∙ rw (zero-add (length bs)) in
    rw (split, p, take-append-add bs (drop (length bs) zeros) m, q, drop-replicate (length bs) (m + n) 0, take-replicate m n 0)

-- The first 192 bytes of the lines laid down in zeros are the form's table.
pub take_laid : (lines : List ℕ) (f : Formula) → line_count f ≤ 64 → lines ≡ lay (replicate 600 0) 0 (lines_at 0 f) → take 192 lines ≡ table_of f
unfolding lay table_of
take_laid lines f h e =
    let bs = table_bytes (lines_at 0 f) in
    let long : length bs ≡ 3 * line_count f = length-table_bytes (lines_at 0 f) ∙ ap (λ (n : ℕ). 3 * n) (length-lines_at 0 f) in
    ap (take 192) e ∙ front_zeros bs 192 600 (192 - 3 * line_count f) 408 (omega arith) (omega arith)

-- A table has 192 bytes, its lines are the form's, and they are good.
pub length-table_of : (f : Formula) → line_count f ≤ 64 → length (table_of f) ≡ 192
unfolding table_of
length-table_of f h =
    let bs = table_bytes (lines_at 0 f) in
    let long : length bs ≡ 3 * line_count f = length-table_bytes (lines_at 0 f) ∙ ap (λ (n : ℕ). 3 * n) (length-lines_at 0 f) in
    let zeros : List ℕ = replicate (192 - 3 * line_count f) 0 in
    let size : length zeros ≡ 192 - 3 * line_count f = length-replicate {A = ℕ} (192 - 3 * line_count f) 0 in
    length-append bs zeros ∙ omega arith

pub lines_of-table_of : (f : Formula) → lines_of (table_of f) (line_count f) ≡ lines_at 0 f
unfolding table_of
lines_of-table_of f = rw (length-lines_at 0 f) at (lines_of-table_bytes (lines_at 0 f) (replicate (192 - 3 * line_count f) 0))

pub good_table_of : (k : ℕ) (f : Formula) → 0 < k → AtomsBelow k f → good_table k (lines_of (table_of f) (line_count f)) ≡ true
good_table_of k f h b = rw (lines_of-table_of f) (good_lines_at k h 0 f b)
