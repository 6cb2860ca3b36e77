-- Laws of judging: a frontier's word has a bit for each line, and bit i is what line i's clause says of the word
-- itself.
use Prim.Native.Nat.{ℕ, zero, suc, ◌+◌, ◌^◌, ◌≤◌, ◌<◌, ◌-◌}
use native.Mathlib.Omega.{arith}
use Rattle.std.proofs.Common.{add-zero, zero-add, pow-suc, add-one, ◌∙◌, lit<}
use Rattle.std.specs.Prelude.{◌≡◌, Bool, get_or}
use Rattle.std.proofs.Math.Path.{refl, sym}
use Rattle.std.proofs.Math.Bool.{true, false}
use mathlib.Core.List.{List, [], ◌∷◌}
use Rattle.std.proofs.Math.Dec.{eqb}
use Rattle.std.proofs.Math.ListN.{length}
use Rattle.codec.specs.Bit.{bit}
use Rattle.codec.specs.BitLaws.{bit_above, bit_top, bit_under_top}
use Rattle.pactl.specs.declared.Line.{Line}
use Rattle.pactl.specs.Judge.{not_judged, and_judged, es_judged, as_judged, judge_line, with_bit, judge_from, judge}
use Rattle.pactl.specs.Table.{good_line, good_from, good_table}
use Rattle.pactl.specs.GoodLineLaws.{good_earlier}
use Rattle.pactl.specs.TableBytesLaws.{lines_from_next, lines_from-end}
use Rattle.pactl.specs.TableBytes.{line_at, lines_from}
use Rattle.clocks.specs.stored.BoundedLaws.{and-true}

-- One line more

pub with_bit-lt : (v i : ℕ) (t : Bool) → v < 2 ^ i → with_bit v i t < 2 ^ (i + 1)
with_bit-lt v i true h = rw (add-one i, pow-suc) (omega arith)
with_bit-lt v i false h = rw (add-one i, pow-suc) (omega arith)

with_bit-here : (v i : ℕ) (t : Bool) → v < 2 ^ i → bit (with_bit v i t) i ≡ t
with_bit-here v i true h = bit_top v i h
with_bit-here v i false h = bit_above v i i h (omega arith)

with_bit_under : (v i : ℕ) (t : Bool) (j : ℕ) → j < i → bit (with_bit v i t) j ≡ bit v j
with_bit_under v i true j h = bit_under_top v i j h
with_bit_under v i false j h = refl

module _ (labels : List ℕ) (any all : ℕ) (preceded : Bool) where
  -- Two words that agree below line i give a good line i the same truth.
  judge_line_local : (v w k i : ℕ) (l : Line) → good_line k i l ≡ true → ((j : ℕ) → j < i → bit v j ≡ bit w j)
      → judge_line labels v any all preceded i l ≡ judge_line labels w any all preceded i l
  unfolding judge_line not_judged and_judged es_judged as_judged
  judge_line_local v w k i l h agree = go (eqb l.kind 0) refl
    where
      go : (t : Bool) → eqb l.kind 0 ≡ t
          → judge_line labels v any all preceded i l ≡ judge_line labels w any all preceded i l
      go true e = rw e
      go false e =
          let p = good_earlier k i l h e in
          rw (agree l.a p.0, agree l.b p.1)

  -- Later lines leave the bits of earlier ones as they are.
  judge_from_under : (v i : ℕ) (ls : List Line) (j : ℕ) → j < i
      → bit (judge_from labels any all preceded v i ls) j ≡ bit v j
  unfolding judge_from
  judge_from_under v i [] j h = refl
  judge_from_under v i (l ∷ ls) j h =
      judge_from_under (with_bit v i (judge_line labels v any all preceded i l)) (i + 1) ls j (omega arith) ∙ with_bit_under v i (judge_line labels v any all preceded i l) j h

  pub judge_from-lt : (v i : ℕ) (ls : List Line) → v < 2 ^ i
      → judge_from labels any all preceded v i ls < 2 ^ (i + length ls)
  unfolding judge_from
  judge_from-lt v i [] h = rw (add-zero i) h
  judge_from-lt v i (l ∷ ls) h =
      let e : i + suc (length ls) ≡ i + 1 + length ls = omega arith in
      rw e (judge_from-lt (with_bit v i (judge_line labels v any all preceded i l)) (i + 1) ls (with_bit-lt v i (judge_line labels v any all preceded i l) h))

  judge_from-bit : (v k i : ℕ) (ls : List Line) (j : ℕ) (d : Line) → v < 2 ^ i → good_from k i ls ≡ true → j < length ls
      → bit (judge_from labels any all preceded v i ls) (i + j)
      ≡ judge_line labels (judge_from labels any all preceded v i ls) any all preceded (i + j) (get_or ls j d)
  unfolding judge_from good_from
  judge_from-bit v k i [] j d h g l = absurd (omega arith)
  judge_from-bit v k i (x ∷ ls) zero d h g l =
      let t = judge_line labels v any all preceded i x in
      let u = with_bit v i t in
      let w = judge_from labels any all preceded u (i + 1) ls in
      rw (add-zero i)
      (judge_from_under u (i + 1) ls i (omega arith)
      ∙ with_bit-here v i t h
      ∙ judge_line_local v w k i x (and-true (good_line k i x) (good_from k (i + 1) ls) g).0
      (λ m lt. sym (judge_from_under u (i + 1) ls m (omega arith) ∙ with_bit_under v i t m lt)))
  judge_from-bit v k i (x ∷ ls) (suc j) d h g l =
      let t = judge_line labels v any all preceded i x in
      let e : i + suc j ≡ i + 1 + j = omega arith in
      let rest : good_from k (i + 1) ls ≡ true = (and-true (good_line k i x) (good_from k (i + 1) ls) g).1 in
      rw e (judge_from-bit (with_bit v i t) k (i + 1) ls j d (with_bit-lt v i t h) rest (omega arith))

  -- A frontier's word has bits below the number of lines only.
  pub judge-lt : (ls : List Line) → judge labels any all preceded ls < 2 ^ length ls
  judge-lt ls = rw (zero-add (length ls)) at (judge_from-lt 0 0 ls (lit< tt))

  pub judge_above : (ls : List Line) (i : ℕ) → length ls ≤ i → bit (judge labels any all preceded ls) i ≡ false
  judge_above ls i h = bit_above _ (length ls) i (judge-lt ls) h

  -- Bit i is what line i's clause says, of the word itself.
  pub judge-bit : (k : ℕ) (ls : List Line) (i : ℕ) (d : Line) → good_table k ls ≡ true → i < length ls
      → bit (judge labels any all preceded ls) i
      ≡ judge_line labels (judge labels any all preceded ls) any all preceded i (get_or ls i d)
  judge-bit k ls i d g h = rw (zero-add i) at (judge_from-bit 0 k 0 ls i d (lit< tt) g h)

  -- Judging the lines from line i on of a table's bytes: line i, then those behind it.
  pub judge_from_next : (v : ℕ) (bytes : List ℕ) (n i : ℕ) → i < n
      → judge_from labels any all preceded v i (lines_from bytes (n - i) i)
      ≡ judge_from labels any all preceded (with_bit v i (judge_line labels v any all preceded i (line_at bytes i))) (i + 1)
      (lines_from bytes (n - (i + 1)) (i + 1))
  unfolding judge_from
  judge_from_next v bytes n i h = rw (lines_from_next bytes n i h)

  pub judge_from-end : (v : ℕ) (bytes : List ℕ) (n i : ℕ) → n ≤ i
      → judge_from labels any all preceded v i (lines_from bytes (n - i) i) ≡ v
  unfolding judge_from
  judge_from-end v bytes n i h = rw (lines_from-end bytes n i h)
