-- Laws of laying lines down, and of the code's answers against the readings they stand for.
use Prim.Native.Nat.{ℕ, ◌+◌, ◌-◌, ◌*◌, ◌≤◌}
use native.Mathlib.Omega.{arith}
use mathlib.Core.Path.{◌≡◌, refl, sym, ◌∙◌}
use mathlib.Core.Bool.{Bool, true, false, cond}
use mathlib.Core.List.{List, [], ◌++◌}
use lib.Dec.{leb, eqb}
use lib.ListN.{length, length-append}
use lib.Seq.{length-sets}
use Rattle.codec.specs.SetsLaws.{sets-append}
use Rattle.pactl.specs.declared.Line.{Line}
use Rattle.rules.specs.declared.Unary.{Unary}
use Rattle.rules.specs.declared.Unary.TheVariants.{Not, Ey, Ep, Ap, Ay, Eh, Ah}
use Rattle.rules.specs.ReaderCode.{Read, Form, Refused, read_of}
use Rattle.pactl.specs.TableLaws.{length-table_bytes, table_bytes-append}
use Rattle.rules.specs.Line.{true_lines, lines_before, line_count, lines_at}
use Rattle.pactl.specs.Table.{table_bytes}
use Rattle.rules.specs.Text.{byte_at}
use Rattle.rules.specs.Laying.{lay, Laid, has_true, close_read, LaidDown, Done}
use Rattle.rules.specs.Formula.{Formula}
use Rattle.rules.specs.Reader.{expect, close_at, formed, faulty}

pub length-lay : (bytes : List ℕ) (n : ℕ) (ls : List Line) → length (lay bytes n ls) ≡ length bytes
unfolding lay
length-lay bytes n ls = length-sets bytes (3 * n) (table_bytes ls)

pub lay-none : (bytes : List ℕ) (n : ℕ) → lay bytes n [] ≡ bytes
unfolding lay table_bytes
lay-none bytes n = refl

-- Lines laid down right behind others.
pub lay-lay : (bytes : List ℕ) (n m : ℕ) (ls ms : List Line) → m ≡ n + length ls → lay (lay bytes n ls) m ms ≡ lay bytes n (ls ++ ms)
unfolding lay
lay-lay bytes n m ls ms h =
    let e : 3 * m ≡ 3 * n + length (table_bytes ls) = omega (arith, length-table_bytes ls) in
    rw (e, sets-append bytes (3 * n) (table_bytes ls) (table_bytes ms), table_bytes-append ls ms)

-- What is laid down in two parts; with a larger bound; and where nothing is.
pub laid_then : {n m k : ℕ} {ls ms : List Line} {old mid new : List ℕ} {r q : ℕ} → Laid n m ls old mid r
    → Laid r k ms mid new q → Laid n (m + k) (ls ++ ms) old new q
laid_then {n} {m} {k} {ls} {ms} {old} {mid} {new} {r} {q} p t =
    let e : length (ls ++ ms) ≡ length ls + length ms = length-append ls ms in
    record {
      count = omega (arith, p.count, t.count);
      few = omega (arith, p.few, t.few);
      table = t.table ∙ rw p.table (lay-lay old n r ls ms p.count);
    }

pub laid_within : {n m k : ℕ} {ls : List Line} {old new : List ℕ} {r : ℕ} → Laid n m ls old new r → m ≤ k
    → Laid n k ls old new r
laid_within p h = record { count = p.count; few = omega (arith, p.few); table = p.table }

pub laid_none : {n k : ℕ} {old : List ℕ} → Laid n k [] old old n
laid_none {n} {k} {old} = record { count = omega arith; few = omega arith; table = sym (lay-none old n) }

pub lines_before-cond : (w : Unary) (n : ℕ) → lines_before w n ≡ cond (has_true w) (true_lines n) []
unfolding lines_before has_true
lines_before-cond Not n = refl
lines_before-cond Ey n = refl
lines_before-cond Ep n = refl
lines_before-cond Ap n = refl
lines_before-cond Ay n = refl
lines_before-cond Eh n = refl
lines_before-cond Ah n = refl

-- Faults

pub done_refused : (laid closed : ℕ) (old new : List ℕ) (n i : ℕ) → Done laid closed old new (faulty n i) (Refused n i)
unfolding read_of LaidDown
done_refused laid closed old new n i = record { answer = refl; table = tt }

-- The closing bracket

pub read_of_close : (laid closed : ℕ) (s : List ℕ) (i : ℕ) (f : Formula)
    → read_of laid closed (close_at s closed i f) ≡ close_read s i (laid + line_count f) (closed + line_count f)
unfolding close_at close_read expect read_of
read_of_close laid closed s i f = go (eqb (byte_at s i) 41) (leb (closed + line_count f) 64)
  where
    go : (x y : Bool) → read_of laid closed (cond x (cond y (formed (i + 1) f) (faulty 3 i)) (faulty 1 i))
        ≡ cond x (cond y (Form (i + 1) (laid + line_count f) (closed + line_count f)) (Refused 3 i)) (Refused 1 i)
    go true true = unfold read_of in refl
    go true false = unfold read_of in refl
    go false y = unfold read_of in refl

laid_close : (n : ℕ) (old new : List ℕ) (s : List ℕ) (closed i : ℕ) (f : Formula) → new ≡ lay old n (lines_at n f)
    → LaidDown n old new (close_at s closed i f)
unfolding close_at expect
laid_close n old new s closed i f h = go (eqb (byte_at s i) 41) (leb (closed + line_count f) 64)
  where
    go : (x y : Bool) → LaidDown n old new (cond x (cond y (formed (i + 1) f) (faulty 3 i)) (faulty 1 i))
    go true true = unfold LaidDown in h
    go true false = unfold LaidDown in tt
    go false y = unfold LaidDown in tt

-- The whole answer at a closing bracket, from the lines that the code counts and the table.
pub done_close : (laid closed : ℕ) (old new : List ℕ) (s : List ℕ) (i end : ℕ) (f : Formula) (r : Read)
    → r ≡ close_read s i end (closed + (end - laid)) → end ≡ laid + line_count f → new ≡ lay old laid (lines_at laid f)
    → Done laid closed old new (close_at s closed i f) r
done_close laid closed old new s i end f r e p h =
    let q : closed + (end - laid) ≡ closed + line_count f = omega arith in
    record {
      answer = e ∙ rw (q, p) (sym (read_of_close laid closed s i f));
      table = laid_close laid old new s closed i f h;
    }
