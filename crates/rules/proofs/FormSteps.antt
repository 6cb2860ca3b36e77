-- The reader's definition as the code takes it, for forms: by the byte, the nesting that is left and the word, and then
-- by what the forms inside gave. From the code's answers back to readings, and to the table that they leave.
use Prim.Native.Nat.{ℕ, zero, suc, ◌+◌, ◌-◌, ◌*◌, ◌≤◌}
use native.Mathlib.Omega.{arith}
use mathlib.Core.Path.{◌≡◌, refl, sym, subst, ◌∙◌}
use mathlib.Core.List.{List, ◌++◌}
use lib.ListN.{length, take, replicate, length-append}
use Rattle.rules.specs.declared.Unary.{Unary}
use Rattle.rules.specs.declared.Binary.{Binary}
use Rattle.rules.specs.WordRead.{WordRead}
use Rattle.rules.specs.ReaderCode.{Form, Refused}
use Rattle.rules.specs.Line.{lines_before, lines_after, lines_between, lines_after_both, line_count, lines_at}
use Rattle.rules.proofs.LayingSteps.{lay-lay}
use Rattle.rules.specs.Text.{byte_at}
use Rattle.rules.specs.Laying.{lay, LaidDown, Done}
use Rattle.rules.specs.reading.ReaderLaws.{inner_formed, form_at-formed, read_of_form, read_of-refused}
use Rattle.rules.specs.Formula.{Formula, unary, binary}
use Rattle.rules.proofs.forms.ReaderSteps.{expect_met, expect_other}
use Rattle.rules.specs.reading.PlaceLaws.{length-text_of}
use Rattle.rules.specs.lines.LineLaws.{length-lines_at, line_count_pos}
use Rattle.rules.specs.RuleTable.{table_of}
use Rattle.rules.specs.lines.RuleTableLaws.{take_laid}
use Rattle.rules.specs.Reader.{word_at, Reading, and_then, close_at, inner_with, unary_with, binary_with, body_with, form_at, formed, faulty}

-- A form's first byte and its word

pub form_at_other : (a : ℕ) (s : List ℕ) (k closed i : ℕ) → (byte_at s i ≡ 40 → ⊥) → form_at a s k closed i ≡ faulty 1 i
unfolding form_at
form_at_other zero s k closed i e = expect_other s i 40 e (faulty 2 i)
form_at_other (suc a) s k closed i e = expect_other s i 40 e (body_with (form_at a s k) s k closed (word_at s (i + 1)))

pub form_at_deep : (a : ℕ) (s : List ℕ) (k closed i : ℕ) → byte_at s i ≡ 40 → a ≡ 0 → form_at a s k closed i ≡ faulty 2 i
unfolding form_at
form_at_deep zero s k closed i e z = expect_met s i 40 e (faulty 2 i)
form_at_deep (suc a) s k closed i e z = absurd (omega arith)

-- Behind an opening bracket, with nesting left, stands a word.
pub record Opened (a : ℕ) (s : List ℕ) (i : ℕ) (word : WordRead) : Type 0 where
  pub bracket : byte_at s i ≡ 40
  pub left : a ≡ 0 → ⊥
  pub meets : word_at s (i + 1) ≡ word

pub form_at-word : (a : ℕ) (s : List ℕ) (k closed i : ℕ) (word : WordRead) → Opened a s i word
    → form_at a s k closed i ≡ body_with (form_at (a - 1) s k) s k closed word
unfolding form_at
form_at-word zero s k closed i word o = absurd (o.left refl)
form_at-word (suc a) s k closed i word o =
    let h : suc a - 1 ≡ a = omega arith in
    rw (h, expect_met s i 40 o.bracket, o.meets)

-- By what the forms inside gave

module _ (reader : ℕ → ℕ → Reading) (s : List ℕ) where
  pub unary_fault : (w : Unary) (closed i n j : ℕ) → inner_with reader s closed i ≡ faulty n j
      → unary_with reader s w closed i ≡ faulty n j
  unfolding unary_with and_then
  unary_fault w closed i n j e = rw e

  pub unary_form : (w : Unary) (closed i j : ℕ) (f : Formula) → inner_with reader s closed i ≡ formed j f
      → unary_with reader s w closed i ≡ close_at s closed j (unary w f)
  unfolding unary_with and_then
  unary_form w closed i j f e = rw e

  pub binary_fault : (w : Binary) (closed i n j : ℕ) → inner_with reader s closed i ≡ faulty n j
      → binary_with reader s w closed i ≡ faulty n j
  unfolding binary_with and_then
  binary_fault w closed i n j e = rw e

  pub binary-second_fault : (w : Binary) (closed i j : ℕ) (f : Formula) (n m c : ℕ) → inner_with reader s closed i ≡ formed j f → c ≡ closed + line_count f
      → inner_with reader s c j ≡ faulty n m → binary_with reader s w closed i ≡ faulty n m
  unfolding binary_with and_then
  binary-second_fault w closed i j f n m c e q d = rw (e, ← q, d)

  pub binary_form : (w : Binary) (closed i j m : ℕ) (f g : Formula) (c : ℕ) → inner_with reader s closed i ≡ formed j f → c ≡ closed + line_count f
      → inner_with reader s c j ≡ formed m g → binary_with reader s w closed i ≡ close_at s closed m (binary w f g)
  unfolding binary_with and_then
  binary_form w closed i j m f g c e q d = rw (e, ← q, d)

-- From the code's answer back

-- An answer that is a form: which, and the table with its lines.
pub record FormDone (laid closed : ℕ) (old new : List ℕ) (reading : Reading) (j l c : ℕ) : Type 0 where
  pub form : Formula
  pub read : reading ≡ formed j form
  pub laid_now : l ≡ laid + line_count form
  pub closed_now : c ≡ closed + line_count form
  pub table : new ≡ lay old laid (lines_at laid form)

laid_formed : (n : ℕ) (old new : List ℕ) (reading : Reading) (j : ℕ) (f : Formula) → reading ≡ formed j f → LaidDown n old new reading
    → new ≡ lay old n (lines_at n f)
unfolding LaidDown
laid_formed n old new reading j f e d = subst (LaidDown n old new) e d

pub form_done : (laid closed : ℕ) (old new : List ℕ) (reading : Reading) (j l c : ℕ) → Done laid closed old new reading (Form j l c)
    → FormDone laid closed old new reading j l c
form_done laid closed old new reading j l c d =
    let x = read_of_form laid closed reading j l c (sym d.answer) in
    record {
      form = x.0;
      read = x.1;
      laid_now = x.2;
      closed_now = x.3;
      table = laid_formed laid old new reading j x.0 x.1 d.table;
    }

pub fault_done : (laid closed : ℕ) (old new : List ℕ) (reading : Reading) (n j : ℕ) → Done laid closed old new reading (Refused n j)
    → reading ≡ faulty n j
fault_done laid closed old new reading n j d = read_of-refused laid closed reading n j (sym d.answer)

-- A form read at a text's first byte: which, and the front of the table with its lines.
pub record RuleDone (s : List ℕ) (k : ℕ) (new : List ℕ) (j l : ℕ) : Type 0 where
  pub form : Formula
  pub read : form_at 32 s k 0 0 ≡ formed j form
  pub short : line_count form ≤ 64
  pub count : l ≡ line_count form
  pub table : take 192 new ≡ table_of form

pub rule_done : (s : List ℕ) (k : ℕ) {new : List ℕ} {j l c : ℕ}
    → Done 0 0 (replicate 600 0) new (form_at 32 s k 0 0) (Form j l c) → RuleDone s k new j l
rule_done s k {new} {j} {l} {c} d =
    let x = form_done 0 0 (replicate 600 0) new (form_at 32 s k 0 0) j l c d in
    let y = form_at-formed s k 32 0 0 j x.form x.read in
    let short : line_count x.form ≤ 64 = omega (arith, y.short) in
    record {
      form = x.form;
      read = x.read;
      short = short;
      count = omega (arith, x.laid_now);
      table = take_laid new x.form short x.table;
    }

-- A form read inside another: which, how many lines it may have, and how far it reaches.
pub record InnerDone (a : ℕ) (s : List ℕ) (k laid closed i : ℕ) (old new : List ℕ) (j l c : ℕ) : Type 0 where
  pub done : FormDone laid closed old new (inner_with (form_at a s k) s closed i) j l c
  pub some : 1 ≤ line_count done.form
  pub short : closed + line_count done.form ≤ 64
  pub near : j ≤ i + 9 * line_count done.form

pub inner_done : (a : ℕ) (s : List ℕ) (k i : ℕ) {laid closed : ℕ} {old new : List ℕ} {j l c : ℕ}
    → Done laid closed old new (inner_with (form_at a s k) s closed i) (Form j l c)
    → InnerDone a s k laid closed i old new j l c
inner_done a s k i {laid} {closed} {old} {new} {j} {l} {c} d =
    let x = form_done laid closed old new (inner_with (form_at a s k) s closed i) j l c d in
    let f = x.form in
    let y = (inner_formed s k a (form_at a s k) (form_at-formed s k a) closed i j f x.read).1 in
    record { done = x; some = line_count_pos f; short = y.short; near = omega (arith, y.span.ends, length-text_of f) }

-- The table of a whole form

pub unary_laid : (old t₁ t₂ t₃ : List ℕ) (laid start end : ℕ) (w : Unary) (f : Formula) → start ≡ laid + length (lines_before w laid)
    → end ≡ start + line_count f → t₁ ≡ lay old laid (lines_before w laid) → t₂ ≡ lay t₁ start (lines_at start f)
    → t₃ ≡ lay t₂ end (lines_after w (laid + 3) (end - 1)) → t₃ ≡ lay old laid (lines_at laid (unary w f))
unfolding lines_at
unary_laid old t₁ t₂ t₃ laid start end w f p q h₁ h₂ h₃ =
    let long : length (lines_before w laid ++ lines_at start f) ≡ length (lines_before w laid) + line_count f =
    simp (length-append, length-lines_at start f)
    in
    rw (h₃, h₂, h₁, lay-lay old laid start (lines_before w laid) (lines_at start f) p)
    (lay-lay old laid end (lines_before w laid ++ lines_at start f) (lines_after w (laid + 3) (end - 1)) (omega arith)
    ∙ rw (q, p))

pub binary_laid : (old t₁ t₂ t₃ t₄ : List ℕ) (laid middle start end : ℕ) (w : Binary) (f g : Formula) → middle ≡ laid + line_count f
    → start ≡ middle - 1 + 1 + length (lines_between w (middle - 1)) → end ≡ start + line_count g
    → t₁ ≡ lay old laid (lines_at laid f) → t₂ ≡ lay t₁ (middle - 1 + 1) (lines_between w (middle - 1)) → t₃ ≡ lay t₂ start (lines_at start g)
    → t₄ ≡ lay t₃ end (lines_after_both w (middle - 1) (end - 1)) → t₄ ≡ lay old laid (lines_at laid (binary w f g))
unfolding lines_at
binary_laid old t₁ t₂ t₃ t₄ laid middle start end w f g p q m h₁ h₂ h₃ h₄ =
    let xs = lines_at laid f in
    let ys = lines_between w (middle - 1) in
    let zs = lines_at start g in
    let long₁ : length xs ≡ line_count f = length-lines_at laid f in
    let long₂ : length (xs ++ ys) ≡ line_count f + length ys = simp (length-append, length-lines_at laid f) in
    let long₃ : length (xs ++ ys ++ zs) ≡ line_count f + length ys + line_count g = simp (length-append, length-lines_at laid f, length-lines_at start g) in
    let e : middle - 1 + 1 ≡ middle = omega (arith, line_count_pos f) in
    let q' : start ≡ laid + line_count f + length ys = omega arith in
    rw (h₄, h₃, h₂, h₁, e, lay-lay old laid middle xs ys (omega arith), lay-lay old laid start (xs ++ ys) zs (omega arith))
    (lay-lay old laid end (xs ++ ys ++ zs) (lines_after_both w (middle - 1) (end - 1)) (omega arith)
    ∙ rw (m, q', p))
