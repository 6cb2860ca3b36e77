-- A whole form as the code reads it: from the bracket, the word and the answers of the forms inside to its own answer
-- and table; and the room for them.
use Prim.Native.Nat.{ℕ, ◌+◌, ◌-◌, ◌≤◌, ◌<◌}
use native.Mathlib.Omega.{arith}
use mathlib.Core.Path.{◌≡◌, subst}
use mathlib.Core.List.{List}
use native.Mathlib.Nat.{pos_of_ne-zero}
use Rattle.pactl.specs.declared.Line.{Line}
use Rattle.rules.specs.declared.Unary.{Unary}
use Rattle.rules.specs.declared.Binary.{Binary}
use Rattle.rules.specs.WordRead.{WordRead, AtWord, ConstantWord, UnaryWord, BinaryWord, NoWord}
use Rattle.rules.specs.reading.WordLaws.{WordSpan, word_at_span}
use Rattle.rules.specs.reading.PlaceLaws.{constant_short, unary_short, binary_short}
use Rattle.rules.specs.ReaderCode.{Read, Refused}
use Rattle.rules.specs.Line.{lines_before, lines_after, lines_between, lines_after_both, line_count}
use Rattle.rules.proofs.LayingSteps.{done_refused, done_close}
use Rattle.rules.specs.Laying.{Laid, close_read, Done, Room}
use Rattle.rules.proofs.FormSteps.{Opened, form_at-word, InnerDone, fault_done, unary_fault, unary_form, unary_laid, binary_fault, binary-second_fault, binary_form, binary_laid}
use Rattle.rules.specs.Formula.{unary, binary}
use Rattle.rules.specs.lines.LineLaws.{length-unary, length-binary}
use Rattle.rules.specs.Reader.{inner_with, unary_with, binary_with, body_with, form_at}

-- Where there is room for a form, there is room for what stands behind its word, and for the lines that the word has
-- before and between forms.
abbrev pub WordRoom : ℕ → ℕ → ℕ → List ℕ → WordRead → Type 0
WordRoom a laid closed table (AtWord j) = (j ≤ 900) × (laid < 200) × (closed ≤ 64)
WordRoom a laid closed table (ConstantWord w j) = (j ≤ 900) × (laid + 5 ≤ 200) × (closed ≤ 64)
WordRoom a laid closed table (UnaryWord w j) = Room (a - 1) (laid + 4) closed (j + 1) table
WordRoom a laid closed table (BinaryWord w j) = Room (a - 1) (laid + 4) closed (j + 1) table
WordRoom a laid closed table (NoWord j) = Unit {0}

pub word_room : {a : ℕ} {s : List ℕ} {laid closed i : ℕ} {table : List ℕ} {word : WordRead} → Opened a s i word
    → Room a laid closed i table → WordRoom a laid closed table word
word_room {a} {s} {laid} {closed} {i} {table} {word} o m =
    go word (subst (WordSpan s (i + 1)) o.meets (word_at_span s (i + 1)))
  where
    left : 1 ≤ a
    left = pos_of_ne-zero o.left

    inside : (j : ℕ) → j ≤ i + 4 → Room (a - 1) (laid + 4) closed (j + 1) table
    inside j h =
        record {
          deep = omega (arith, m.deep);
          short = m.short;
          lines = omega (arith, m.lines, left);
          near = omega (arith, m.near, left);
          size = m.size;
        }

    go : (word : WordRead) → WordSpan s (i + 1) word → WordRoom a laid closed table word
    go (AtWord j) p =
        unfold WordSpan in (
          omega (arith, p.ends, m.near),
          omega (arith, m.lines, m.short, left),
          m.short,
        )
    go (ConstantWord w j) p =
        unfold WordSpan in (
          omega (arith, p.ends, (constant_short w).0, m.near),
          omega (arith, m.lines, m.short, left),
          m.short,
        )
    go (UnaryWord w j) p = unfold WordSpan in (inside j (omega (arith, p.ends, (unary_short w).0)))
    go (BinaryWord w j) p = unfold WordSpan in (inside j (omega (arith, p.ends, (binary_short w).0)))
    go (NoWord j) p = tt

-- A form, from what stands behind its word.
pub word-done : {a : ℕ} {s : List ℕ} {laid closed i : ℕ} {old new : List ℕ} {r : Read} {word : WordRead} (k : ℕ)
    → Opened a s i word → Done laid closed old new (body_with (form_at (a - 1) s k) s k closed word) r
    → Done laid closed old new (form_at a s k closed i) r
word-done {a} {s} {laid} {closed} {i} {old} {new} {r} {word} k o d = rw (form_at-word a s k closed i word o) d

-- Behind the last form inside, which ends at place j and before line `end`: that is behind line `last`, and there is
-- room for the lines that the word has after it.
pub record Ended (laid closed last j end : ℕ) : Type 0 where
  pub later : laid ≤ last
  pub rises : last < end
  pub ends : end + 3 ≤ 200
  pub near : j ≤ 1024
  pub short : closed ≤ 64

pub ended_first : {a : ℕ} {s : List ℕ} {k laid closed i start j end count : ℕ} {ls : List Line} {old t₁ t₂ : List ℕ}
    → Room a (laid + 4) closed (i + 1) old → Laid laid 4 ls old t₁ start
    → InnerDone a s k start closed i t₁ t₂ j end count → Ended laid closed laid j end
ended_first m p x =
    let d = x.done in
    record {
      later = omega arith;
      rises = omega (arith, p.count, d.laid_now, x.some);
      ends = omega (arith, m.lines, p.few, d.laid_now, x.short);
      near = omega (arith, m.near, x.near, x.short);
      short = m.short;
    }

pub ended_second : {a : ℕ} {s : List ℕ} {k laid closed i j half some start l end count : ℕ} {ls : List Line}
    {old t₁ t₂ t₃ : List ℕ}
    → Room a (laid + 4) closed (i + 1) old → InnerDone a s k laid closed i old t₁ j half some
    → Laid (half - 1 + 1) 1 ls t₁ t₂ start → InnerDone a s k start some j t₂ t₃ l end count
    → Ended laid closed half l end
ended_second m x p y =
    let d = x.done in
    let g = y.done in
    record {
      later = omega (arith, d.laid_now);
      rises = omega (arith, d.laid_now, x.some, p.count, g.laid_now, y.some);
      ends = omega (arith, m.lines, d.laid_now, d.closed_now, x.some, p.few, g.laid_now, y.short);
      near = omega (arith, m.near, d.closed_now, x.near, y.near, y.short);
      short = m.short;
    }

-- One form inside

module _ (a : ℕ) (s : List ℕ) (k i : ℕ) (w : Unary) {laid closed start n j : ℕ} {old t new : List ℕ} where
  pub unary_fault_done : Done start closed t new (inner_with (form_at a s k) s closed i) (Refused n j)
      → Done laid closed old new (unary_with (form_at a s k) s w closed i) (Refused n j)
  unary_fault_done d =
      let fault = fault_done start closed t new (inner_with (form_at a s k) s closed i) n j d in
      rw (unary_fault (form_at a s k) s w closed i n j fault) (done_refused laid closed old new n j)

module _ {a : ℕ} {s : List ℕ} {k laid closed i start j end count total : ℕ} {old t₁ t₂ t₃ : List ℕ} {r : Read}
    (w : Unary) where
  pub unary-done : Laid laid 4 (lines_before w laid) old t₁ start → InnerDone a s k start closed i t₁ t₂ j end count
      → Laid (end - 1 + 1) 3 (lines_after w (laid + 3) (end - 1)) t₂ t₃ total
      → r ≡ close_read s j total (closed + (total - laid))
      → Done laid closed old t₃ (unary_with (form_at a s k) s w closed i) r
  unfolding line_count
  unary-done p x q e =
      let d = x.done in
      let f = d.form in
      let weight = length-unary w laid (laid + 3) (end - 1) in
      let back : end - 1 + 1 ≡ end = omega (arith, d.laid_now, x.some) in
      let lines = rw back at q.table in
      rw (unary_form (form_at a s k) s w closed i j f d.read)
      (done_close laid closed old t₃ s j total (unary w f) r e (omega (arith, p.count, d.laid_now, q.count))
      (unary_laid old t₁ t₂ t₃ laid start end w f p.count d.laid_now p.table d.table lines))

-- Two forms inside

module _ (a : ℕ) (s : List ℕ) (k i : ℕ) (w : Binary) {laid closed n j : ℕ} {old new : List ℕ} where
  pub binary_fault_done : Done laid closed old new (inner_with (form_at a s k) s closed i) (Refused n j)
      → Done laid closed old new (binary_with (form_at a s k) s w closed i) (Refused n j)
  binary_fault_done d =
      let fault = fault_done laid closed old new (inner_with (form_at a s k) s closed i) n j d in
      rw (binary_fault (form_at a s k) s w closed i n j fault) (done_refused laid closed old new n j)

module _ {a : ℕ} {s : List ℕ} {k laid closed i j half some start n l : ℕ} {old t₁ t₂ new : List ℕ}
    (w : Binary) where
  pub binary-second_fault_done : InnerDone a s k laid closed i old t₁ j half some
      → Done start some t₂ new (inner_with (form_at a s k) s some j) (Refused n l)
      → Done laid closed old new (binary_with (form_at a s k) s w closed i) (Refused n l)
  binary-second_fault_done x g =
      let d = x.done in
      let fault = fault_done start some t₂ new (inner_with (form_at a s k) s some j) n l g in
      rw (binary-second_fault (form_at a s k) s w closed i j d.form n l some d.read d.closed_now fault)
      (done_refused laid closed old new n l)

module _ {a : ℕ} {s : List ℕ} {k laid closed i j half some start l end count total : ℕ} {old t₁ t₂ t₃ t₄ : List ℕ}
    {r : Read} (w : Binary) where
  pub binary-done : InnerDone a s k laid closed i old t₁ j half some
      → Laid (half - 1 + 1) 1 (lines_between w (half - 1)) t₁ t₂ start
      → InnerDone a s k start some j t₂ t₃ l end count
      → Laid (end - 1 + 1) 3 (lines_after_both w (half - 1) (end - 1)) t₃ t₄ total
      → r ≡ close_read s l total (closed + (total - laid))
      → Done laid closed old t₄ (binary_with (form_at a s k) s w closed i) r
  unfolding line_count
  binary-done x p y q e =
      let d = x.done in
      let g = y.done in
      let weight = length-binary w (half - 1) (half - 1) (end - 1) in
      let back : end - 1 + 1 ≡ end = omega (arith, g.laid_now, y.some) in
      let lines = rw back at q.table in
      rw (binary_form (form_at a s k) s w closed i j l d.form g.form some d.read d.closed_now g.read)
      (done_close laid closed old t₄ s l total (binary w d.form g.form) r e
      (omega (arith, d.laid_now, x.some, p.count, g.laid_now, q.count))
      (binary_laid old t₁ t₂ t₃ t₄ laid half start end w d.form g.form d.laid_now p.count g.laid_now
      d.table p.table g.table lines))
