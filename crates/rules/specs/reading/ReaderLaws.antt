-- What the reader reads is a form's own text: a form read from one place to another stands there, byte by byte, and is
-- within the limits.
use Prim.Native.Nat.{ℕ, zero, suc, ◌+◌, ◌-◌, ◌<◌, ◌≤◌}
use Rattle.std.proofs.Common.{arith, sym, ap, subst, leb-true, ltb-true}
use Rattle.std.specs.Prelude.{◌≡◌, refl, Bool, true, false, cond, ◌&&◌, List, leb, ltb}
use Rattle.rules.specs.declared.Constant.{Constant}
use Rattle.rules.specs.declared.Unary.{Unary}
use Rattle.rules.specs.declared.Binary.{Binary}
use Rattle.rules.specs.WordRead.{WordRead, AtWord, ConstantWord, UnaryWord, BinaryWord, NoWord}
use Rattle.rules.specs.ReaderCode.{Form, Refused, read_of}
use Rattle.rules.specs.Formula.{Formula, atom, constant, unary, binary, Atoms, AtomsBelow}
use Rattle.rules.specs.Line.{line_count}
use Rattle.codec.specs.Ascii.{ascii}
use Rattle.rules.specs.Text.{byte_at, constant_letters, unary_letters, binary_letters, text_of, Grammatical, depth}
use Rattle.rules.specs.Reader.{word_at, Reading, formed, faulty, and_then, expect, expect_digit, close_at, atom_at, inner_with, unary_with, binary_with, body_with, form_at}
use Rattle.rules.specs.reading.WordLaws.{span_next, span_byte, span_append, WordSpan, word_at_span, if_byte}
use Rattle.rules.specs.Fault.{Span}

-- A reading that came to a form, step by step

refused-formed : {n i j : ℕ} {f : Formula} → faulty n i ≡ formed j f → ⊥
refused-formed e = let z : ◌≡◌ {A = ℕ} 0 1 = cc in omega arith

pub expect-formed : (s : List ℕ) (i b : ℕ) (r : Reading) {j : ℕ} {f : Formula} → expect s i b r ≡ formed j f → (byte_at s i ≡ b) × (r ≡ formed j f)
unfolding expect
expect-formed s i b r {j} {f} =
    if_byte (λ x. x ≡ formed j f → (byte_at s i ≡ b) × (r ≡ formed j f)) (byte_at s i) b r (faulty 1 i)
    (λ e h. (e, h))
    (λ _ h. absurd (refused-formed h))

-- A digit that was expected and met.
pub record Digit (s : List ℕ) (i bound d : ℕ) : Type 0 where
  pub byte : byte_at s i ≡ 48 + d
  pub ten : d ≤ 9
  pub less : d < bound

pub expect_digit-formed : (s : List ℕ) (i bound : ℕ) (r : Reading) {j : ℕ} {f : Formula}
    → expect_digit s i bound r ≡ formed j f → Digit s i bound (byte_at s i - 48) × (r ≡ formed j f)
unfolding expect_digit
expect_digit-formed s i bound r {j} {f} = go (leb 48 c) (leb c 57) (ltb (c - 48) bound) refl refl refl
  where
    c : ℕ
    c = byte_at s i

    go : (x y z : Bool) → leb 48 c ≡ x → leb c 57 ≡ y → ltb (c - 48) bound ≡ z
        → cond (x && y) (cond z r (faulty 4 i)) (faulty 1 i) ≡ formed j f → Digit s i bound (c - 48) × (r ≡ formed j f)
    go true true true p q l h = (record { byte = omega (arith, leb-true 48 c p); ten = omega (arith, leb-true c 57 q); less = ltb-true _ _ l }, h)
    go true true false p q l h = absurd (refused-formed h)
    go true false z p q l h = absurd (refused-formed h)
    go false y z p q l h = absurd (refused-formed h)

-- A form that was closed.
pub record Closed (s : List ℕ) (closed i : ℕ) (f : Formula) (j : ℕ) (g : Formula) : Type 0 where
  pub bracket : byte_at s i ≡ 41
  pub short : closed + line_count f ≤ 64
  pub next : j ≡ i + 1
  pub same : f ≡ g

pub close_at-formed : (s : List ℕ) (closed i : ℕ) (f : Formula) {j : ℕ} {g : Formula} → close_at s closed i f ≡ formed j g → Closed s closed i f j g
unfolding close_at
close_at-formed s closed i f {j} {g} h =
    let e = expect-formed s i 41 (cond (leb (closed + line_count f) 64) (formed (i + 1) f) (faulty 3 i)) h in
    go (leb (closed + line_count f) 64) refl e.0 e.1
  where
    go : (t : Bool) → leb (closed + line_count f) 64 ≡ t → byte_at s i ≡ 41
        → cond t (formed (i + 1) f) (faulty 3 i) ≡ formed j g → Closed s closed i f j g
    go true l b e = record { bracket = b; short = leb-true _ _ l; next = cc; same = cc }
    go false l b e = absurd (refused-formed e)

pub and_then-formed : (r : Reading) (next : ℕ → Formula → Reading) {j : ℕ} {f : Formula}
    → and_then r next ≡ formed j f → (l : ℕ) × (g : Formula) × (r ≡ formed l g) × (next l g ≡ formed j f)
unfolding and_then
and_then-formed (formed l g) next h = (l, g, refl, h)
and_then-formed (faulty n i) next h = absurd (refused-formed h)

-- A form that was read

-- A form was read from place i to before place j, with brackets nested at most a deep, after forms with `closed` lines.
pub record FormRead (a : ℕ) (s : List ℕ) (k closed i j : ℕ) (f : Formula) : Type 0 where
  pub span : Span s i (text_of f) j
  pub digits : Grammatical f
  pub shallow : depth f ≤ a
  pub short : closed + line_count f ≤ 64
  pub below : AtomsBelow k f

module _ (s : List ℕ) (k : ℕ) where
  read_close : (a closed i l j : ℕ) (f g : Formula) → Closed s closed l f j g → (Span s i (text_of f) (l + 1)) → Grammatical f → depth f ≤ a
      → AtomsBelow k f → FormRead a s k closed i j g
  read_close a closed i l j f g c p d h b =
      subst (λ (x : Formula). FormRead a s k closed i j x) c.same
      (record { span = subst (λ (n : ℕ). Span s i (text_of f) n) (sym c.next) p; digits = d; shallow = h; short = c.short; below = b })

  atom-formed : (a closed i j l : ℕ) (f : Formula) → byte_at s i ≡ 40 → Span s (i + 1) (ascii "at") l
      → atom_at s k closed l ≡ formed j f → FormRead (suc a) s k closed i j f
  unfolding atom_at
  atom-formed a closed i j l f e w h =
      let x₁ = expect-formed s l 32 _ h in
      let x₂ = expect_digit-formed s (l + 1) k _ x₁.1 in
      let x₃ = expect-formed s (l + 2) 32 _ x₂.1 in
      let x₄ = expect_digit-formed s (l + 3) 8 _ x₃.1 in
      let c = close_at-formed s closed (l + 4) _ x₄.1 in
      let p = byte_at s (l + 1) - 48 in
      let b = byte_at s (l + 3) - 48 in
      read_close (suc a) closed i (l + 4) j (atom p b) f c
      (unfold text_of in
      (span_append (span_byte s i 40 e)
      (span_append w
      (span_append (span_byte s l 32 x₁.0)
      (span_append (span_next s (l + 1) (48 + p) (l + 2) x₂.0.byte (omega arith))
      (span_append (span_next s (l + 2) 32 (l + 3) x₃.0 (omega arith))
      (span_append (span_next s (l + 3) (48 + b) (l + 4) x₄.0.byte (omega arith))
      (span_byte s (l + 4) 41 c.bracket))))))))
      (unfold Atoms in (x₂.0.ten, x₄.0.ten))
      (unfold depth in (omega arith))
      (unfold Atoms in (x₂.0.less, omega (arith, x₄.0.less)))

  constant-formed : (a closed i j l : ℕ) (f : Formula) (w : Constant) → byte_at s i ≡ 40 → Span s (i + 1) (constant_letters w) l
      → close_at s closed l (constant w) ≡ formed j f → FormRead (suc a) s k closed i j f
  constant-formed a closed i j l f w e q h =
      let c = close_at-formed s closed l (constant w) h in
      read_close (suc a) closed i l j (constant w) f c
      (unfold text_of in (span_append (span_byte s i 40 e) (span_append q (span_byte s l 41 c.bracket))))
      (unfold Atoms in tt)
      (unfold depth in (omega arith))
      (unfold Atoms in tt)

  -- A reader of forms nested at most a deep reads only what stands there.
  abbrev pub Sound : ℕ → (ℕ → ℕ → Reading) → Type 0
  Sound a reader = (closed i j : ℕ) (f : Formula) → reader closed i ≡ formed j f → FormRead a s k closed i j f

  pub inner_formed : (a : ℕ) (reader : ℕ → ℕ → Reading) → Sound a reader → (closed i j : ℕ) (f : Formula)
      → inner_with reader s closed i ≡ formed j f → (byte_at s i ≡ 32) × FormRead a s k closed (i + 1) j f
  unfolding inner_with
  inner_formed a reader sound closed i j f h =
      let x = expect-formed s i 32 (reader closed (i + 1)) h in
      (x.0, sound closed (i + 1) j f x.1)

  unary-formed : (a : ℕ) (reader : ℕ → ℕ → Reading) → Sound a reader → (closed i j l : ℕ) (f : Formula) (w : Unary)
      → byte_at s i ≡ 40 → Span s (i + 1) (unary_letters w) l → unary_with reader s w closed l ≡ formed j f → FormRead (suc a) s k closed i j f
  unfolding unary_with
  unary-formed a reader sound closed i j l f w e q h =
      let x = and_then-formed (inner_with reader s closed l) _ h in
      let m = x.0 in
      let g = x.1 in
      let y = inner_formed a reader sound closed l m g x.2 in
      let c = close_at-formed s closed m (unary w g) x.3 in
      read_close (suc a) closed i m j (unary w g) f c
      (unfold text_of in
      (span_append (span_byte s i 40 e)
      (span_append q
      (span_append (span_byte s l 32 y.0)
      (span_append y.1.span (span_byte s m 41 c.bracket))))))
      (unfold Atoms in y.1.digits)
      (unfold depth in (omega (arith, y.1.shallow)))
      (unfold Atoms in y.1.below)

  binary-formed : (a : ℕ) (reader : ℕ → ℕ → Reading) → Sound a reader → (closed i j l : ℕ) (f : Formula) (w : Binary)
      → byte_at s i ≡ 40 → Span s (i + 1) (binary_letters w) l → binary_with reader s w closed l ≡ formed j f → FormRead (suc a) s k closed i j f
  unfolding binary_with
  binary-formed a reader sound closed i j l f w e q h =
      let x = and_then-formed (inner_with reader s closed l) _ h in
      let m = x.0 in
      let g₁ = x.1 in
      let y = inner_formed a reader sound closed l m g₁ x.2 in
      let z = and_then-formed (inner_with reader s (closed + line_count g₁) m) _ x.3 in
      let n = z.0 in
      let g₂ = z.1 in
      let v = inner_formed a reader sound (closed + line_count g₁) m n g₂ z.2 in
      let c = close_at-formed s closed n (binary w g₁ g₂) z.3 in
      read_close (suc a) closed i n j (binary w g₁ g₂) f c
      (unfold text_of in
      (span_append (span_byte s i 40 e)
      (span_append q
      (span_append (span_byte s l 32 y.0)
      (span_append y.1.span
      (span_append (span_byte s m 32 v.0)
      (span_append v.1.span (span_byte s n 41 c.bracket))))))))
      (unfold Atoms in (y.1.digits, v.1.digits))
      (unfold depth in (omega (arith, y.1.shallow, v.1.shallow)))
      (unfold Atoms in (y.1.below, v.1.below))

  body_formed : (a : ℕ) (reader : ℕ → ℕ → Reading) → Sound a reader → (closed i j : ℕ) (f : Formula) (word : WordRead)
      → byte_at s i ≡ 40 → WordSpan s (i + 1) word → body_with reader s k closed word ≡ formed j f → FormRead (suc a) s k closed i j f
  unfolding body_with WordSpan
  body_formed a reader sound closed i j f (AtWord l) e q h = atom-formed a closed i j l f e q h
  body_formed a reader sound closed i j f (ConstantWord w l) e q h = constant-formed a closed i j l f w e q h
  body_formed a reader sound closed i j f (UnaryWord w l) e q h = unary-formed a reader sound closed i j l f w e q h
  body_formed a reader sound closed i j f (BinaryWord w l) e q h = binary-formed a reader sound closed i j l f w e q h
  body_formed a reader sound closed i j f (NoWord l) e q h = absurd (refused-formed h)

  -- A form that the reader answers stands in the text at its place, and is within the limits.
  pub form_at-formed : (a : ℕ) → Sound a (form_at a s k)
  unfolding form_at
  form_at-formed zero closed i j f h = absurd (refused-formed (expect-formed s i 40 (faulty 2 i) h).1)
  form_at-formed (suc a) closed i j f h =
      let x = expect-formed s i 40 (body_with (form_at a s k) s k closed (word_at s (i + 1))) h in
      body_formed a (form_at a s k) (form_at-formed a) closed i j f (word_at s (i + 1)) x.0 (word_at_span s (i + 1)) x.1

-- The code's answer, back to the reading that it stands for

pub read_of_form : (laid closed : ℕ) (r : Reading) (i l c : ℕ) → read_of laid closed r ≡ Form i l c
    → (f : Formula) × (r ≡ formed i f) × (l ≡ laid + line_count f) × (c ≡ closed + line_count f)
unfolding read_of
read_of_form laid closed (formed j f) i l c h = (f, ap (λ (x : ℕ). formed x f) (cc), cc, cc)
read_of_form laid closed (faulty n j) i l c h = let z : ◌≡◌ {A = ℕ} 0 1 = cc in absurd (omega arith)

pub read_of-refused : (laid closed : ℕ) (r : Reading) (n i : ℕ) → read_of laid closed r ≡ Refused n i → r ≡ faulty n i
unfolding read_of
read_of-refused laid closed (formed j f) n i h = let z : ◌≡◌ {A = ℕ} 0 1 = cc in absurd (omega arith)
read_of-refused laid closed (faulty m j) n i h = cc
