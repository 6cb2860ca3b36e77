-- The reader of one form: it passes no fault, and refuses by the first.
use Prim.Native.Nat.{ℕ, ◌+◌, ◌-◌, zero, suc}
use Rattle.std.proofs.Common.{arith, inl, inr}
use Rattle.std.specs.Prelude.{◌≡◌, T, length}
use Rattle.std.proofs.Math.Path.{refl, subst}
use mathlib.Core.List.{List, [], ◌∷◌, ◌++◌, append_assoc}
use Rattle.rules.specs.grammar.OpenForms.{Frame, closed_lines, opening, before, frame_lines, FrameGrammatical, FramesGrammatical, Viable, viable_unary, viable_binary, in_one, in_first, in_second, viable_first}
use Rattle.rules.specs.grammar.FaultLaws.{Clean, clean_next, clean_span, first_digit_below, second_digit_below}
use Rattle.rules.specs.reading.WordLaws.{span_next, span_byte, span_append, span_nil, WordSpan, word_at_span}
use Rattle.rules.specs.grammar.LimitFaults.{Outcome, Reached, stop, expect_out, digit_out, close_out, and_then_out, too_deep, opened_clean, stop_in, over_in}
use Rattle.codec.specs.Ascii.{ascii}
use Rattle.rules.specs.Text.{byte_at, text_of, constant_letters, unary_letters, binary_letters}
use Rattle.rules.specs.Fault.{StandsAt, Fault4, Span}
use Rattle.rules.specs.Formula.{Atoms, atom, constant, unary, binary}
use Rattle.rules.specs.grammar.PlainBytes.{every, small, text-small, every_append, plain-small, at_plain, constant-plain, unary-plain, binary-plain}
use Rattle.rules.specs.grammar.FirstBytes.{begun_span, Begun}
use Rattle.rules.specs.Reader.{atom_at, faulty, word_at, Reading, inner_with, unary_with, binary_with, body_with, form_at}
use Rattle.rules.specs.declared.Constant.TheVariants.{True}
use Rattle.rules.specs.declared.Unary.{Unary}
use Rattle.rules.specs.declared.Binary.{Binary}
use Rattle.rules.specs.WordRead.{WordRead, AtWord, ConstantWord, UnaryWord, BinaryWord, NoWord}
use Rattle.rules.specs.Line.{line_count}
use Rattle.rules.specs.reading.ReaderLaws.{Sound, inner_formed, form_at-formed}
use Rattle.rules.specs.grammar.PartialWords.{WordBegun, IfNoWord, word_at-begun}

module _ (s : List ℕ) (k : ℕ) where
  atom_out : (cs : List Frame) (closed i l : ℕ) → Reached s k cs i → closed ≡ closed_lines cs → byte_at s i ≡ 40 → Span s (i + 1) (ascii "at") l
      → Clean s k l → Outcome s k (atom_at s k closed l)
  unfolding atom_at text_of Atoms StandsAt Fault4 every
  atom_out cs closed i l x lines b q clean₀ =
      let t : byte_at s (i + 1 + 1) ≡ 116 = q.stands.1.0 in
      let span₀ = span_append (span_byte s i 40 b) q in
      expect_out s k l 32 _ (stop_in s k cs i l (ascii "(at") (ascii " 0 0)") (atom 0 0) x span₀ refl (omega arith) clean₀)
      (λ e₁.
      let span₁ = span_append span₀ (span_byte s l 32 e₁) in
      let clean₁ : Clean s k (l + 1) = clean_span k clean₀ (span_byte s l 32 e₁) tt in
      digit_out s k (l + 1) k _ (stop_in s k cs i (l + 1) (ascii "(at ") (ascii "0 0)") (atom 0 0) x span₁ refl (omega arith) clean₁)
      (λ d e ten over.
      let span = span_append span₁ (span_byte s (l + 1) (48 + d) e) in
      over_in s k cs i (l + 1) (ascii "(at " ++ (48 + d) ∷ []) (ascii " 0)") (atom d 0) d x span refl (omega arith) clean₁ e
      (inl (i, d, span.stands, ten, over, omega (arith, q.ends))))
      (λ p.
      let d = byte_at s (l + 1) - 48 in
      let span₂ = span_append span₁ (span_next s (l + 1) (48 + d) (l + 2) p.byte (omega arith)) in
      let clean₂ : Clean s k (l + 2) =
      subst (Clean s k) (omega arith)
      (clean_next s k (l + 1) clean₁ (first_digit_below s k (i + 1 + 1) (l + 1) d t (omega (arith, q.ends)) p)) in
      expect_out s k (l + 2) 32 _ (stop_in s k cs i (l + 2) (ascii "(at " ++ (48 + d) ∷ []) (ascii " 0)") (atom d 0) x span₂ refl (omega (arith, p.ten)) clean₂)
      (λ e₃.
      let step₃ = span_next s (l + 2) 32 (l + 3) e₃ (omega arith) in
      let span₃ = span_append span₂ step₃ in
      let clean₃ : Clean s k (l + 3) = clean_span k clean₂ step₃ tt in
      digit_out s k (l + 3) 8 _ (stop_in s k cs i (l + 3) (ascii "(at " ++ (48 + d) ∷ 32 ∷ []) (ascii "0)") (atom d 0) x span₃ refl (omega (arith, p.ten)) clean₃)
      (λ c e ten over.
      let span = span_append span₃ (span_byte s (l + 3) (48 + c) e) in
      over_in s k cs i (l + 3) (ascii "(at " ++ (48 + d) ∷ 32 ∷ (48 + c) ∷ []) (41 ∷ []) (atom d c) c x span refl (omega (arith, p.ten)) clean₃ e
      (inr (i, d, c, span.stands, p.ten, ten, over, omega (arith, q.ends))))
      (λ p₂.
      let c = byte_at s (l + 3) - 48 in
      let span₄ = span_append span₃ (span_next s (l + 3) (48 + c) (l + 4) p₂.byte (omega arith)) in
      let clean₄ : Clean s k (l + 4) =
      subst (Clean s k) (omega arith)
      (clean_next s k (l + 3) clean₃ (second_digit_below s k (i + 1 + 1) (l + 3) c t (omega (arith, q.ends)) p₂)) in
      close_out s k cs closed i (l + 4) (ascii "(at " ++ (48 + d) ∷ 32 ∷ (48 + c) ∷ []) (atom d c) x lines span₄ refl (omega (arith, p.ten, p₂.ten)) clean₄))))

  -- A reader of forms nested at most a deep, inside open forms, passes no fault and refuses by the first.
  abbrev Stops : ℕ → (ℕ → ℕ → Reading) → Type 0
  Stops a reader = (cs : List Frame) (closed i : ℕ) → a + length cs ≡ 32 → closed ≡ closed_lines cs → Reached s k cs i → Outcome s k (reader closed i)

  -- A space and a form, behind the text of a form that is open from here on.
  inner_out : (a : ℕ) (reader : ℕ → ℕ → Reading) → Stops a reader → (c : Frame) (cs : List Frame) (closed i l : ℕ) (bs : List ℕ)
      → a + suc (length cs) ≡ 32 → closed ≡ closed_lines (c ∷ cs) → FrameGrammatical c → Reached s k cs i → Span s i bs l → Clean s k l
      → T (every small bs) → Viable bs → bs ++ 32 ∷ [] ≡ opening c → Outcome s k (inner_with reader s closed l)
  unfolding inner_with before FramesGrammatical every
  inner_out a reader stops c cs closed i l bs room lines frame x span clean bytes v e =
      expect_out s k l 32 _ (stop s k cs i l bs x span bytes v clean)
      (λ b. stops (c ∷ cs) closed (l + 1) room lines
      (record {
        begun = subst (λ (z : List ℕ). Begun s (before cs ++ z) (l + 1)) e (begun_span x.begun (span_append span (span_byte s l 32 b)) (every_append small bs (32 ∷ []) bytes tt));
        digits = (frame, x.digits);
        clean = clean_span k clean (span_byte s l 32 b) tt;
      }))

  module _ (a : ℕ) (reader : ℕ → ℕ → Reading) (sound : Sound s k a reader) (stops : Stops a reader) where
    unary_out : (cs : List Frame) (closed i l : ℕ) (w : Unary) → suc a + length cs ≡ 32 → closed ≡ closed_lines cs → Reached s k cs i
        → Span s i (40 ∷ unary_letters w) l → Clean s k l → Outcome s k (unary_with reader s w closed l)
    unfolding unary_with opening closed_lines frame_lines FrameGrammatical text_of Atoms every
    unary_out cs closed i l w room lines x span clean =
        let c = unary_letters w in
        and_then_out s k (inner_with reader s closed l) _
        (inner_out a reader stops (in_one w) cs closed i l (40 ∷ c) (omega arith) (omega arith) tt x span clean
        (plain-small c (unary-plain w)) (viable_unary w) refl)
        (λ j f e clean'.
        let y = inner_formed s k a reader sound closed l j f e in
        close_out s k cs closed i j (40 ∷ (c ++ 32 ∷ text_of f)) (unary w f) x lines
        (span_append span (span_append (span_byte s l 32 y.0) y.1.span))
        (simp append_assoc) y.1.digits clean')

    binary_out : (cs : List Frame) (closed i l : ℕ) (w : Binary) → suc a + length cs ≡ 32 → closed ≡ closed_lines cs → Reached s k cs i
        → Span s i (40 ∷ binary_letters w) l → Clean s k l → Outcome s k (binary_with reader s w closed l)
    unfolding binary_with opening closed_lines frame_lines FrameGrammatical text_of Atoms every
    binary_out cs closed i l w room lines x span clean =
        let c = binary_letters w in
        and_then_out s k (inner_with reader s closed l) _
        (inner_out a reader stops (in_first w) cs closed i l (40 ∷ c) (omega arith) (omega arith) tt x span clean
        (plain-small c (binary-plain w)) (viable_binary w) refl)
        (λ j f e clean'.
        let y = inner_formed s k a reader sound closed l j f e in
        let span₁ : Span s i (40 ∷ (c ++ 32 ∷ text_of f)) j = span_append span (span_append (span_byte s l 32 y.0) y.1.span) in
        and_then_out s k (inner_with reader s (closed + line_count f) j) _
        (inner_out a reader stops (in_second w f) cs (closed + line_count f) i j (40 ∷ (c ++ 32 ∷ text_of f)) (omega arith) (omega arith) y.1.digits x span₁ clean'
        (every_append small c (32 ∷ text_of f) (plain-small c (binary-plain w)) (text-small f y.1.digits))
        (viable_first w f y.1.digits)
        (simp append_assoc))
        (λ m g e' clean''.
        let z = inner_formed s k a reader sound (closed + line_count f) j m g e' in
        close_out s k cs closed i m (40 ∷ (c ++ 32 ∷ (text_of f ++ 32 ∷ text_of g))) (binary w f g) x lines
        (span_append span (span_append (span_byte s l 32 y.0) (span_append y.1.span (span_append (span_byte s j 32 z.0) z.1.span))))
        (simp append_assoc) (y.1.digits, z.1.digits) clean''))

    body_out : (cs : List Frame) (closed i : ℕ) (word : WordRead) → suc a + length cs ≡ 32 → closed ≡ closed_lines cs → Reached s k cs i
        → byte_at s i ≡ 40 → Clean s k (i + 1) → WordSpan s (i + 1) word → IfNoWord (WordBegun s (i + 1)) word → Outcome s k (body_with reader s k closed word)
    unfolding body_with WordSpan IfNoWord text_of Atoms every
    body_out cs closed i (AtWord l) room lines x b clean q h = atom_out cs closed i l x lines b q (clean_span k clean q at_plain)
    body_out cs closed i (ConstantWord w l) room lines x b clean q h =
        close_out s k cs closed i l (40 ∷ constant_letters w) (constant w) x lines (span_append (span_byte s i 40 b) q) refl tt (clean_span k clean q (constant-plain w))
    body_out cs closed i (UnaryWord w l) room lines x b clean q h =
        unary_out cs closed i l w room lines x (span_append (span_byte s i 40 b) q) (clean_span k clean q (unary-plain w))
    body_out cs closed i (BinaryWord w l) room lines x b clean q h =
        binary_out cs closed i l w room lines x (span_append (span_byte s i 40 b) q) (clean_span k clean q (binary-plain w))
    body_out cs closed i (NoWord l) room lines x b clean q h =
        stop s k cs i l (40 ∷ h.letters) x (span_append (span_byte s i 40 b) h.span) (plain-small h.letters h.plains) h.viable
        (clean_span k clean h.span h.plains)

  -- A byte that is no opening bracket, at a form's place.
  no_bracket : (cs : List Frame) (i : ℕ) → Reached s k cs i → Outcome s k (faulty 1 i)
  unfolding Atoms
  no_bracket cs i x = stop_in s k cs i i [] (text_of (constant True)) (constant True) x (span_nil s i) refl tt x.clean

  pub form_at_stops : (a : ℕ) → Stops a (form_at a s k)
  unfolding form_at
  form_at_stops zero cs closed i room lines x =
      expect_out s k i 40 _ (no_bracket cs i x)
      (λ b. too_deep s k cs i x (omega arith) b)
  form_at_stops (suc a) cs closed i room lines x =
      expect_out s k i 40 _ (no_bracket cs i x)
      (λ b.
      body_out a (form_at a s k) (form_at-formed s k a) (form_at_stops a) cs closed i (word_at s (i + 1)) room lines x b
      (opened_clean s k cs i x (omega arith) b) (word_at_span s (i + 1)) (word_at-begun s (i + 1)))
