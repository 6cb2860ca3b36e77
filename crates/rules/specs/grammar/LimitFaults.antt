-- Where the reader answers a form it has passed no fault by 2, 3 or 4; where it refuses by one of these, that is the
-- text's first fault; where it refuses by 1, the bytes before can still go on.
use Prim.Native.Nat.{ℕ, ◌+◌, ◌-◌, ◌≤◌, ◌<◌}
use Rattle.std.proofs.Common.{arith, ltb-true, ltb-false, leb-true, leb-false}
use Rattle.std.specs.Prelude.{◌≡◌, Bool, true, false, cond, ◌&&◌, ◌⊎◌, T, leb, ltb, take, length}
use Rattle.std.proofs.Math.Path.{refl, subst}
use mathlib.Core.List.{List, [], ◌∷◌, ◌++◌}
use Rattle.std.proofs.Math.Logic.{inl, inr}
use Rattle.rules.specs.grammar.OpenForms.{Frame, before, closed_lines, FramesGrammatical, Viable, form_closed, viable_text, viable_part, viable_inside, before-count, viable_at}
use Rattle.rules.specs.grammar.FaultLaws.{Clean, first_over, Over, fault4_digit, clean_next}
use Rattle.rules.specs.Line.{line_count}
use Rattle.rules.specs.reading.WordLaws.{span_byte, span_append, if_byte}
use Rattle.codec.specs.Ascii.{ascii}
use Rattle.rules.specs.Text.{byte_at, text_of, Grammatical}
use Rattle.rules.specs.reading.ReaderLaws.{Digit}
use Rattle.rules.specs.Fault.{occurring, Fault2, lines_closed, Fault3, Fault, FirstFault, Fault4, Span}
use Rattle.rules.specs.Formula.{Formula}
use Rattle.rules.specs.grammar.PlainBytes.{every, small, every_left, text-small}
use Rattle.rules.specs.grammar.FirstBytes.{Begun, begun_span, begun_next}
use Rattle.rules.specs.Reader.{Reading, and_then, expect, expect_digit, close_at, formed, faulty}

-- A text's first bytes can go on, and hold no fault by 2, 3 or 4.
pub record Stopped (s : List ℕ) (k i : ℕ) : Type 0 where
  pub bytes : List ℕ
  pub begun : Begun s bytes i
  pub viable : Viable bytes
  pub clean : Clean s k i

-- What is to be shown of an answer.
unfoldable pub Outcome : List ℕ → ℕ → Reading → Type 0
Outcome s k (formed j f) = Clean s k j
Outcome s k (faulty n i) = FirstFault n s k i ⊎ ((n ≡ 1) × Stopped s k i)

-- A form's place inside open forms, reached without a fault.
pub record Reached (s : List ℕ) (k : ℕ) (cs : List Frame) (i : ℕ) : Type 0 where
  pub begun : Begun s (before cs) i
  pub digits : FramesGrammatical cs
  pub clean : Clean s k i

module _ (s : List ℕ) (k : ℕ) where
  -- The reader stops by 1 behind bytes that begin a form.
  pub stop : (cs : List Frame) (i j : ℕ) (bs : List ℕ) → Reached s k cs i → Span s i bs j → T (every small bs) → Viable bs → Clean s k j
      → Outcome s k (faulty 1 j)
  unfolding Outcome
  stop cs i j bs x span bytes v clean =
      inr (refl, record { bytes = before cs ++ bs; begun = begun_span x.begun span bytes; viable = viable_inside cs x.digits bs v; clean = clean })

  -- The reader stops by 1 behind the first bytes of a form.
  pub stop_in : (cs : List Frame) (i j : ℕ) (xs ys : List ℕ) (f : Formula) → Reached s k cs i → Span s i xs j → xs ++ ys ≡ text_of f → Grammatical f
      → Clean s k j → Outcome s k (faulty 1 j)
  stop_in cs i j xs ys f x span e digits clean =
      stop cs i j xs x span (every_left small xs ys (rw e (text-small f digits))) (viable_part xs ys (rw e (viable_text f digits))) clean

  -- A digit that is not below its bound, behind the first bytes of an atom.
  pub over_in : (cs : List Frame) (i j : ℕ) (xs ys : List ℕ) (f : Formula) (d : ℕ) → Reached s k cs i → Span s i xs (j + 1) → xs ++ ys ≡ text_of f → Grammatical f
      → Clean s k j → byte_at s j ≡ 48 + d → Fault4 s k j → Outcome s k (faulty 4 j)
  unfolding Outcome Fault Fault2 Fault3
  over_in cs i j xs ys f d x span e digits clean b fault =
      inl (first_over 4 k (begun_span x.begun span (every_left small xs ys (rw e (text-small f digits))))
      (viable_inside cs x.digits xs (viable_part xs ys (rw e (viable_text f digits)))) clean
      (inr (inr (inr (refl, fault)))) (omega arith) (λ _ z. omega (arith, z.0)) (λ _ z. omega (arith, z.0)))

  -- A byte that the grammar has at a place.
  pub expect_out : (i b : ℕ) (r : Reading) → Outcome s k (faulty 1 i) → (byte_at s i ≡ b → Outcome s k r)
      → Outcome s k (expect s i b r)
  unfolding expect
  expect_out i b r p q = if_byte (Outcome s k) (byte_at s i) b r (faulty 1 i) q (λ _. p)

  -- A digit at a place: none, one that is not below the bound, or one that is.
  pub digit_out : (i bound : ℕ) (r : Reading) → Outcome s k (faulty 1 i)
      → ((d : ℕ) → byte_at s i ≡ 48 + d → d ≤ 9 → bound ≤ d → Outcome s k (faulty 4 i))
      → (Digit s i bound (byte_at s i - 48) → Outcome s k r) → Outcome s k (expect_digit s i bound r)
  unfolding expect_digit
  digit_out i bound r p over q = go (leb 48 c) (leb c 57) (ltb (c - 48) bound) refl refl refl
    where
      c : ℕ
      c = byte_at s i

      go : (x y z : Bool) → leb 48 c ≡ x → leb c 57 ≡ y → ltb (c - 48) bound ≡ z
          → Outcome s k (cond (x && y) (cond z r (faulty 4 i)) (faulty 1 i))
      go true true true e₁ e₂ e₃ =
          q (record { byte = omega (arith, leb-true 48 c e₁); ten = omega (arith, leb-true c 57 e₂); less = ltb-true _ _ e₃ })
      go true true false e₁ e₂ e₃ =
          over (c - 48) (omega (arith, leb-true 48 c e₁)) (omega (arith, leb-true c 57 e₂)) (ltb-false (c - 48) bound e₃)
      go true false z e₁ e₂ e₃ = p
      go false y z e₁ e₂ e₃ = p

  pub and_then_out : (r : Reading) (next : ℕ → Formula → Reading) → Outcome s k r
      → ((j : ℕ) (f : Formula) → r ≡ formed j f → Clean s k j → Outcome s k (next j f)) → Outcome s k (and_then r next)
  unfolding and_then Outcome
  and_then_out (formed j f) next p q = q j f refl p
  and_then_out (faulty n i) next p q = p

  -- Behind a closing bracket that stands there.
  closed_out : (cs : List Frame) (closed l : ℕ) (f : Formula) → FramesGrammatical cs → Grammatical f → closed ≡ closed_lines cs → byte_at s l ≡ 41
      → Begun s (before cs ++ text_of f) (l + 1) → Clean s k l
      → Outcome s k (cond (leb (closed + line_count f) 64) (formed (l + 1) f) (faulty 3 l))
  unfolding Outcome Fault Fault2 Fault3
  closed_out cs closed l f frames digits lines b begun clean = go (leb (closed + line_count f) 64) refl
    where
      total : lines_closed [] (take (l + 1) s) ≡ closed + line_count f
      total = rw (begun.taken, lines) (form_closed cs f)

      none_here : closed + line_count f ≤ 64 → Over s k l → ⊥
      none_here h (inl y) = omega (arith, y.0)
      none_here h (inr (inl y)) = omega (arith, y.1, total)
      none_here h (inr (inr y)) = omega (arith, fault4_digit s k l y)

      go : (t : Bool) → leb (closed + line_count f) 64 ≡ t → Outcome s k (cond t (formed (l + 1) f) (faulty 3 l))
      go true q = clean_next s k l clean (none_here (leb-true (closed + line_count f) 64 q))
      go false q =
          inl (first_over 3 k begun (viable_inside cs frames (text_of f) (viable_text f digits)) clean
          (inr (inr (inl (refl, (b, omega (arith, leb-false (closed + line_count f) 64 q, total))))))
          (omega arith) (λ _ z. omega (arith, z.0)) (λ z _. omega arith))

  -- The closing bracket of a form whose bytes before it stand there.
  pub close_out : (cs : List Frame) (closed i l : ℕ) (bs : List ℕ) (f : Formula) → Reached s k cs i → closed ≡ closed_lines cs → Span s i bs l
      → bs ++ 41 ∷ [] ≡ text_of f → Grammatical f → Clean s k l → Outcome s k (close_at s closed l f)
  unfolding close_at
  close_out cs closed i l bs f x lines span e digits clean =
      expect_out l 41 _
      (stop_in cs i l bs (41 ∷ []) f x span e digits clean)
      (λ b.
      let whole : Span s i (text_of f) (l + 1) = subst (λ (z : List ℕ). Span s i z (l + 1)) e (span_append span (span_byte s l 41 b)) in
      closed_out cs closed l f x.digits digits lines b (begun_span x.begun whole (text-small f digits)) clean)

  -- The opening bracket, with no more allowed.
  pub too_deep : (cs : List Frame) (i : ℕ) → Reached s k cs i → 32 ≤ length cs → byte_at s i ≡ 40
      → Outcome s k (faulty 2 i)
  unfolding Outcome Fault Fault2
  too_deep cs i x h b =
      inl (first_over 2 k (begun_next x.begun b (omega arith)) (viable_inside cs x.digits (40 ∷ []) (viable_part (40 ∷ []) (ascii "at") viable_at)) x.clean
      (inr (inl (refl, (b, rw x.begun.taken (omega (arith, before-count cs))))))
      (omega arith) (λ z _. omega arith) (λ z _. omega arith))

  -- The opening bracket, with more allowed.
  pub opened_clean : (cs : List Frame) (i : ℕ) → Reached s k cs i → length cs < 32 → byte_at s i ≡ 40 → Clean s k (i + 1)
  unfolding Fault2 Fault3
  opened_clean cs i x h b = clean_next s k i x.clean none_here
    where
      none_here : Over s k i → ⊥
      none_here (inl y) =
          let deep : 32 + occurring 41 (before cs) ≤ occurring 40 (before cs) = rw x.begun.taken at y.1 in
          omega (arith, before-count cs)
      none_here (inr (inl y)) = omega (arith, y.0)
      none_here (inr (inr y)) = omega (arith, fault4_digit s k i y)
