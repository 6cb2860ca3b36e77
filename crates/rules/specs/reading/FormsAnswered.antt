-- Where a form's text stands up to some place, the reader answers that form or a limit that it passes, or answers at or
-- behind that place.
use Prim.Native.Nat.{ℕ, suc, ◌+◌, ◌≤◌, ◌<◌, ◌-◌, zero}
use Rattle.std.proofs.Common.{arith, sym, ap, ltb-false, leb-false}
use Rattle.std.specs.Prelude.{◌≡◌, Bool, cond, ◌&&◌, ◌⊎◌, ltb}
use Rattle.std.proofs.Math.Path.{refl, subst, ap₂, subst₂}
use Rattle.std.proofs.Math.Bool.{true, false}
use mathlib.Core.List.{List, [], ◌∷◌, ◌++◌}
use Rattle.std.proofs.Math.Logic.{inl, inr}
use Rattle.std.proofs.Math.Dec.{leb}
use Rattle.std.proofs.Math.ListN.{length, length-append}
use Rattle.rules.specs.WordRead.{WordRead, AtWord, ConstantWord, UnaryWord, BinaryWord}
use Rattle.rules.specs.reading.ForwardLaws.{place, body_from, form_at_from, close_at_from, second_from}
use Rattle.rules.specs.reading.WordsAnswered.{StandsTo, known, WordMet, at_met, stands_to_left, stands_to_right, constant_met, unary_met, binary_met}
use Rattle.rules.specs.Line.{line_count}
use Rattle.rules.specs.reading.WordLaws.{if_byte}
use Rattle.rules.specs.Text.{byte_at, text_of, depth, constant_letters, unary_letters, binary_letters, Grammatical}
use Rattle.rules.specs.Formula.{Formula, AtomsBelow, atom, Atoms, constant, unary, binary}
use Rattle.rules.specs.Reader.{word_at, Reading, and_then, expect, expect_digit, close_at, atom_at, body_with, form_at, formed, faulty, inner_with, unary_with, binary_with}
use Rattle.rules.specs.declared.Constant.{Constant}
use Rattle.rules.specs.declared.Unary.{Unary}
use Rattle.rules.specs.declared.Binary.{Binary}

-- What the reader answers to form g at place i: the form, or a fault other than 1, which comes only beyond the limits.
unfoldable pub Exact : (a k closed i : ℕ) → Formula → Reading → Type 0
Exact a k closed i g (formed j f) = (j ≡ i + length (text_of g)) × (f ≡ g)
Exact a k closed i g (faulty n l) = (n ≡ 1 → ⊥) × (depth g ≤ a → closed + line_count g ≤ 64 → AtomsBelow k g → ⊥)

-- An answer at or behind place m, or such an answer.
abbrev pub Met : ℕ → (Reading → Type 0) → Reading → Type 0
Met m E r = (m ≤ place r) ⊎ E r

module _ (m : ℕ) (s : List ℕ) (E : Reading → Type 0) where
  expect_met : (i b : ℕ) (r : Reading) → (i < m → byte_at s i ≡ b) → Met m E r → Met m E (expect s i b r)
  unfolding expect place
  expect_met i b r h q =
      if_byte (Met m E) (byte_at s i) b r (faulty 1 i) (λ _. q) (λ ne. inl (known m i h (λ l. l) (λ e. absurd (ne e))))

  expect_digit_met : (i bound d : ℕ) (r : Reading) → d ≤ 9 → (i < m → byte_at s i ≡ 48 + d) → (bound ≤ d → E (faulty 4 i))
      → Met m E r
      → Met m E (expect_digit s i bound r)
  unfolding expect_digit place
  expect_digit_met i bound d r ten h over q = go (leb 48 c) (leb c 57) (ltb (c - 48) bound) refl refl refl
    where
      c : ℕ
      c = byte_at s i

      go : (x y z : Bool) → leb 48 c ≡ x → leb c 57 ≡ y → ltb (c - 48) bound ≡ z
          → Met m E (cond (x && y) (cond z r (faulty 4 i)) (faulty 1 i))
      go true true true e₁ e₂ e₃ = q
      go true true false e₁ e₂ e₃ = known m i h (λ l. inl l) (λ e. inr (over (omega (arith, ltb-false (c - 48) bound e₃))))
      go true false z e₁ e₂ e₃ = inl (known m i h (λ l. l) (λ e. absurd (omega (arith, leb-false c 57 e₂))))
      go false y z e₁ e₂ e₃ = inl (known m i h (λ l. l) (λ e. absurd (omega (arith, leb-false 48 c e₁))))

  -- After a form: where the inner answer is behind m, so is the whole.
  and_then_met : (F : Reading → Type 0) (r : Reading) (next : ℕ → Formula → Reading) → Met m F r
      → ((j : ℕ) (f : Formula) → m ≤ j → m ≤ place (next j f)) → ((j : ℕ) (f : Formula) → F (formed j f) → Met m E (next j f))
      → ((n l : ℕ) → F (faulty n l) → E (faulty n l)) → Met m E (and_then r next)
  unfolding and_then place
  and_then_met F (formed j f) next (inl h) late exact over = inl (late j f h)
  and_then_met F (formed j f) next (inr h) late exact over = exact j f h
  and_then_met F (faulty n l) next (inl h) late exact over = inl h
  and_then_met F (faulty n l) next (inr h) late exact over = inr (over n l h)

module _ (m : ℕ) (s : List ℕ) (k : ℕ) where
  close_at_met : (a closed i l : ℕ) (f g : Formula) → (l < m → byte_at s l ≡ 41) → l + 1 ≡ i + length (text_of g) → f ≡ g
      → Met m (Exact a k closed i g) (close_at s closed l f)
  unfolding close_at Exact
  close_at_met a closed i l f g h e q =
      expect_met m s (Exact a k closed i g) l 41 _ h (go (leb (closed + line_count f) 64) refl)
    where
      go : (t : Bool) → leb (closed + line_count f) 64 ≡ t
          → Met m (Exact a k closed i g) (cond t (formed (l + 1) f) (faulty 3 l))
      go true p = inr (e, q)
      go false p =
          let over : 64 < closed + line_count g = subst (λ (x : Formula). 64 < closed + line_count x) q (leb-false _ _ p) in
          inr ((λ z. omega arith), (λ _ short _. omega arith))

  word_met : (E : Reading → Type 0) (a closed : ℕ) (word r : WordRead) → WordMet m word r → Met m E (body_with (form_at a s k) s k closed word)
      → Met m E (body_with (form_at a s k) s k closed r)
  word_met E a closed word r (inl e) q = rw e q
  word_met E a closed word r (inr h) q = inl (body_from s k (form_at a s k) (form_at_from s k a) closed m r h)

  -- No brackets left: a form is too deep.
  zero_met : (closed i : ℕ) (g : Formula) → 1 ≤ depth g → (i < m → byte_at s i ≡ 40) → Met m (Exact 0 k closed i g) (form_at 0 s k closed i)
  unfolding form_at Exact
  zero_met closed i g d h = expect_met m s (Exact 0 k closed i g) i 40 (faulty 2 i) h
      (inr ((λ z. omega arith), (λ shallow _ _. omega arith)))

  -- A byte known before m, at a place written otherwise.
  at_place : {x y b : ℕ} → x ≡ y → (x < m → byte_at s x ≡ b) → y < m → byte_at s y ≡ b
  at_place {x} {y} {b} e h = subst (λ (z : ℕ). z < m → byte_at s z ≡ b) e h

  atom_form_met : (a closed i p b : ℕ) → (p ≤ 9) × (b ≤ 9) → StandsTo m s i (text_of (atom p b))
      → Met m (Exact (suc a) k closed i (atom p b)) (form_at (suc a) s k closed i)
  unfolding form_at text_of StandsTo body_with atom_at Exact Atoms
  atom_form_met a closed i p b digits h =
      let E = Exact (suc a) k closed i (atom p b) in
      let l = i + 1 + 2 in
      let t = h.1.1.1 in
      let P = at_place {x = i + 1 + 1 + 1 + 1} {y = l + 1} {b = 48 + p} (omega arith) t.1.0 in
      let B = at_place {x = i + 1 + 1 + 1 + 1 + 1 + 1} {y = l + 3} {b = 48 + b} (omega arith) t.1.1.1.0 in
      let read = atom (byte_at s (l + 1) - 48) (byte_at s (l + 3) - 48) in
      expect_met m s E i 40 _ h.0
      (word_met E a closed (AtWord l) (word_at s (i + 1)) (at_met m s (i + 1) (h.1.0, (h.1.1.0, tt)))
      (expect_met m s E l 32 _ (at_place (omega arith) t.0)
      (expect_digit_met m s E (l + 1) k p _ digits.0 P (λ over. ((λ z. omega arith), (λ _ _ below. omega arith)))
      (expect_met m s E (l + 2) 32 _ (at_place (omega arith) t.1.1.0)
      (expect_digit_met m s E (l + 3) 8 b _ digits.1 B (λ over. ((λ z. omega arith), (λ _ _ below. omega arith)))
      (known m (l + 4) {Q = read ≡ atom p b} (λ in_reach. ap₂ atom (omega (arith, P (omega arith))) (omega (arith, B (omega arith))))
      (λ late. inl (close_at_from m s closed (l + 4) read late))
      (λ same. close_at_met (suc a) closed i (l + 4) read (atom p b) (at_place (omega arith) t.1.1.1.1.0) (omega arith) same)))))))

  constant_form_met : (a closed i : ℕ) (w : Constant) → StandsTo m s i (text_of (constant w))
      → Met m (Exact (suc a) k closed i (constant w)) (form_at (suc a) s k closed i)
  unfolding form_at text_of StandsTo body_with
  constant_form_met a closed i w h =
      let E = Exact (suc a) k closed i (constant w) in
      let c = constant_letters w in
      let l = i + 1 + length c in
      expect_met m s E i 40 _ h.0
      (word_met E a closed (ConstantWord w l) (word_at s (i + 1)) (constant_met m s (i + 1) w (stands_to_left m s (i + 1) c (41 ∷ []) h.1))
      (close_at_met (suc a) closed i l (constant w) (constant w) (stands_to_right m s (i + 1) c (41 ∷ []) h.1).0
      (omega (arith, length-append c (41 ∷ []))) refl))

  -- A reader of forms nested at most a deep answers to form f as said.
  abbrev Answers : ℕ → Formula → Type 0
  Answers a f = (closed i : ℕ) → StandsTo m s i (text_of f) → Met m (Exact a k closed i f) (form_at a s k closed i)

  inner_met : (a closed i : ℕ) (f : Formula) → Answers a f → (i < m → byte_at s i ≡ 32) → StandsTo m s (i + 1) (text_of f)
      → Met m (Exact a k closed (i + 1) f) (inner_with (form_at a s k) s closed i)
  unfolding inner_with
  inner_met a closed i f answers h q = expect_met m s (Exact a k closed (i + 1) f) i 32 _ h (answers closed (i + 1) q)

  unary_form_met : (a closed i : ℕ) (w : Unary) (f : Formula) → Answers a f → StandsTo m s i (text_of (unary w f))
      → Met m (Exact (suc a) k closed i (unary w f)) (form_at (suc a) s k closed i)
  unfolding form_at text_of StandsTo body_with unary_with Exact depth line_count Atoms
  unary_form_met a closed i w f answers h =
      let E = Exact (suc a) k closed i (unary w f) in
      let c = unary_letters w in
      let l = i + 1 + length c in
      let rest : List ℕ = 32 ∷ (text_of f ++ 41 ∷ []) in
      let t = stands_to_right m s (i + 1) c rest h.1 in
      let close = (stands_to_right m s (l + 1) (text_of f) (41 ∷ []) t.1).0 in
      expect_met m s E i 40 _ h.0
      (word_met E a closed (UnaryWord w l) (word_at s (i + 1)) (unary_met m s (i + 1) w (stands_to_left m s (i + 1) c rest h.1))
      (and_then_met m s E (Exact a k closed (l + 1) f) (inner_with (form_at a s k) s closed l) _
      (inner_met a closed l f answers t.0 (stands_to_left m s (l + 1) (text_of f) (41 ∷ []) t.1))
      (λ j g. close_at_from m s closed j (unary w g))
      (λ j g exact.
      close_at_met (suc a) closed i j (unary w g) (unary w f) (at_place (sym exact.0) close)
      (omega (arith, exact.0, length-append c rest, length-append (text_of f) (41 ∷ []))) (ap (unary w) exact.1))
      (λ n x over. (over.0, (λ shallow short below. over.1 (omega arith) (omega arith) below)))))

  binary_form_met : (a closed i : ℕ) (w : Binary) (f g : Formula) → Answers a f → Answers a g → StandsTo m s i (text_of (binary w f g))
      → Met m (Exact (suc a) k closed i (binary w f g)) (form_at (suc a) s k closed i)
  unfolding form_at text_of StandsTo body_with binary_with Exact depth line_count Atoms
  binary_form_met a closed i w f g first second h =
      let E = Exact (suc a) k closed i (binary w f g) in
      let c = binary_letters w in
      let l = i + 1 + length c in
      let n = l + 1 + length (text_of f) in
      let behind : List ℕ = 32 ∷ (text_of g ++ 41 ∷ []) in
      let rest : List ℕ = 32 ∷ (text_of f ++ behind) in
      let t = stands_to_right m s (i + 1) c rest h.1 in
      let u = stands_to_right m s (l + 1) (text_of f) behind t.1 in
      let close = (stands_to_right m s (n + 1) (text_of g) (41 ∷ []) u.1).0 in
      expect_met m s E i 40 _ h.0
      (word_met E a closed (BinaryWord w l) (word_at s (i + 1)) (binary_met m s (i + 1) w (stands_to_left m s (i + 1) c rest h.1))
      (and_then_met m s E (Exact a k closed (l + 1) f) (inner_with (form_at a s k) s closed l) _
      (inner_met a closed l f first t.0 (stands_to_left m s (l + 1) (text_of f) behind t.1))
      (λ j f'. second_from s k m (form_at a s k) (form_at_from s k a) closed w j f')
      (λ j f' exact.
      let closed' = closed + line_count f in
      subst₂ (λ (y : ℕ) (x : Formula). Met m E (and_then (inner_with (form_at a s k) s (closed + line_count x) y) (λ q g'. close_at s closed q (binary w x g'))))
      (sym exact.0) (sym exact.1)
      (and_then_met m s E (Exact a k closed' (n + 1) g) (inner_with (form_at a s k) s closed' n) _
      (inner_met a closed' n g second u.0 (stands_to_left m s (n + 1) (text_of g) (41 ∷ []) u.1))
      (λ q g'. close_at_from m s closed q (binary w f g'))
      (λ q g' exact'.
      close_at_met (suc a) closed i q (binary w f g') (binary w f g) (at_place (sym exact'.0) close)
      (omega (arith, exact'.0, length-append c rest, length-append (text_of f) behind, length-append (text_of g) (41 ∷ []))) (ap (binary w f) exact'.1))
      (λ z x over. (over.0, (λ shallow short below. over.1 (omega arith) (omega arith) below.1)))))
      (λ z x over. (over.0, (λ shallow short below. over.1 (omega arith) (omega arith) below.0)))))

  pub form_at_met : (f : Formula) → Grammatical f → (a : ℕ) → Answers a f
  unfolding Atoms text_of StandsTo depth
  form_at_met (atom p b) digits zero closed i h = zero_met closed i (atom p b) (omega arith) h.0
  form_at_met (atom p b) digits (suc a) closed i h = atom_form_met a closed i p b digits h
  form_at_met (constant w) digits zero closed i h = zero_met closed i (constant w) (omega arith) h.0
  form_at_met (constant w) digits (suc a) closed i h = constant_form_met a closed i w h
  form_at_met (unary w f) digits zero closed i h = zero_met closed i (unary w f) (omega arith) h.0
  form_at_met (unary w f) digits (suc a) closed i h = unary_form_met a closed i w f (form_at_met f digits a) h
  form_at_met (binary w f g) digits zero closed i h = zero_met closed i (binary w f g) (omega arith) h.0
  form_at_met (binary w f g) digits (suc a) closed i h = binary_form_met a closed i w f g (form_at_met f digits.0 a) (form_at_met g digits.1 a) h
