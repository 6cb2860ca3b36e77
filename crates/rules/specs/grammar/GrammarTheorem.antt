-- The grammar theorem: the reader refuses a text exactly by its first fault, and accepts it exactly if it has none.
use Rattle.std.specs.Prelude.{ℕ, ◌+◌, ◌<◌, Bool, List, [], ◌⊎◌}
use native.Mathlib.Omega.{arith}
use Rattle.std.proofs.Math.Path.{◌≡◌, refl, subst₂}
use Rattle.std.proofs.Common.{sym, ap, subst, ◌∙◌, ap₂, inl, inr, get_or-take, length-take, ltb-true, ltb-false}
use Rattle.std.proofs.Math.Bool.{true, false, cond}
use Rattle.std.proofs.Math.Dec.{ltb}
use Rattle.std.proofs.Math.ListN.{length}
use Rattle.rules.specs.grammar.OpenForms.{before, closed_lines, FramesGrammatical, viable_text}
use Rattle.rules.specs.grammar.FaultLaws.{Clean, none-before-place, Over, over_byte, fault_cases}
use Rattle.rules.specs.grammar.LimitFaults.{Stopped, Outcome}
use Rattle.rules.specs.Text.{byte_at, text_of, Grammatical}
use Rattle.rules.specs.reading.ReaderAccepts.{read_begun, start_met, Accepted, accepted}
use Rattle.rules.specs.grammar.FormFaults.{form_at_stops}
use Rattle.rules.specs.reading.ReaderLaws.{form_at-formed}
use Rattle.rules.specs.Fault.{Fault1, Fault, FirstFault, ReaderFindsFirstFault, ReaderAcceptsFaultless}
use Rattle.rules.specs.reading.FormsAnswered.{Exact, Met}
use Rattle.rules.specs.Formula.{Formula}
use Rattle.rules.specs.grammar.FirstBytes.{begun_inside, begun_nil, inside}
use Rattle.rules.specs.Reader.{Reading, and_then, form_at, read_rule, formed, faulty}
use Rattle.rules.specs.reading.ForwardLaws.{place}

-- The start of a text

start_outcome : (s : List ℕ) (k : ℕ) → Outcome s k (form_at 32 s k 0 0)
unfolding before closed_lines FramesGrammatical
start_outcome s k = form_at_stops s k 32 [] 0 0 refl refl (record { begun = begun_nil s; digits = tt; clean = λ j l. absurd (omega arith) })

-- Fault 1

-- Where the reader stops by 1, no text of the grammar has the byte, or ends there.
stop_first : (s : List ℕ) (k i : ℕ) → Stopped s k i
    → ((g : Formula) → Grammatical g → ((l : ℕ) → l < length (text_of g) → l < i + 1 → byte_at s l ≡ byte_at (text_of g) l)
    → (i < length s → i < length (text_of g)) → ⊥) → FirstFault 1 s k i
unfolding Fault Fault1
stop_first s k i x never = record {
  here = inl (refl, go (ltb i (length s)) refl);
  none_before = none-before-place k i x.begun x.viable (omega arith) x.clean;
  none_lower = lower;
}
  where
    go : (t : Bool) → ltb i (length s) ≡ t → Fault1 s i
    go true e =
        let h = ltb-true i (length s) e in
        inl (
          h,
          (λ g digits same. never g digits
              (λ l p q. sym (get_or-take (i + 1) s l 256 q) ∙ rw (← same) (get_or-take (i + 1) (text_of g) l 256 q))
              (λ _. omega (arith, length-take (i + 1) (text_of g), length-take (i + 1) s, ap length same))),
        )
    go false e =
        inr (
          omega (arith, ltb-false i (length s) e, begun_inside x.begun),
          (λ g digits same. never g digits
              (λ l p q. rw same) (λ h. rw same h)),
        )

    lower : (m : ℕ) → m < 1 → Fault m s k i → ⊥
    lower m l (inl y) = omega (arith, y.0)
    lower m l (inr (inl y)) = omega (arith, y.0)
    lower m l (inr (inr (inl y))) = omega (arith, y.0)
    lower m l (inr (inr (inr y))) = omega (arith, y.0)

-- Refusals

module _ (s : List ℕ) (k : ℕ) where
  -- A byte behind the whole form.
  behind_first : (j : ℕ) (f : Formula) → form_at 32 s k 0 0 ≡ formed j f → Clean s k j → j < length s → FirstFault 1 s k j
  unfolding Exact place
  behind_first j f e clean h =
      let read = form_at-formed s k 32 0 0 j f e in
      stop_first s k j (record { bytes = text_of f; begun = read_begun read; viable = viable_text f read.digits; clean = clean })
      (λ g digits agree longer. go g (longer h) (subst (Met (j + 1) (Exact 32 k 0 0 g)) e (start_met (j + 1) s k g digits agree)))
    where
      go : (g : Formula) → j < length (text_of g) → Met (j + 1) (Exact 32 k 0 0 g) (formed j f) → ⊥
      go g l (inl y) = omega arith
      go g l (inr y) = omega (arith, y.0)

  -- A byte that the form does not have.
  inside_first : (j : ℕ) → form_at 32 s k 0 0 ≡ faulty 1 j → Stopped s k j → FirstFault 1 s k j
  unfolding Exact place
  inside_first j e x =
      stop_first s k j x (λ g digits agree _. go g (subst (Met (j + 1) (Exact 32 k 0 0 g)) e (start_met (j + 1) s k g digits agree)))
    where
      go : (g : Formula) → Met (j + 1) (Exact 32 k 0 0 g) (faulty 1 j) → ⊥
      go g (inl y) = omega arith
      go g (inr y) = y.0 refl

  refused-first : (n i : ℕ) → read_rule s k ≡ faulty n i → FirstFault n s k i
  unfolding read_rule and_then Outcome
  refused-first n i = go (form_at 32 s k 0 0) refl (start_outcome s k)
    where
      behind : (j : ℕ) (f : Formula) → form_at 32 s k 0 0 ≡ formed j f → Clean s k j → (t : Bool) → ltb j (length s) ≡ t
          → cond t (faulty 1 j) (formed j f) ≡ faulty n i → FirstFault n s k i
      behind j f e clean true q h =
          subst₂ (λ (m l : ℕ). FirstFault m s k l) (cc) (cc) (behind_first j f e clean (ltb-true j (length s) q))
      behind j f e clean false q h = let z : ◌≡◌ {A = ℕ} 0 1 = cc in absurd (omega arith)

      go : (r : Reading) → form_at 32 s k 0 0 ≡ r → Outcome s k r
          → and_then r (λ i f. cond (ltb i (length s)) (faulty 1 i) (formed i f)) ≡ faulty n i → FirstFault n s k i
      go (formed j f) e x h = behind j f e x (ltb j (length s)) refl h
      go (faulty m j) e (inl x) h = subst₂ (λ (m l : ℕ). FirstFault m s k l) (cc) (cc) x
      go (faulty m j) e (inr x) h =
          let one : m ≡ 1 = x.0 in
          subst₂ (λ (m l : ℕ). FirstFault m s k l) (cc) (cc)
          (inside_first j (e ∙ ap (λ (z : ℕ). faulty z j) one) x.1)

  -- An accepted text has no fault.
  accepted_faultless : (i : ℕ) (f : Formula) → read_rule s k ≡ formed i f → (n j : ℕ) → Fault n s k j → ⊥
  unfolding Fault1 Outcome
  accepted_faultless i f h n j fault = go (fault_cases n s k j fault)
    where
      x : Accepted s k i f
      x = accepted s k i f h

      digits : Grammatical f
      digits = (form_at-formed s k 32 0 0 i f x.start).digits

      clean : Clean s k i
      clean = subst (Outcome s k) x.start (start_outcome s k)

      go : Fault1 s j ⊎ Over s k j → ⊥
      go (inl (inl (l, never))) = never f digits (rw x.whole)
      go (inl (inr (e, never))) = never f digits x.whole
      go (inr y) = clean j (omega (arith, x.ends, inside s j (byte_at s j) refl (omega (arith, over_byte s k j y)))) y

  -- A text has one first fault.
  first_unique : (n m i j : ℕ) → FirstFault n s k i → FirstFault m s k j → (n ≡ m) × (i ≡ j)
  first_unique n m i j x y = places (ltb i j) (ltb j i) refl refl
    where
      numbers : i ≡ j → (t u : Bool) → ltb n m ≡ t → ltb m n ≡ u → n ≡ m
      numbers e true u p q = absurd (y.none_lower n (ltb-true n m p) (subst (Fault n s k) e x.here))
      numbers e false true p q = absurd (x.none_lower m (ltb-true m n q) (subst (Fault m s k) (sym e) y.here))
      numbers e false false p q = omega (arith, ltb-false n m p, ltb-false m n q)

      places : (t u : Bool) → ltb i j ≡ t → ltb j i ≡ u → (n ≡ m) × (i ≡ j)
      places true u p q = absurd (y.none_before n i (ltb-true i j p) x.here)
      places false true p q = absurd (x.none_before m j (ltb-true j i q) y.here)
      places false false p q =
          let e : i ≡ j = omega (arith, ltb-false i j p, ltb-false j i q) in
          (numbers e (ltb n m) (ltb m n) refl refl, e)

  first-refused : (n i : ℕ) → FirstFault n s k i → read_rule s k ≡ faulty n i
  first-refused n i x = go (read_rule s k) refl
    where
      go : (r : Reading) → read_rule s k ≡ r → read_rule s k ≡ faulty n i
      go (formed j f) e = absurd (accepted_faultless j f e n i x.here)
      go (faulty m j) e = let same = first_unique m n j i (refused-first m j e) x in e ∙ ap₂ faulty same.0 same.1

  faultless_accepted : ((n i : ℕ) → Fault n s k i → ⊥) → (i : ℕ) × (f : Formula) × (read_rule s k ≡ formed i f)
  faultless_accepted none-at = go (read_rule s k) refl
    where
      go : (r : Reading) → read_rule s k ≡ r → (i : ℕ) × (f : Formula) × (read_rule s k ≡ formed i f)
      go (formed j f) e = (j, f, e)
      go (faulty m j) e = absurd (none-at m j (refused-first m j e).here)

-- The reader refuses a text exactly by its first fault.
pub reader_first_fault : ReaderFindsFirstFault
reader_first_fault s k n i = (refused-first s k n i, first-refused s k n i)

-- It accepts a text exactly if that has no fault.
pub reader_faultless : ReaderAcceptsFaultless
reader_faultless s k = ((λ h. accepted_faultless s k h.0 h.1 h.2), faultless_accepted s k)
