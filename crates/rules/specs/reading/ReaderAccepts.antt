-- The reader accepts exactly the texts of the forms within the limits, and reads those forms.
use Rattle.std.specs.Prelude.{ℕ, ◌+◌, ◌<◌, ◌≡◌, refl, Bool, true, false, cond, List, ltb, length}
use Rattle.std.proofs.Common.{arith, sym, ap, ap₂, subst, ◌∙◌, inl, inr, ltb-false, le-ltb}
use Rattle.std.proofs.Math.Seq.{take-length}
use Rattle.rules.specs.reading.WordsAnswered.{stands_to-same}
use Rattle.rules.specs.Text.{byte_at, text_of, Grammatical, WithinLimits}
use Rattle.rules.specs.reading.ReaderLaws.{and_then-formed, FormRead, form_at-formed}
use Rattle.rules.specs.Fault.{ReaderAcceptsForms}
use Rattle.rules.specs.reading.FormsAnswered.{Exact, Met, form_at_met}
use Rattle.rules.specs.Formula.{Formula}
use Rattle.rules.specs.reading.PlaceLaws.{FaultBy, form_at_by}
use Rattle.rules.specs.grammar.PlainBytes.{text-small}
use Rattle.rules.specs.grammar.FirstBytes.{Begun, begun_inside, begun_nil, begun_span}
use Rattle.rules.specs.Reader.{Reading, and_then, form_at, read_rule, formed, faulty}
use Rattle.rules.specs.reading.ForwardLaws.{place}

-- A form that stands at the start of a text is the text's first bytes.
pub read_begun : {a closed i k : ℕ} {s : List ℕ} {f : Formula} → FormRead a s k closed 0 i f → Begun s (text_of f) i
read_begun {s = s} {f = f} x = begun_span (begun_nil s) x.span (text-small f x.digits)

-- What the reader answers at a text's start, where a form's text stands there as far as place m.
pub start_met : (m : ℕ) (s : List ℕ) (k : ℕ) (g : Formula) → Grammatical g
    → ((l : ℕ) → l < length (text_of g) → l < m → byte_at s l ≡ byte_at (text_of g) l) → Met m (Exact 32 k 0 0 g) (form_at 32 s k 0 0)
start_met m s k g digits h =
    form_at_met m s k g digits 32 0 0
    (stands_to-same m s 0 (text_of g) (λ l p q. subst (λ (x : ℕ). byte_at s x ≡ byte_at (text_of g) l) (omega arith) (h l p (omega arith))))

-- A text that was accepted.
pub record Accepted (s : List ℕ) (k i : ℕ) (f : Formula) : Type 0 where
  pub start : form_at 32 s k 0 0 ≡ formed i f
  pub whole : text_of f ≡ s
  pub ends : i ≡ length s

pub accepted : (s : List ℕ) (k i : ℕ) (f : Formula) → read_rule s k ≡ formed i f → Accepted s k i f
unfolding read_rule
accepted s k i f h =
    let x = and_then-formed (form_at 32 s k 0 0) _ h in
    go x.0 x.1 x.2 (ltb x.0 (length s)) refl x.3
  where
    go : (j : ℕ) (g : Formula) → form_at 32 s k 0 0 ≡ formed j g → (t : Bool) → ltb j (length s) ≡ t
        → cond t (faulty 1 j) (formed j g) ≡ formed i f → Accepted s k i f
    go j g e true q r = let z : ◌≡◌ {A = ℕ} 0 1 = cc in absurd (omega arith)
    go j g e false q r =
        let b : Begun s (text_of g) j = read_begun (form_at-formed s k 32 0 0 j g e) in
        let l : j ≡ length s = omega (arith, ltb-false j (length s) q, begun_inside b) in
        let same : f ≡ g = cc in
        let place : i ≡ j = cc in
        record { start = cc; whole = rw same (sym b.taken ∙ rw l (take-length s)); ends = place ∙ l }

-- The text of a form within the limits.
pub accepts : (s : List ℕ) (k : ℕ) (f : Formula) → text_of f ≡ s → Grammatical f → WithinLimits k f → read_rule s k
    ≡ formed (length s) f
unfolding read_rule and_then Exact FaultBy place
accepts s k f e digits within = go (form_at 32 s k 0 0) refl (start_met m s k f digits (λ l p q. rw e)) (form_at_by s k 32 0 0)
  where
    m : ℕ
    m = length s + 833

    go : (r : Reading) → form_at 32 s k 0 0 ≡ r → Met m (Exact 32 k 0 0 f) r → FaultBy 832 r
        → and_then r (λ i f. cond (ltb i (length s)) (faulty 1 i) (formed i f)) ≡ formed (length s) f
    go (formed j g) q (inl h) by = absurd (omega (arith, begun_inside (read_begun (form_at-formed s k 32 0 0 j g q))))
    go (formed j g) q (inr h) by =
        let l : j ≡ length s = omega (arith, ap length e, h.0) in
        rw (le-ltb j (length s) (omega arith)) (ap₂ formed l h.1)
    go (faulty n j) q (inl h) by = absurd (omega arith)
    go (faulty n j) q (inr h) by = absurd (h.1 within.shallow (omega (arith, within.short)) within.below)

-- The reader accepts a text exactly if that is the text of a form of the grammar within the limits, and reads that
-- form.
pub reader_accepts : ReaderAcceptsForms
reader_accepts s k i f = (
  (λ h.
      let x = accepted s k i f h in
      let y = form_at-formed s k 32 0 0 i f x.start in
      (x.whole, x.ends, y.digits, record { shallow = y.shallow; short = omega (arith, y.short); below = y.below })),
  (λ h. rw h.1 (accepts s k f h.0 h.2 h.3)),
)
