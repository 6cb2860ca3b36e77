-- Where the text of a number stands up to some place, the reader reads it, or turns it back by 10, or stands at or
-- behind that place.
use Rattle.std.specs.Prelude.{ℕ, ◌+◌, ◌≤◌, ◌<◌, ◌≡◌, refl, Bool, true, false, cond, ◌&&◌, ◌⊎◌, List, [], ◌∷◌, ◌++◌, leb, ltb, eqb, length, drop}
use Rattle.std.proofs.Common.{arith, sym, ap, ◌∙◌, inl, inr, eqb-true, ltb-true, le-ltb}
use Rattle.rules.specs.Text.{byte_at}
use Rattle.clocks.specs.stored.BoundedLaws.{and-true}
use Rattle.rules.specs.reading.WordLaws.{if_byte}
use Rattle.rules.specs.reading.WordsAnswered.{StandsTo, known}
use Rattle.line_pieces.specs.Read.{Read, At, Refused}
use Rattle.codec.specs.Decimal.{is_digit, digits, value}
use Rattle.line_pieces.specs.Number.{number_of, number_at}
use Rattle.line_pieces.specs.NumberLaws.{digits_next, digits-end, digits-first}
use Rattle.line_pieces.specs.Reading.{then_byte}
use Rattle.line_laws.specs.Grammar.{AllDigits, Numeral}
use Rattle.line_laws.specs.pieces.ReadPieces.{place_in, if_test}

-- A reading is at or behind place m, or is turned back by 10; or it stands at place i.
abbrev pub Behind : ℕ → Read → Type 0
Behind m r = (m ≤ place_in r) ⊎ ((i : ℕ) × (r ≡ Refused 10 i))

abbrev pub Near : ℕ → ℕ → Read → Type 0
Near m i r = ((v : ℕ) × (r ≡ At i v)) ⊎ Behind m r

-- A test, by its two answers, with what each says.
pub if_known {ℓ} : {A : Type ℓ} (P : A → Type 0) (t : Bool) (x y : A) → (t ≡ true → P x) → (t ≡ false → P y)
    → P (cond t x y)
if_known P true x y p q = p refl
if_known P false x y p q = q refl

-- ---- A byte

pub byte_met : (m : ℕ) (s : List ℕ) (b i : ℕ) (r : Read) → (i < m → byte_at s i ≡ b) → ((v : ℕ) × (r ≡ At i v))
    → Near m (i + 1) (then_byte s b r)
unfolding then_byte place_in
byte_met m s b i r h (v, e) =
    rw e (if_byte (Near m (i + 1)) (byte_at s i) b (At (i + 1) v) (Refused 1 i) (λ _. inl (v, refl))
    (λ ne. inr (inl (known m i h (λ l. l) (λ q. absurd (ne q))))))

-- ---- Digits

-- The digits there are those of the text, or they go on to place m.
digits_met : (m : ℕ) (s : List ℕ) (i : ℕ) (ds : List ℕ) (c : ℕ) → AllDigits ds → is_digit c ≡ false
    → StandsTo m s i (ds ++ c ∷ [])
    → (digits (drop i s) ≡ ds) ⊎ (m ≤ i + length (digits (drop i s)))
unfolding AllDigits StandsTo
digits_met m s i [] c a q h = known m i h.0 (λ l. inr (omega arith)) (λ e. inl (digits-end s i (rw e q)))
digits_met m s i (d ∷ ds) c a q h =
    known m i h.0 (λ l. inr (omega arith)) (λ e. more e (digits_met m s (i + 1) ds c a.1 q h.1))
  where
    more : byte_at s i ≡ d → (digits (drop (i + 1) s) ≡ ds) ⊎ (m ≤ i + 1 + length (digits (drop (i + 1) s)))
        → (digits (drop i s) ≡ d ∷ ds) ⊎ (m ≤ i + length (digits (drop i s)))
    more e (inl f) = inl (digits_next s i (rw e a.0) ∙ rw (e, f))
    more e (inr f) = let n = ap length (digits_next s i (rw e a.0)) in inr (omega (arith, n))

-- A digit behind a leading 0 stands at or behind place m.
leading : (m : ℕ) (s : List ℕ) (i : ℕ) (ds : List ℕ) (c : ℕ) → Numeral ds → is_digit c ≡ false
    → StandsTo m s i (ds ++ c ∷ [])
    → byte_at s i ≡ 48 → is_digit (byte_at s (i + 1)) ≡ true → m ≤ i + 1
unfolding StandsTo
leading m s i [] c n q h z e = absurd (omega (arith, n.some))
leading m s i (d ∷ []) c n q h z e = known m (i + 1) h.1.0 (λ l. l)
    (λ f. let b : true ≡ false = sym e ∙ rw f q in let w : ◌≡◌ {A = ℕ} 0 1 = cc in absurd (omega arith))
leading m s i (d ∷ f ∷ ds) c n q h z e =
    known m i h.0 (λ l. omega arith) (λ g. absurd (omega (arith, n.plain (sym g ∙ z))))

-- ---- A number

pub plain-test : (d : ℕ) (ds : List ℕ) → Numeral (d ∷ ds) → (eqb d 48 && ltb 0 (length ds)) ≡ false
plain-test d ds n = go (eqb d 48) refl
  where
    go : (t : Bool) → eqb d 48 ≡ t → (t && ltb 0 (length ds)) ≡ false
    go true e = let p = n.plain (eqb-true d 48 e) in le-ltb 0 (length ds) (omega arith)
    go false e = refl

numeral_read : (m i : ℕ) (ds : List ℕ) (least most : ℕ) → Numeral ds → Near m (i + length ds) (number_of ds i least most)
unfolding number_of
numeral_read m i [] least most n = absurd (omega (arith, n.some))
numeral_read m i (d ∷ ds) least most n =
    rw (plain-test d ds n)
    (if_test (Near m (i + length (d ∷ ds))) (leb least (value (d ∷ ds)) && leb (value (d ∷ ds)) most) _ _
    (inl (_, refl)) (inr (inr (i, refl))))

pub number_met : (m : ℕ) (s : List ℕ) (i : ℕ) (ds : List ℕ) (c least most : ℕ) → Numeral ds → is_digit c ≡ false
    → StandsTo m s i (ds ++ c ∷ [])
    → Near m (i + length ds) (number_at s i least most)
unfolding number_at number_of place_in
number_met m s i ds c least most n q h = go (digits_met m s i ds c n.all q h)
  where
    late : (es : List ℕ) → digits (drop i s) ≡ es → m ≤ i + length es
        → Near m (i + length ds) (number_of es i least most)
    late [] e l = inr (inl (omega arith))
    late (d ∷ es) e l =
        if_known (Near m (i + length ds)) (eqb d 48 && ltb 0 (length es)) _ _
        (λ t. let p = and-true (eqb d 48) (ltb 0 (length es)) t in
        let z : byte_at s i ≡ 48 = sym (digits-first s i d es e) ∙ eqb-true d 48 p.0 in
        inr (inl (leading m s i ds c n q h z (second es e (ltb-true 0 (length es) p.1)))))
        (λ t. if_test (Near m (i + length ds)) (leb least (value (d ∷ es)) && leb (value (d ∷ es)) most) _ _
        (inr (inl l)) (inr (inr (i, refl))))
      where
        second : (xs : List ℕ) → digits (drop i s) ≡ d ∷ xs → 0 < length xs → is_digit (byte_at s (i + 1)) ≡ true
        second xs f k = pick (is_digit (byte_at s i)) (is_digit (byte_at s (i + 1))) refl refl
          where
            pick : (a b : Bool) → is_digit (byte_at s i) ≡ a → is_digit (byte_at s (i + 1)) ≡ b → b ≡ true
            pick a true x y = refl
            pick true false x y =
                let u = digits_next s i x in
                let w = digits-end s (i + 1) y in
                let v : xs ≡ [] = cc in
                absurd (omega (arith, ap length v))
            pick false false x y = let w : ◌≡◌ {A = ℕ} 0 1 = cc (digits-end s i x) in absurd (omega arith)

    go : (digits (drop i s) ≡ ds) ⊎ (m ≤ i + length (digits (drop i s)))
        → Near m (i + length ds) (number_of (digits (drop i s)) i least most)
    go (inl e) = rw e (numeral_read m i ds least most n)
    go (inr l) = late (digits (drop i s)) refl l
