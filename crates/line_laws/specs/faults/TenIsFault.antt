-- Where the reader turns a piece back by 10, that fault stands in the piece.
use Rattle.std.specs.Prelude.{ℕ, zero, suc, ◌+◌, ◌<◌, ◌≡◌, refl, Bool, true, false, cond, ◌&&◌, ◌⊎◌, List, [], ◌∷◌, ◌++◌, leb, ltb, eqb, length, drop}
use Rattle.std.proofs.Common.{arith, sym, ◌∙◌, inl, inr, append_assoc, append-nil, length-append, eqb-true, eq-eqb, ltb-false, leb-false}
use Rattle.rules.specs.Text.{byte_at}
use Rattle.rules.specs.reading.WordLaws.{span_nil, span_byte, span_append}
use Rattle.line_pieces.specs.Read.{Read, At, Refused}
use Rattle.codec.specs.Decimal.{is_digit, digits, value}
use Rattle.line_pieces.specs.Number.{number_of, number_at}
use Rattle.line_pieces.specs.NumberLaws.{digits_next, digits-end, digits-first}
use Rattle.line_laws.specs.Grammar.{Numeral, Numerals, spaced, between, Piece, a_byte, a_number, list, spaced_list}
use Rattle.line_laws.specs.pieces.ReadPieces.{if_test, read_piece}
use Rattle.line_laws.specs.Fault.{NumberOut, trailed, least_behind, Miscounted, TenIn}
use Rattle.line_laws.specs.pieces.NumberTextRead.{if_known}
use Rattle.line_pieces.specs.Reading.{then_byte, then_number}
use Rattle.line_pieces.specs.NumberList.{ListRead, after_number, numbers_at, then_list, then_spaced_list, then_close}
use Rattle.line_laws.specs.pieces.PieceBegun.{digits-all}
use Rattle.rules.specs.Fault.{Span}

-- Two faults, or a fault and a place, are not the same.
not_ten : (i j : ℕ) → Refused 1 i ≡ Refused 10 j → ⊥
not_ten i j e = let z : ◌≡◌ {A = ℕ} 1 10 = cc in omega arith

pub not_at : (i v n j : ℕ) → At i v ≡ Refused n j → ⊥
not_at i v n j e = let z : ◌≡◌ {A = ℕ} 0 1 = cc in omega arith

-- ---- Numbers

-- The digits at a place stand there.
digits_stand : (s : List ℕ) (ds : List ℕ) (i : ℕ) → digits (drop i s) ≡ ds → Span s i ds (i + length ds)
digits_stand s [] i e = let z : i ≡ i + 0 = omega arith in rw (← z) (span_nil s i)
digits_stand s (d ∷ ds) i e =
    let rest : digits (drop (i + 1) s) ≡ ds = tail (is_digit (byte_at s i)) refl in
    let z : i + 1 + length ds ≡ i + suc (length ds) = omega arith in
    rw (← z) (span_append (span_byte s i d (sym (digits-first s i d ds e))) (digits_stand s ds (i + 1) rest))
  where
    tail : (t : Bool) → is_digit (byte_at s i) ≡ t → digits (drop (i + 1) s) ≡ ds
    tail true q = cc (digits_next s i q)
    tail false q = let z : ◌≡◌ {A = ℕ} 0 1 = cc (digits-end s i q) in absurd (omega arith)

-- Digits without a needless 0 are the text of a number.
numeral_of_lem : (s : List ℕ) (i d : ℕ) (ds : List ℕ) → digits (drop i s) ≡ d ∷ ds
    → (eqb d 48 && ltb 0 (length ds)) ≡ false → Numeral (d ∷ ds)
numeral_of_lem s i d ds e h = record { some = omega arith; all = rw e at (digits-all (drop i s)); plain = λ z. plain z }
  where
    plain : d ≡ 48 → suc (length ds) ≡ 1
    plain z =
        let k : eqb d 48 ≡ true = eq-eqb d 48 z in
        let l : ltb 0 (length ds) ≡ false = rw k at h in
        omega (arith, ltb-false 0 (length ds) l)

-- Outside the limits, by the tests.
out_of : (v least most : ℕ) → (leb least v && leb v most) ≡ false → (v < least) ⊎ (most < v)
out_of v least most h = go (leb least v) (leb v most) refl refl h
  where
    go : (a b : Bool) → leb least v ≡ a → leb v most ≡ b → (a && b) ≡ false → (v < least) ⊎ (most < v)
    go false b p q r = inl (leb-false least v p)
    go true false p q r = inr (leb-false v most q)
    go true true p q r = let z : ◌≡◌ {A = ℕ} 0 1 = cc in absurd (omega arith)

-- What a number's reading says of its digits.
unfoldable pub Judged : List ℕ → ℕ → ℕ → ℕ → Read → Type 0
Judged s i least most (At j v) =
    Numeral (digits (drop i s)) × (Span s i (digits (drop i s)) j × (v ≡ value (digits (drop i s))))
Judged s i least most (Refused n j) = n ≡ 10 → (j ≡ i) × NumberOut s i least most

pub number_judged : (s : List ℕ) (i least most : ℕ) → Judged s i least most (number_at s i least most)
unfolding number_at number_of Judged NumberOut
number_judged s i least most = go (digits (drop i s)) refl
  where
    go : (ds : List ℕ) → digits (drop i s) ≡ ds → Judged s i least most (number_of ds i least most)
    go [] e = λ q. absurd (omega (arith, q))
    go (d ∷ ds) e =
        if_known (Judged s i least most) (eqb d 48 && ltb 0 (length ds)) _ _ (λ _ q. absurd (omega (arith, q)))
        (λ t. if_known (Judged s i least most) (leb least (value (d ∷ ds)) && leb (value (d ∷ ds)) most) _ _
        (λ _. rw e (numeral_of_lem s i d ds e t, (digits_stand s (d ∷ ds) i e, refl)))
        (λ o _. (refl, rw e (numeral_of_lem s i d ds e t, out_of (value (d ∷ ds)) least most o))))

-- ---- Lists of numbers

-- Turned back by 10: numbers with a space behind each, and then one that is out. Read: numbers with spaces between,
-- all counted.
unfoldable pub ListJudged : List ℕ → Bool → ℕ → ℕ → ℕ → ℕ → Read → Type 0
ListJudged s ascending most least before j (At i n) =
    (d : List ℕ) × (ds : List (List ℕ))
    × (Numeral d × (Numerals ds × (Span s j (d ++ spaced ds) i × (n ≡ before + suc (length ds)))))
ListJudged s ascending most least before j (Refused n i) =
    n ≡ 10 → (ns : List (List ℕ))
    × (Numerals ns × (Span s j (trailed ns) i × NumberOut s i (least_behind ascending least ns) most))

-- Behind a number and a space.
list_more : (s : List ℕ) (ascending : Bool) (most least before : ℕ) (j e : ℕ) (d : List ℕ) (r : Read) → Numeral d
    → Span s j (d ++ 32 ∷ []) e
    → ListJudged s ascending most (cond ascending (value d + 1) 0) (before + 1) e r
    → ListJudged s ascending most least before j r
unfolding ListJudged Numerals spaced trailed least_behind
list_more s ascending most least before j e d (At i n) m q (f, fs, (a, (b, (p, c)))) =
    (d, f ∷ fs, (m, ((a, b), (rw (append_assoc d (32 ∷ []) (f ++ spaced fs)) at (span_append q p), omega arith))))
list_more s ascending most least before j e d (Refused n i) m q g = λ h. let w = g h in (
  d ∷ w.0,
  (
    (m, w.1.0),
    (rw (append_assoc d (32 ∷ []) (trailed w.0)) at (span_append q w.1.1.0), w.1.1.1),
  ),
)

pub numbers_judged : (left : ℕ) (s : List ℕ) (ascending : Bool) (most least : ℕ) (ns : List ℕ) (j : ℕ)
    → ListJudged s ascending most least (length ns) j (numbers_at left s ascending most least ns j).read
unfolding numbers_at after_number ListJudged Numerals spaced trailed least_behind Judged
numbers_judged zero s ascending most least ns j = λ q. absurd (omega (arith, q))
numbers_judged (suc left) s ascending most least ns j =
    go (number_at s j least most) (number_judged s j least most)
    (λ (x : ℕ) (l : List ℕ) (e : ℕ). numbers_judged left s ascending most x l e)
  where
    go : (r : Read) → Judged s j least most r
        → ((x : ℕ) (l : List ℕ) (e : ℕ)
        → ListJudged s ascending most x (length l) e (numbers_at left s ascending most x l e).read)
        → ListJudged s ascending most least (length ns) j
        (after_number s ascending (numbers_at left s ascending most) ns r).read
    go (Refused n i) q further = λ h. let w = q h in ([], (tt, (rw w.0 (span_nil s j), rw w.0 w.1)))
    go (At e v) (m, (p, w)) further =
        if_known (λ (x : ListRead). ListJudged s ascending most least (length ns) j x.read) (eqb (byte_at s e) 32) _ _
        (λ t. let more = further (cond ascending (v + 1) 0) (ns ++ v ∷ []) (e + 1) in
        let count : length (ns ++ v ∷ []) ≡ length ns + 1 = length-append ns (v ∷ []) in
        list_more s ascending most least (length ns) j (e + 1) (digits (drop j s))
        (numbers_at left s ascending most (cond ascending (v + 1) 0) (ns ++ v ∷ []) (e + 1)).read m
        (span_append p (span_byte s e 32 (eqb-true (byte_at s e) 32 t)))
        (rw (← w, ← count) more))
        (λ _. (digits (drop j s), [], (m, (tt, (rw (append-nil (digits (drop j s))) p, refl)))))

-- ---- Lists, closed

-- A list without its closing bracket: all its numbers, counted; or turned back by 10.
unfoldable pub InnerJudged : (List (List ℕ) → List ℕ) → (ℕ → Type 0) → List ℕ → ℕ → Read → Type 0
InnerJudged text Out s j (At i n) = (ns : List (List ℕ)) × (Numerals ns × (Span s j (text ns) i × (n ≡ length ns)))
InnerJudged text Out s j (Refused n i) = n ≡ 10 → Out i

-- A list of a wrong length, at its closing bracket.
abbrev pub WrongLength : (List (List ℕ) → List ℕ) → List ℕ → ℕ → ℕ → ℕ → ℕ → Type 0
WrongLength text s j fewest fullest i =
    (ns : List (List ℕ)) × (Numerals ns × (Span s j (text ns) i × ((byte_at s i ≡ 41) × Miscounted ns fewest fullest)))

close_ten : (text : List (List ℕ) → List ℕ) (Out : ℕ → Type 0) (s : List ℕ) (j fewest fullest i : ℕ) (r : Read)
    → InnerJudged text Out s j r
    → then_close s fewest fullest r ≡ Refused 10 i → Out i ⊎ WrongLength text s j fewest fullest i
unfolding InnerJudged then_close
close_ten text Out s j fewest fullest i (At k n) (ns, (a, (p, c))) q =
    if_known Goal (eqb (byte_at s k) 41) _ _
    (λ t. if_known Goal (leb fewest n && leb n fullest) _ _ (λ _ e. absurd (not_at _ _ _ _ e))
    (λ o e. let z : k ≡ i = cc in
    inr (ns, (a, (rw z at p, (rw z at (eqb-true (byte_at s k) 41 t), rw c at (out_of n fewest fullest o)))))))
    (λ _ e. absurd (not_ten k i e)) q
  where
    Goal : Read → Type 0
    Goal x = x ≡ Refused 10 i → Out i ⊎ WrongLength text s j fewest fullest i
close_ten text Out s j fewest fullest i (Refused n k) f q =
    let z : n ≡ 10 = cc in
    let w : k ≡ i = cc in
    inl (rw w at (f z))

-- A number out of its limits in a list.
abbrev pub ListOut : List ℕ → Bool → ℕ → ℕ → ℕ → Type 0
ListOut s ascending most j i =
    (ns : List (List ℕ)) × (Numerals ns × (Span s j (trailed ns) i × NumberOut s i (least_behind ascending 0 ns) most))

inner_judged : (s : List ℕ) (ascending : Bool) (most j : ℕ) (r : Read) → ListJudged s ascending most 0 0 j r
    → InnerJudged between (ListOut s ascending most j) s j r
unfolding ListJudged InnerJudged Numerals between
inner_judged s ascending most j (At i n) (d, ds, (m, (a, (p, c)))) = (d ∷ ds, ((m, a), (p, omega arith)))
inner_judged s ascending most j (Refused n i) f = f

pub list_judged : (s : List ℕ) (ascending : Bool) (most j v : ℕ)
    → InnerJudged between (ListOut s ascending most j) s j (then_list s ascending most (At j v)).read
unfolding InnerJudged then_list Numerals between
list_judged s ascending most j v =
    if_test (λ (x : ListRead). InnerJudged between (ListOut s ascending most j) s j x.read) (eqb (byte_at s j) 41) _ _
    ([], (tt, (span_nil s j, refl)))
    (inner_judged s ascending most j _ (numbers_judged (length s + 1) s ascending most 0 [] j))

abbrev SpacedOut : List ℕ → ℕ → ℕ → ℕ → Type 0
SpacedOut s most j i = (ns : List (List ℕ)) × (Numerals ns × (Span s j (spaced ns ++ 32 ∷ []) i × NumberOut s i 0 most))

-- A space before the first and behind the last is a space behind each, from behind the first space on.
pub spaced-trailed : (ns : List (List ℕ)) → 32 ∷ trailed ns ≡ spaced ns ++ 32 ∷ []
unfolding trailed spaced
spaced-trailed [] = refl
spaced-trailed (d ∷ ds) = rw (append_assoc d (spaced ds) (32 ∷ []), ← spaced-trailed ds)

pub least_zero : (ns : List (List ℕ)) → least_behind false 0 ns ≡ 0
unfolding least_behind
least_zero [] = refl
least_zero (d ∷ ds) = least_zero ds

spaced_inner : (s : List ℕ) (most j : ℕ) (r : Read) → byte_at s j ≡ 32 → ListJudged s false most 0 0 (j + 1) r
    → InnerJudged spaced (SpacedOut s most j) s j r
unfolding ListJudged InnerJudged Numerals spaced
spaced_inner s most j (At i n) e (d, ds, (m, (a, (p, c)))) =
    (d ∷ ds, ((m, a), (span_append (span_byte s j 32 e) p, omega arith)))
spaced_inner s most j (Refused n i) e f = λ h. let w = f h in (
  w.0,
  (
    w.1.0,
    (
      rw (spaced-trailed w.0) at (span_append (span_byte s j 32 e) w.1.1.0),
      rw
          (least_zero w.0) at w.1.1.1,
    ),
  ),
)

spaced_judged : (s : List ℕ) (most j v : ℕ)
    → InnerJudged spaced (SpacedOut s most j) s j (then_spaced_list s most (At j v)).read
unfolding InnerJudged then_spaced_list Numerals spaced
spaced_judged s most j v =
    if_known (λ (x : ListRead). InnerJudged spaced (SpacedOut s most j) s j x.read) (eqb (byte_at s j) 32) _ _
    (λ t. spaced_inner s most j _ (eqb-true (byte_at s j) 32 t)
    (numbers_judged (length s + 1) s false most 0 [] (j + 1)))
    (λ _. ([], (tt, (span_nil s j, refl))))

-- ---- Pieces

byte_not_ten : (s : List ℕ) (b k v i : ℕ) → then_byte s b (At k v) ≡ Refused 10 i → ⊥
unfolding then_byte
byte_not_ten s b k v i q =
    if_test (λ (r : Read). r ≡ Refused 10 i → ⊥) (eqb (byte_at s k) b) _ _ (λ e. not_at _ _ _ _ e) (λ e. not_ten k i e) q

pub piece_ten : (s : List ℕ) (p : Piece) (j v i : ℕ) → read_piece s p (At j v) ≡ Refused 10 i → TenIn p s j i
unfolding read_piece TenIn then_number then_byte Judged
piece_ten s (a_byte b) j v i q = byte_not_ten s b j v i q
piece_ten s (a_number least most b) j v i q = go (number_at s j least most) (number_judged s j least most) q
  where
    go : (r : Read) → Judged s j least most r → then_byte s b r ≡ Refused 10 i → (i ≡ j) × NumberOut s i least most
    go (At k w) g e = absurd (byte_not_ten s b k w i e)
    go (Refused n k) g e =
        let z : n ≡ 10 = cc in
        let w : k ≡ i = cc in
        let h = g z in
        let y : i ≡ j = sym w ∙ h.0 in
        (y, rw y h.1)
piece_ten s (list ascending most fewest fullest) j v i q =
    close_ten between (ListOut s ascending most j) s j fewest fullest i (then_list s ascending most (At j v)).read
    (list_judged s ascending most j v) q
piece_ten s (spaced_list most fewest fullest) j v i q =
    close_ten spaced (SpacedOut s most j) s j fewest fullest i (then_spaced_list s most (At j v)).read
    (spaced_judged s most j v) q
