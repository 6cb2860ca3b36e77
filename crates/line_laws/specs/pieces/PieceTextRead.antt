-- Where the text of a line's pieces stands up to some place, the reader reads on, or turns back by 10, or stands at
-- or behind that place.
use Rattle.std.specs.Prelude.{ℕ, zero, suc, ◌+◌, ◌≤◌, ◌<◌, ◌≡◌, refl, Bool, true, false, cond, ◌&&◌, List, [], ◌∷◌, ◌++◌, leb, eqb, length}
use Rattle.std.proofs.Common.{arith, add-zero, ap, inl, inr, append_assoc, length-append, ne_eqb}
use Rattle.rules.specs.Text.{byte_at}
use Rattle.rules.specs.reading.WordLaws.{if_byte}
use Rattle.rules.specs.reading.WordsAnswered.{StandsTo, known, stands_to_left, stands_to_right}
use Rattle.line_pieces.specs.Read.{Read, At, Refused}
use Rattle.codec.specs.Decimal.{is_digit}
use Rattle.line_pieces.specs.Number.{number_at}
use Rattle.line_pieces.specs.NumberLaws.{inside, digit_bounds}
use Rattle.line_pieces.specs.Reading.{then_byte, then_number}
use Rattle.line_pieces.specs.NumberList.{ListRead, after_number, numbers_at, all_numbers_at, then_list, then_spaced_list, then_close}
use Rattle.line_laws.specs.Grammar.{AllDigits, Numeral, Numerals, spaced, between, Piece, a_byte, a_number, list, spaced_list, PieceText, TextOf}
use Rattle.line_laws.specs.pieces.ReadPieces.{read_piece, read_pieces, place_in, if_test, numbers_from, piece_from, piece_stays}
use Rattle.line_laws.specs.pieces.NumberTextRead.{Behind, Near, byte_met, number_met}

-- ---- The first byte of a number

first_digit : (ds : List ℕ) → Numeral ds → (d : ℕ) × (es : List ℕ) × ((ds ≡ d ∷ es) × (is_digit d ≡ true))
unfolding AllDigits
first_digit [] n = absurd (omega (arith, n.some))
first_digit (d ∷ es) n = (d, es, (refl, n.all.0))

-- Where a number's text stands and place m is not reached, there is a digit.
digit_there : (m : ℕ) (s : List ℕ) (i : ℕ) (ds xs : List ℕ) → Numeral ds → StandsTo m s i (ds ++ xs) → i < m
    → is_digit (byte_at s i) ≡ true
unfolding AllDigits StandsTo
digit_there m s i [] xs n h l = absurd (omega (arith, n.some))
digit_there m s i (d ∷ es) xs n h l = rw (h.0 l) n.all.0

-- ---- A list

-- A further number at or behind place m, or none, leaves the reading there.
late_after : (m : ℕ) (s : List ℕ) (ascending : Bool) (left most : ℕ) (ns : List ℕ) (j v e : ℕ) → m ≤ j
    → Near m e (after_number s ascending (numbers_at left s ascending most) ns (At j v)).read
unfolding after_number place_in
late_after m s ascending left most ns j v e l =
    if_test (λ (x : ListRead). Near m e x.read) (eqb (byte_at s j) 32) _ _
    (let q = numbers_from left s ascending most (cond ascending (v + 1) 0) (ns ++ v ∷ []) (j + 1) in
    inr (inl (omega (arith, q, l)))) (inr (inl l))

behind_after : (m : ℕ) (s : List ℕ) (ascending : Bool) (left most : ℕ) (ns : List ℕ) (e : ℕ) (r : Read) → Behind m r
    → Near m e (after_number s ascending (numbers_at left s ascending most) ns r).read
unfolding after_number place_in
behind_after m s ascending left most ns e (At j v) (inl l) = late_after m s ascending left most ns j v e l
behind_after m s ascending left most ns e (At j v) (inr (i, q)) = let w : ◌≡◌ {A = ℕ} 0 1 = cc in absurd (omega arith)
behind_after m s ascending left most ns e (Refused n j) b = inr b

numbers_met : (left : ℕ) (m : ℕ) (s : List ℕ) (ascending : Bool) (most least : ℕ) (ns : List ℕ) (i : ℕ) (d : List ℕ)
    (ds : List (List ℕ))
    → Numeral d → Numerals ds → length s < i + left → StandsTo m s i (d ++ (spaced ds ++ 41 ∷ []))
    → Near m (i + length (d ++ spaced ds)) (numbers_at left s ascending most least ns i).read
unfolding numbers_at after_number Numerals spaced place_in StandsTo
numbers_met zero m s ascending most least ns i d ds n a f h =
    inr (inl (known m i (digit_there m s i d (spaced ds ++ 41 ∷ []) n h) (λ l. l)
    (λ e. let b = digit_bounds (byte_at s i) e in let p = inside s i (omega (arith, b.1)) in absurd (omega arith))))
numbers_met (suc left) m s ascending most least ns i d [] n a f h =
    go (number_at s i least most) (number_met m s i d 41 least most n refl h)
  where
    go : (r : Read) → Near m (i + length d) r
        → Near m (i + length (d ++ [])) (after_number s ascending (numbers_at left s ascending most) ns r).read
    go r (inr b) = behind_after m s ascending left most ns (i + length (d ++ [])) r b
    go r (inl (v, e)) =
        let j = i + length d in
        let same : j ≡ i + length (d ++ []) = omega (arith, length-append d []) in
        rw e (known m j (stands_to_right m s i d (41 ∷ []) h).0
        (λ l. late_after m s ascending left most ns j v (i + length (d ++ [])) l)
        (λ q. rw q (inl (length ns + 1, rw same))))
numbers_met (suc left) m s ascending most least ns i d (g ∷ gs) n a f h =
    let rest = (g ++ spaced gs) ++ 41 ∷ [] in
    go (number_at s i least most)
    (number_met m s i d 32 least most n refl
    (stands_to_left m s i (d ++ 32 ∷ []) rest (rw (append_assoc d (32 ∷ []) rest) h)))
    (λ (x : ℕ) (l : List ℕ) (j : ℕ) p q. numbers_met left m s ascending most x l j g gs a.0 a.1 p q)
  where
    go : (r : Read) → Near m (i + length d) r
        → ((x : ℕ) (l : List ℕ) (j : ℕ) → length s < j + left → StandsTo m s j (g ++ (spaced gs ++ 41 ∷ []))
        → Near m (j + length (g ++ spaced gs)) (numbers_at left s ascending most x l j).read)
        → Near m (i + length (d ++ 32 ∷ (g ++ spaced gs)))
        (after_number s ascending (numbers_at left s ascending most) ns r).read
    go r (inr b) further = behind_after m s ascending left most ns (i + length (d ++ 32 ∷ (g ++ spaced gs))) r b
    go r (inl (v, e)) further =
        let j = i + length d in
        let ends : j + 1 + length (g ++ spaced gs) ≡ i + length (d ++ 32 ∷ (g ++ spaced gs)) =
        omega (arith, length-append d (32 ∷ (g ++ spaced gs))) in
        let right = stands_to_right m s i d (32 ∷ ((g ++ spaced gs) ++ 41 ∷ [])) h in
        let more : StandsTo m s (j + 1) (g ++ (spaced gs ++ 41 ∷ [])) =
        rw (append_assoc g (spaced gs) (41 ∷ [])) at right.1 in
        let enough : length s < j + 1 + left = omega arith in
        rw e (known m j right.0
        (λ l. late_after m s ascending left most ns j v (i + length (d ++ 32 ∷ (g ++ spaced gs))) l)
        (λ q. rw q (rw (← ends) (further (cond ascending (v + 1) 0) (ns ++ v ∷ []) (j + 1) enough more))))

-- All the numbers, where a text of some stands.
all_met : (m : ℕ) (s : List ℕ) (ascending : Bool) (most i : ℕ) (d : List ℕ) (ds : List (List ℕ)) → Numeral d
    → Numerals ds
    → StandsTo m s i (d ++ (spaced ds ++ 41 ∷ []))
    → Near m (i + length (d ++ spaced ds)) (all_numbers_at s ascending most i).read
all_met m s ascending most i d ds n a h = numbers_met (length s + 1) m s ascending most 0 [] i d ds n a (omega arith) h

-- The closing bracket.
close_met : (m : ℕ) (s : List ℕ) (fewest fullest i : ℕ) (r : Read) → (i < m → byte_at s i ≡ 41) → Near m i r
    → Near m (i + 1) (then_close s fewest fullest r)
unfolding then_close place_in
close_met m s fewest fullest i r h (inl (v, e)) =
    rw e (if_byte (Near m (i + 1)) (byte_at s i) 41 _ (Refused 1 i)
    (λ _. if_test (Near m (i + 1)) (leb fewest v && leb v fullest) _ _ (inl (v, refl)) (inr (inr (i, refl))))
    (λ ne. inr (inl (known m i h (λ l. l) (λ q. absurd (ne q))))))
close_met m s fewest fullest i (At j n) h (inr (inl l)) =
    if_test (Near m (i + 1)) (eqb (byte_at s j) 41) _ _
    (if_test (Near m (i + 1)) (leb fewest n && leb n fullest) _ _ (inr (inl (omega arith))) (inr (inl l))) (inr (inl l))
close_met m s fewest fullest i (At j n) h (inr (inr (k, q))) = let w : ◌≡◌ {A = ℕ} 0 1 = cc in absurd (omega arith)
close_met m s fewest fullest i (Refused n j) h (inr b) = inr b

-- ---- The lists, from where they begin

-- At or behind place m either way.
list_late : (m : ℕ) (s : List ℕ) (ascending : Bool) (most i v e : ℕ) → m ≤ i
    → Near m e (then_list s ascending most (At i v)).read
unfolding then_list place_in
list_late m s ascending most i v e l =
    if_test (λ (x : ListRead). Near m e x.read) (eqb (byte_at s i) 41) _ _ (inr (inl l))
    (let q = numbers_from (length s + 1) s ascending most 0 [] i in inr (inl (omega (arith, q, l))))

list_met : (m : ℕ) (s : List ℕ) (ascending : Bool) (most i v : ℕ) (ns : List (List ℕ)) → Numerals ns
    → StandsTo m s i (between ns ++ 41 ∷ [])
    → Near m (i + length (between ns)) (then_list s ascending most (At i v)).read
unfolding then_list between Numerals StandsTo
list_met m s ascending most i v [] a h =
    known m i h.0 (λ l. list_late m s ascending most i v (i + 0) l) (λ e. rw e (inl (0, rw (add-zero i))))
list_met m s ascending most i v (d ∷ ds) a h =
    let h' : StandsTo m s i (d ++ (spaced ds ++ 41 ∷ [])) = rw (append_assoc d (spaced ds) (41 ∷ [])) at h in
    known m i (digit_there m s i d (spaced ds ++ 41 ∷ []) a.0 h')
    (λ l. list_late m s ascending most i v (i + length (d ++ spaced ds)) l)
    (λ q. let b = digit_bounds (byte_at s i) q in
    rw (ne_eqb (byte_at s i) 41 (λ e. omega (arith, b.0, e))) (all_met m s ascending most i d ds a.0 a.1 h'))

spaced_late : (m : ℕ) (s : List ℕ) (most i v e : ℕ) → m ≤ i → Near m e (then_spaced_list s most (At i v)).read
unfolding then_spaced_list place_in
spaced_late m s most i v e l =
    if_test (λ (x : ListRead). Near m e x.read) (eqb (byte_at s i) 32) _ _
    (let q = numbers_from (length s + 1) s false most 0 [] (i + 1) in inr (inl (omega (arith, q, l)))) (inr (inl l))

spaced_met : (m : ℕ) (s : List ℕ) (most i v : ℕ) (ns : List (List ℕ)) → Numerals ns
    → StandsTo m s i (spaced ns ++ 41 ∷ [])
    → Near m (i + length (spaced ns)) (then_spaced_list s most (At i v)).read
unfolding then_spaced_list spaced Numerals StandsTo
spaced_met m s most i v [] a h =
    known m i h.0 (λ l. spaced_late m s most i v (i + 0) l) (λ e. rw e (inl (0, rw (add-zero i))))
spaced_met m s most i v (d ∷ ds) a h =
    let h' : StandsTo m s (i + 1) (d ++ (spaced ds ++ 41 ∷ [])) = rw (append_assoc d (spaced ds) (41 ∷ [])) at h.1 in
    let ends : i + 1 + length (d ++ spaced ds) ≡ i + suc (length (d ++ spaced ds)) = omega arith in
    known m i h.0 (λ l. spaced_late m s most i v (i + suc (length (d ++ spaced ds))) l)
    (λ q. rw q (rw (← ends) (all_met m s false most (i + 1) d ds a.0 a.1 h')))

-- ---- A piece, and pieces one after the other

-- A piece whose own bytes are bytes, and whose number ends at its byte.
abbrev pub Ended : Piece → Type 0
Ended (a_byte b) = b < 256
Ended (a_number least most b) = (is_digit b ≡ false) × (b < 256)
Ended (list ascending most fewest fullest) = Unit {0}
Ended (spaced_list most fewest fullest) = Unit {0}

unfoldable pub AllEnded : List Piece → Type 0
AllEnded [] = Unit {0}
AllEnded (p ∷ ps) = Ended p × AllEnded ps

byte_near : (m : ℕ) (s : List ℕ) (b i : ℕ) (r : Read) → (i < m → byte_at s i ≡ b) → Near m i r
    → Near m (i + 1) (then_byte s b r)
unfolding then_byte place_in
byte_near m s b i r h (inl q) = byte_met m s b i r h q
byte_near m s b i (At j v) h (inr (inl l)) =
    if_test (Near m (i + 1)) (eqb (byte_at s j) b) _ _ (inr (inl (omega arith))) (inr (inl l))
byte_near m s b i (At j v) h (inr (inr (k, q))) = let w : ◌≡◌ {A = ℕ} 0 1 = cc in absurd (omega arith)
byte_near m s b i (Refused n j) h (inr q) = inr q

piece_read : (m : ℕ) (s : List ℕ) (p : Piece) (x : List ℕ) (i v : ℕ) → PieceText p x → Ended p → StandsTo m s i x
    → Near m (i + length x) (read_piece s p (At i v))
unfolding PieceText read_piece StandsTo then_number
piece_read m s (a_byte b) x i v e d h = let h' : StandsTo m s i (b ∷ []) = rw e at h in
    rw e (byte_met m s b i (At i v) h'.0 (v, refl))
piece_read m s (a_number least most b) x i v (ds, (n, e)) d h =
    let h' : StandsTo m s i (ds ++ b ∷ []) = rw e at h in
    let ends : i + length ds + 1 ≡ i + length x = omega (arith, ap length e, length-append ds (b ∷ [])) in
    rw (← ends) (byte_near m s b (i + length ds) _ (stands_to_right m s i ds (b ∷ []) h').0
    (number_met m s i ds b least most n d.0 h'))
piece_read m s (list ascending most fewest fullest) x i v (ns, (n, e)) d h =
    let h' : StandsTo m s i (between ns ++ 41 ∷ []) = rw e at h in
    let ends : i + length (between ns) + 1 ≡ i + length x =
    omega (arith, ap length e, length-append (between ns) (41 ∷ [])) in
    rw (← ends)
    (close_met m s fewest fullest (i + length (between ns)) _ (stands_to_right m s i (between ns) (41 ∷ []) h').0
    (list_met m s ascending most i v ns n h'))
piece_read m s (spaced_list most fewest fullest) x i v (ns, (n, e)) d h =
    let h' : StandsTo m s i (spaced ns ++ 41 ∷ []) = rw e at h in
    let ends : i + length (spaced ns) + 1 ≡ i + length x =
    omega (arith, ap length e, length-append (spaced ns) (41 ∷ [])) in
    rw (← ends)
    (close_met m s fewest fullest (i + length (spaced ns)) _ (stands_to_right m s i (spaced ns) (41 ∷ []) h').0
    (spaced_met m s most i v ns n h'))

behind_piece : (m : ℕ) (s : List ℕ) (p : Piece) (r : Read) → Behind m r → Behind m (read_piece s p r)
behind_piece m s p r (inl l) = inl (let q = piece_from s p r in omega (arith, q, l))
behind_piece m s p r (inr (j, q)) = inr (j, rw q (piece_stays s p 10 j))

piece_met : (m : ℕ) (s : List ℕ) (p : Piece) (x : List ℕ) (i : ℕ) (r : Read) → PieceText p x → Ended p
    → StandsTo m s i x → Near m i r
    → Near m (i + length x) (read_piece s p r)
piece_met m s p x i r t d h (inl (v, q)) = rw q (piece_read m s p x i v t d h)
piece_met m s p x i r t d h (inr b) = inr (behind_piece m s p r b)

pub pieces_met : (m : ℕ) (s : List ℕ) (ps : List Piece) (t : List ℕ) (i : ℕ) (r : Read) → TextOf ps t → AllEnded ps
    → StandsTo m s i t → Near m i r
    → Near m (i + length t) (read_pieces s ps r)
unfolding TextOf AllEnded read_pieces
pieces_met m s [] t i r e d h n = let same : i ≡ i + length t = omega (arith, ap length e) in rw (← same) n
pieces_met m s (p ∷ ps) t i r (x, y, (px, (ty, e))) d h n =
    let h' : StandsTo m s i (x ++ y) = rw e at h in
    let ends : i + length x + length y ≡ i + length t = omega (arith, ap length e, length-append x y) in
    rw (← ends)
    (pieces_met m s ps y (i + length x) (read_piece s p r) ty d.1 (stands_to_right m s i x y h')
    (piece_met m s p x i r px d.0 (stands_to_left m s i x y h') n))
