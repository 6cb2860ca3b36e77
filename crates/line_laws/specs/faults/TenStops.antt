-- Where a piece has a fault by 10, the reader turns it back there or before; where a piece's text stands, it reads it
-- or turns it back within.
use Rattle.std.specs.Prelude.{ℕ, zero, suc, ◌+◌, ◌≤◌, ◌<◌, ◌≡◌, refl, Bool, true, false, cond, ◌&&◌, ◌⊎◌, List, [], ◌∷◌, ◌++◌, leb, length, drop}
use Rattle.std.proofs.Common.{arith, add-zero, sym, ap, ◌∙◌, inl, inr, append_assoc, length-append, eq-eqb, ne_eqb}
use Rattle.std.proofs.lemmas.Bool.{lt-leb}
use Rattle.rules.specs.Text.{byte_at}
use Rattle.rules.specs.Fault.{StandsAt, Span}
use Rattle.rules.specs.reading.WordLaws.{span_byte, span_append}
use Rattle.line_pieces.specs.Read.{Read, At, Refused}
use Rattle.codec.specs.Decimal.{is_digit, digits, value}
use Rattle.line_pieces.specs.Number.{number_of, number_at}
use Rattle.line_pieces.specs.NumberLaws.{inside, digit_bounds, digits_next, digits-end}
use Rattle.line_pieces.specs.Reading.{then_byte, then_number}
use Rattle.line_pieces.specs.NumberList.{after_number, numbers_at, all_numbers_at, then_list, then_spaced_list, then_close}
use Rattle.line_laws.specs.Grammar.{AllDigits, Numeral, Numerals, spaced, between, Piece, a_byte, a_number, list, spaced_list, PieceText}
use Rattle.line_laws.specs.Fault.{NumberOut, trailed, least_behind, TenIn}
use Rattle.line_laws.specs.pieces.ReadPieces.{if_test, read_piece}
use Rattle.line_laws.specs.pieces.NumberTextRead.{plain-test}
use Rattle.line_laws.specs.faults.TenIsFault.{spaced-trailed, least_zero}
use Rattle.line_laws.specs.pieces.PieceTextRead.{Ended}

-- Turned back at place i or before, or strictly before.
abbrev pub Stops : ℕ → Read → Type 0
Stops i r = (n : ℕ) × (k : ℕ) × ((r ≡ Refused n k) × (k ≤ i))

abbrev pub StopsBefore : ℕ → Read → Type 0
StopsBefore e r = (n : ℕ) × (k : ℕ) × ((r ≡ Refused n k) × (k < e))

-- ---- Numbers

-- Digits that stand before another byte are all the digits there.
pub exact_digits : (s : List ℕ) (ds : List ℕ) (i c : ℕ) (xs : List ℕ) → AllDigits ds → is_digit c ≡ false
    → StandsAt s i (ds ++ c ∷ xs) → digits (drop i s) ≡ ds
unfolding AllDigits StandsAt
exact_digits s [] i c xs a q h = digits-end s i (rw h.0 q)
exact_digits s (d ∷ ds) i c xs a q h =
    digits_next s i (rw h.0 a.0) ∙ rw (h.0, exact_digits s ds (i + 1) c xs a.1 q h.1)

-- A number that is out of its limits is turned back at its first digit.
numeral_out : (ds : List ℕ) (i least most : ℕ) → Numeral ds → (value ds < least) ⊎ (most < value ds)
    → number_of ds i least most ≡ Refused 10 i
unfolding number_of
numeral_out [] i least most n o = absurd (omega (arith, n.some))
numeral_out (d ∷ ds) i least most n (inl o) = rw (plain-test d ds n, lt-leb least (value (d ∷ ds)) o)
numeral_out (d ∷ ds) i least most n (inr o) =
    rw (plain-test d ds n, lt-leb (value (d ∷ ds)) most o) (go (leb least (value (d ∷ ds))))
  where
    go : (b : Bool) → cond (b && false) (At (i + suc (length ds)) (value (d ∷ ds))) (Refused 10 i) ≡ Refused 10 i
    go true = refl
    go false = refl

pub number_stops : (s : List ℕ) (i least most : ℕ) → NumberOut s i least most → number_at s i least most ≡ Refused 10 i
unfolding number_at NumberOut
number_stops s i least most (n, o) = numeral_out (digits (drop i s)) i least most n o

-- A number's text is read, or turned back at its first digit.
numeral_judged : (ds : List ℕ) (i least most : ℕ) → Numeral ds
    → (number_of ds i least most ≡ At (i + length ds) (value ds)) ⊎ (number_of ds i least most ≡ Refused 10 i)
unfolding number_of
numeral_judged [] i least most n = absurd (omega (arith, n.some))
numeral_judged (d ∷ ds) i least most n =
    rw (plain-test d ds n)
    (if_test (λ (r : Read). (r ≡ At (i + length (d ∷ ds)) (value (d ∷ ds))) ⊎ (r ≡ Refused 10 i))
    (leb least (value (d ∷ ds)) && leb (value (d ∷ ds)) most) _ _
    (inl refl) (inr refl))

pub number_passes : (s : List ℕ) (ds : List ℕ) (i c : ℕ) (xs : List ℕ) (least most : ℕ) → Numeral ds
    → is_digit c ≡ false → StandsAt s i (ds ++ c ∷ xs)
    → (number_at s i least most ≡ At (i + length ds) (value ds)) ⊎ (number_at s i least most ≡ Refused 10 i)
unfolding number_at
number_passes s ds i c xs least most n q h =
    rw (exact_digits s ds i c xs n.all q h) (numeral_judged ds i least most n)

-- ---- Lists

-- A text in two parts.
pub stands_left : (s : List ℕ) (i : ℕ) (xs ys : List ℕ) → StandsAt s i (xs ++ ys) → StandsAt s i xs
unfolding StandsAt
stands_left s i [] ys h = tt
stands_left s i (x ∷ xs) ys h = (h.0, stands_left s (i + 1) xs ys h.1)

pub stands_right : (s : List ℕ) (i : ℕ) (xs ys : List ℕ) → StandsAt s i (xs ++ ys) → StandsAt s (i + length xs) ys
unfolding StandsAt
stands_right s i [] ys h = rw (add-zero i) h
stands_right s i (x ∷ xs) ys h = let z : i + 1 + length xs ≡ i + suc (length xs) = omega arith in
    rw (← z) (stands_right s (i + 1) xs ys h.1)

pub first_inside : (s : List ℕ) (i : ℕ) (ds xs : List ℕ) → Numeral ds → StandsAt s i (ds ++ xs) → i < length s
unfolding AllDigits StandsAt
first_inside s i [] xs n h = absurd (omega (arith, n.some))
first_inside s i (d ∷ ds) xs n h = let b = digit_bounds d n.all.0 in inside s i (omega (arith, h.0, b.1))

-- Behind numbers with a space behind each the reader stands where the next is due, with what it may be at least; or
-- it has stopped.
pub record Due (s : List ℕ) (ascending : Bool) (most least i : ℕ) (count : ℕ) (r : Read) : Type 0 where
  pub left : ℕ
  pub before : List ℕ
  pub goes : r ≡ (numbers_at left s ascending most least before i).read
  pub enough : length s < i + left
  pub counted : length before ≡ count

pub trailed_due : (ns : List (List ℕ)) (left : ℕ) (s : List ℕ) (ascending : Bool) (most least : ℕ) (acc : List ℕ)
    (j : ℕ) → Numerals ns
    → length s < j + left → StandsAt s j (trailed ns)
    → StopsBefore (j + length (trailed ns)) (numbers_at left s ascending most least acc j).read
    ⊎ Due s ascending most (least_behind ascending least ns) (j + length (trailed ns)) (length acc + length ns)
    (numbers_at left s ascending most least acc j).read
unfolding trailed Numerals least_behind numbers_at after_number StandsAt
trailed_due [] left s ascending most least acc j a f h =
    inr (record { left = left; before = acc; goes = rw (add-zero j); enough = omega arith; counted = omega arith })
trailed_due (d ∷ ds) zero s ascending most least acc j a f h =
    absurd (let p = first_inside s j d (32 ∷ trailed ds) a.0 h in omega (arith, p))
trailed_due (d ∷ ds) (suc left) s ascending most least acc j a f h =
    go (number_at s j least most) (number_passes s d j 32 (trailed ds) least most a.0 refl h)
    (λ (x : ℕ) (l : List ℕ) (e : ℕ) p q. trailed_due ds left s ascending most x l e a.1 p q)
  where
    right : StandsAt s (j + length d) (32 ∷ trailed ds)
    right = stands_right s j d (32 ∷ trailed ds) h

    total : j + length d + 1 + length (trailed ds) ≡ j + length (d ++ 32 ∷ trailed ds)
    total = omega (arith, length-append d (32 ∷ trailed ds))

    go : (r : Read) → (r ≡ At (j + length d) (value d)) ⊎ (r ≡ Refused 10 j)
        → ((x : ℕ) (l : List ℕ) (e : ℕ) → length s < e + left → StandsAt s e (trailed ds)
        → StopsBefore (e + length (trailed ds)) (numbers_at left s ascending most x l e).read
        ⊎ Due s ascending most (least_behind ascending x ds) (e + length (trailed ds)) (length l + length ds)
        (numbers_at left s ascending most x l e).read)
        → StopsBefore (j + length (d ++ 32 ∷ trailed ds))
        (after_number s ascending (numbers_at left s ascending most) acc r).read
        ⊎ Due s ascending most (least_behind ascending (cond ascending (value d + 1) 0) ds)
        (j + length (d ++ 32 ∷ trailed ds)) (length acc + suc (length ds))
        (after_number s ascending (numbers_at left s ascending most) acc r).read
    go r (inr e) further = rw e (inl (10, j, (refl, omega (arith, length-append d (32 ∷ trailed ds)))))
    go r (inl e) further =
        let count : length (acc ++ value d ∷ []) + length ds ≡ length acc + suc (length ds) =
        omega (arith, length-append acc (value d ∷ [])) in
        rw (e, right.0, ← total, ← count)
        (further (cond ascending (value d + 1) 0) (acc ++ value d ∷ []) (j + length d + 1) (omega arith) right.1)

-- Numbers with spaces between and the closing bracket behind them are all read and counted; or it has stopped.
between_read : (ds : List (List ℕ)) (left : ℕ) (s : List ℕ) (ascending : Bool) (most least : ℕ) (acc : List ℕ) (j : ℕ)
    (d : List ℕ) → Numeral d → Numerals ds
    → length s < j + left → StandsAt s j (d ++ (spaced ds ++ 41 ∷ []))
    → StopsBefore (j + length (d ++ spaced ds)) (numbers_at left s ascending most least acc j).read
    ⊎ ((numbers_at left s ascending most least acc j).read
    ≡ At (j + length (d ++ spaced ds)) (length acc + suc (length ds)))
unfolding spaced Numerals numbers_at after_number StandsAt
between_read ds zero s ascending most least acc j d n a f h =
    absurd (let p = first_inside s j d (spaced ds ++ 41 ∷ []) n h in omega (arith, p))
between_read [] (suc left) s ascending most least acc j d n a f h =
    go (number_at s j least most) (number_passes s d j 41 [] least most n refl h)
  where
    same : j + length d ≡ j + length (d ++ [])
    same = omega (arith, length-append d [])

    go : (r : Read) → (r ≡ At (j + length d) (value d)) ⊎ (r ≡ Refused 10 j)
        → StopsBefore (j + length (d ++ [])) (after_number s ascending (numbers_at left s ascending most) acc r).read
        ⊎ ((after_number s ascending (numbers_at left s ascending most) acc r).read
        ≡ At (j + length (d ++ [])) (length acc + 1))
    go r (inr e) = rw e (inl (10, j, (refl, omega (arith, n.some, length-append d []))))
    go r (inl e) = rw (e, (stands_right s j d (41 ∷ []) h).0) (inr (rw same))
between_read (g ∷ gs) (suc left) s ascending most least acc j d n a f h =
    go (number_at s j least most) (number_passes s d j 32 ((g ++ spaced gs) ++ 41 ∷ []) least most n refl h)
    (λ (x : ℕ) (l : List ℕ) (e : ℕ) p q. between_read gs left s ascending most x l e g a.0 a.1 p q)
  where
    right : StandsAt s (j + length d) (32 ∷ ((g ++ spaced gs) ++ 41 ∷ []))
    right = stands_right s j d (32 ∷ ((g ++ spaced gs) ++ 41 ∷ [])) h

    total : j + length d + 1 + length (g ++ spaced gs) ≡ j + length (d ++ 32 ∷ (g ++ spaced gs))
    total = omega (arith, length-append d (32 ∷ (g ++ spaced gs)))

    go : (r : Read) → (r ≡ At (j + length d) (value d)) ⊎ (r ≡ Refused 10 j)
        → ((x : ℕ) (l : List ℕ) (e : ℕ) → length s < e + left → StandsAt s e (g ++ (spaced gs ++ 41 ∷ []))
        → StopsBefore (e + length (g ++ spaced gs)) (numbers_at left s ascending most x l e).read
        ⊎ ((numbers_at left s ascending most x l e).read ≡ At (e + length (g ++ spaced gs)) (length l + suc (length gs))))
        → StopsBefore (j + length (d ++ 32 ∷ (g ++ spaced gs)))
        (after_number s ascending (numbers_at left s ascending most) acc r).read
        ⊎ ((after_number s ascending (numbers_at left s ascending most) acc r).read
        ≡ At (j + length (d ++ 32 ∷ (g ++ spaced gs))) (length acc + suc (suc (length gs))))
    go r (inr e) further = rw e (inl (10, j, (refl, omega (arith, length-append d (32 ∷ (g ++ spaced gs))))))
    go r (inl e) further =
        let count : length (acc ++ value d ∷ []) + suc (length gs) ≡ length acc + suc (suc (length gs)) =
        omega (arith, length-append acc (value d ∷ [])) in
        rw (e, right.0, ← total, ← count)
        (further (cond ascending (value d + 1) 0) (acc ++ value d ∷ []) (j + length d + 1) (omega arith)
        (rw (append_assoc g (spaced gs) (41 ∷ [])) at right.1))

all-run : (s : List ℕ) (ascending : Bool) (most j : ℕ) (d : List ℕ) (ds : List (List ℕ)) → Numeral d → Numerals ds
    → StandsAt s j (d ++ (spaced ds ++ 41 ∷ []))
    → StopsBefore (j + length (d ++ spaced ds)) (all_numbers_at s ascending most j).read
    ⊎ ((all_numbers_at s ascending most j).read ≡ At (j + length (d ++ spaced ds)) (suc (length ds)))
all-run s ascending most j d ds n a h =
    let z : 0 + suc (length ds) ≡ suc (length ds) = omega arith in
    rw (← z) (between_read ds (length s + 1) s ascending most 0 [] j d n a (omega arith) h)

-- A list read to its closing bracket, counted; or it has stopped.
abbrev Ran : ℕ → ℕ → Read → Type 0
Ran e n r = StopsBefore e r ⊎ (r ≡ At e n)

list-run : (s : List ℕ) (ascending : Bool) (most j v : ℕ) (ns : List (List ℕ)) → Numerals ns
    → StandsAt s j (between ns ++ 41 ∷ [])
    → Ran (j + length (between ns)) (length ns) (then_list s ascending most (At j v)).read
unfolding then_list between Numerals StandsAt AllDigits
list-run s ascending most j v [] a h = rw h.0 (inr (rw (add-zero j)))
list-run s ascending most j v (d ∷ ds) a h =
    let h' : StandsAt s j (d ++ (spaced ds ++ 41 ∷ [])) = rw (append_assoc d (spaced ds) (41 ∷ [])) at h in
    rw (ne_eqb (byte_at s j) 41 (λ e. bracket d a.0 (spaced ds ++ 41 ∷ []) h' e))
    (all-run s ascending most j d ds a.0 a.1 h')
  where
    bracket : (xs : List ℕ) → Numeral xs → (ys : List ℕ) → StandsAt s j (xs ++ ys) → byte_at s j ≡ 41 → ⊥
    bracket [] n ys q e = omega (arith, n.some)
    bracket (x ∷ xs) n ys q e = let b = digit_bounds x n.all.0 in omega (arith, b.0, q.0)

spaced-run : (s : List ℕ) (most j v : ℕ) (ns : List (List ℕ)) → Numerals ns → StandsAt s j (spaced ns ++ 41 ∷ [])
    → Ran (j + length (spaced ns)) (length ns) (then_spaced_list s most (At j v)).read
unfolding then_spaced_list spaced Numerals StandsAt
spaced-run s most j v [] a h = rw h.0 (inr (rw (add-zero j)))
spaced-run s most j v (d ∷ ds) a h =
    let h' : StandsAt s (j + 1) (d ++ (spaced ds ++ 41 ∷ [])) = rw (append_assoc d (spaced ds) (41 ∷ [])) at h.1 in
    let z : j + 1 + length (d ++ spaced ds) ≡ j + suc (length (d ++ spaced ds)) = omega arith in
    rw (h.0, ← z) (all-run s false most (j + 1) d ds a.0 a.1 h')

-- The closing bracket of a list that was read, or of one that has stopped.
close_run : (s : List ℕ) (fewest fullest e n : ℕ) (r : Read) → byte_at s e ≡ 41 → Ran e n r
    → ((w : ℕ) × (then_close s fewest fullest r ≡ At (e + 1) w)) ⊎ StopsBefore (e + 1) (then_close s fewest fullest r)
unfolding then_close
close_run s fewest fullest e n r h (inl (m, k, (q, l))) = rw q (inr (m, k, (refl, omega arith)))
close_run s fewest fullest e n r h (inr q) =
    rw (q, h) (if_test (λ (x : Read). ((w : ℕ) × (x ≡ At (e + 1) w)) ⊎ StopsBefore (e + 1) x)
    (leb fewest n && leb n fullest) _ _
    (inl (n, refl)) (inr (10, e, (refl, omega arith))))

close_stops : (s : List ℕ) (fewest fullest e n : ℕ) (r : Read) → byte_at s e ≡ 41 → (n < fewest) ⊎ (fullest < n)
    → Ran e n r
    → Stops e (then_close s fewest fullest r)
unfolding then_close
close_stops s fewest fullest e n r h o (inl (m, k, (q, l))) = rw q (m, k, (refl, omega arith))
close_stops s fewest fullest e n r h (inl o) (inr q) = rw (q, h, lt-leb fewest n o) (10, e, (refl, omega arith))
close_stops s fewest fullest e n r h (inr o) (inr q) = rw (q, h, lt-leb n fullest o) (go (leb fewest n))
  where
    go : (b : Bool) → Stops e (cond (b && false) (At (e + 1) n) (Refused 10 e))
    go true = (10, e, (refl, omega arith))
    go false = (10, e, (refl, omega arith))

close_stays : (s : List ℕ) (fewest fullest i : ℕ) (r : Read) → Stops i r → Stops i (then_close s fewest fullest r)
unfolding then_close
close_stays s fewest fullest i r (m, k, (q, l)) = rw q (m, k, (refl, l))

-- A number out of its limits, behind numbers with a space behind each.
due_stops : (s : List ℕ) (ascending : Bool) (most least i count : ℕ) (r : Read) → NumberOut s i least most
    → Due s ascending most least i count r → Stops i r
unfolding numbers_at after_number
due_stops s ascending most least i count r o u = go u.left u.goes
  where
    go : (left : ℕ) → r ≡ (numbers_at left s ascending most least u.before i).read → Stops i r
    go zero q = (1, i, (q, omega arith))
    go (suc left) q = (10, i, (q ∙ rw (number_stops s i least most o), omega arith))

-- A digit begins a number that is out.
out_digit : (s : List ℕ) (i least most : ℕ) → NumberOut s i least most → is_digit (byte_at s i) ≡ true
unfolding NumberOut
out_digit s i least most (n, o) = go (is_digit (byte_at s i)) refl
  where
    go : (t : Bool) → is_digit (byte_at s i) ≡ t → t ≡ true
    go true e = refl
    go false e = absurd (omega (arith, n.some, ap length (digits-end s i e)))

digit_first : (s : List ℕ) (j : ℕ) (d xs : List ℕ) → Numeral d → StandsAt s j (d ++ xs) → is_digit (byte_at s j) ≡ true
unfolding StandsAt AllDigits
digit_first s j [] xs n h = absurd (omega (arith, n.some))
digit_first s j (x ∷ d) xs n h = rw h.0 n.all.0

trailed_digit : (s : List ℕ) (j i least most : ℕ) (ns : List (List ℕ)) → Numerals ns → Span s j (trailed ns) i
    → NumberOut s i least most
    → is_digit (byte_at s j) ≡ true
unfolding trailed Numerals
trailed_digit s j i least most [] a p o = let z : j ≡ i = omega (arith, p.ends) in rw z (out_digit s i least most o)
trailed_digit s j i least most (d ∷ ds) a p o = digit_first s j d (32 ∷ trailed ds) a.0 p.stands

trailed_stops : (s : List ℕ) (ascending : Bool) (most j i : ℕ) (ns : List (List ℕ)) → Numerals ns
    → Span s j (trailed ns) i
    → NumberOut s i (least_behind ascending 0 ns) most → Stops i (all_numbers_at s ascending most j).read
trailed_stops s ascending most j i ns a p o =
    go (trailed_due ns (length s + 1) s ascending most 0 [] j a (omega arith) p.stands)
  where
    ends : j + length (trailed ns) ≡ i
    ends = sym p.ends

    R : Read
    R = (all_numbers_at s ascending most j).read

    go : StopsBefore (j + length (trailed ns)) R
        ⊎ Due s ascending most (least_behind ascending 0 ns) (j + length (trailed ns))
        (length {A = ℕ} [] + length ns) R → Stops i R
    go (inl (n, k, (q, l))) = (n, k, (q, omega arith))
    go (inr u) = due_stops s ascending most (least_behind ascending 0 ns) i _ R o (rw ends at u)

-- ---- Pieces

span_then : (s : List ℕ) (j i b : ℕ) (x : List ℕ) → Span s j x i → byte_at s i ≡ b → StandsAt s j (x ++ b ∷ [])
span_then s j i b x p e = (span_append p (span_byte s i b e)).stands

pub piece_stops : (s : List ℕ) (p : Piece) (j v i : ℕ) → TenIn p s j i → Stops i (read_piece s p (At j v))
unfolding TenIn read_piece then_number then_byte then_list then_spaced_list StandsAt
piece_stops s (a_byte b) j v i t = absurd t
piece_stops s (a_number least most b) j v i (e, o) = let q : number_at s j least most ≡ Refused 10 j =
    number_stops s j least most (rw e at o) in
    rw q (10, j, (refl, omega arith))
piece_stops s (list ascending most fewest fullest) j v i (inl (ns, (a, (p, o)))) =
    close_stays s fewest fullest i (then_list s ascending most (At j v)).read
    (rest (trailed_stops s ascending most j i ns a p o))
  where
    rest : Stops i (all_numbers_at s ascending most j).read → Stops i (then_list s ascending most (At j v)).read
    rest q =
        let b = digit_bounds (byte_at s j) (trailed_digit s j i (least_behind ascending 0 ns) most ns a p o) in
        rw (ne_eqb (byte_at s j) 41 (λ e. omega (arith, b.0, e))) q
piece_stops s (list ascending most fewest fullest) j v i (inr (ns, (a, (p, (h, m))))) =
    close_stops s fewest fullest i (length ns) (then_list s ascending most (At j v)).read h m
    (rw p.ends (list-run s ascending most j v ns a (span_then s j i 41 (between ns) p h)))
piece_stops s (spaced_list most fewest fullest) j v i (inl (ns, (a, (p, o)))) =
    let p' : Span s j (32 ∷ trailed ns) i = rw (← spaced-trailed ns) at p in
    let inner : Span s (j + 1) (trailed ns) i = record { stands = p'.stands.1; ends = omega (arith, p'.ends) } in
    let q : Stops i (all_numbers_at s false most (j + 1)).read =
    trailed_stops s false most (j + 1) i ns a inner (rw (least_zero ns) o) in
    close_stays s fewest fullest i (then_spaced_list s most (At j v)).read (rw p'.stands.0 q)
piece_stops s (spaced_list most fewest fullest) j v i (inr (ns, (a, (p, (h, m))))) =
    close_stops s fewest fullest i (length ns) (then_spaced_list s most (At j v)).read h m
    (rw p.ends (spaced-run s most j v ns a (span_then s j i 41 (spaced ns) p h)))

-- A text of a piece is read to its end, or turned back within.
unfoldable pub Passes : ℕ → Read → Type 0
Passes e r = ((w : ℕ) × (r ≡ At e w)) ⊎ StopsBefore e r

pub piece_passes : (s : List ℕ) (p : Piece) (x : List ℕ) (j v e : ℕ) → PieceText p x → Ended p → Span s j x e
    → Passes e (read_piece s p (At j v))
unfolding PieceText read_piece then_number then_byte StandsAt Passes
piece_passes s (a_byte b) x j v e t d p =
    let p' : Span s j (b ∷ []) e = rw t at p in
    let z : e ≡ j + 1 = p'.ends in
    rw (z, eq-eqb (byte_at s j) b p'.stands.0) (inl (v, refl))
piece_passes s (a_number least most b) x j v e (ds, (n, t)) d p =
    go (number_at s j least most) (number_passes s ds j b [] least most n d.0 p'.stands)
  where
    p' : Span s j (ds ++ b ∷ []) e
    p' = rw t at p

    z : e ≡ j + length ds + 1
    z = omega (arith, p'.ends, length-append ds (b ∷ []))

    go : (r : Read) → (r ≡ At (j + length ds) (value ds)) ⊎ (r ≡ Refused 10 j) → Passes e (then_byte s b r)
    go r (inl q) = rw (q, eq-eqb (byte_at s (j + length ds)) b (stands_right s j ds (b ∷ []) p'.stands).0, z)
        (inl (value ds, refl))
    go r (inr q) = rw q (inr (10, j, (refl, omega (arith, z))))
piece_passes s (list ascending most fewest fullest) x j v e (ns, (n, t)) d p =
    let p' : Span s j (between ns ++ 41 ∷ []) e = rw t at p in
    let z : e ≡ j + length (between ns) + 1 = omega (arith, p'.ends, length-append (between ns) (41 ∷ [])) in
    let h : byte_at s (j + length (between ns)) ≡ 41 = (stands_right s j (between ns) (41 ∷ []) p'.stands).0 in
    rw z (close_run s fewest fullest (j + length (between ns)) (length ns)
    (then_list s ascending most (At j v)).read h (list-run s ascending most j v ns n p'.stands))
piece_passes s (spaced_list most fewest fullest) x j v e (ns, (n, t)) d p =
    let p' : Span s j (spaced ns ++ 41 ∷ []) e = rw t at p in
    let z : e ≡ j + length (spaced ns) + 1 = omega (arith, p'.ends, length-append (spaced ns) (41 ∷ [])) in
    let h : byte_at s (j + length (spaced ns)) ≡ 41 = (stands_right s j (spaced ns) (41 ∷ []) p'.stands).0 in
    rw z (close_run s fewest fullest (j + length (spaced ns)) (length ns) (then_spaced_list s most (At j v)).read h
    (spaced-run s most j v ns n p'.stands))
