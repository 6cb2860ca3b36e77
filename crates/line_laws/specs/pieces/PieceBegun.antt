-- What the reader has passed are the first bytes of a text of the grammar: whole pieces where it stands, and with its
-- fault the beginning of one, up to the fault's place, and behind it where the fault is 10.
use Rattle.std.specs.Prelude.{ℕ, zero, suc, ◌+◌, ◌≤◌, ◌<◌, ◌≡◌, refl, Bool, true, false, cond, ◌&&◌, List, [], ◌∷◌, ◌++◌, leb, ltb, eqb, length, take, drop}
use Rattle.std.proofs.Common.{arith, sym, ◌∙◌, append_assoc, append-nil, length-append, take_all, take-add, eqb-true, eq-eqb, ltb-false}
use Rattle.std.proofs.lemmas.List.{take-append-le}
use Rattle.rules.specs.Text.{byte_at}
use Rattle.clocks.specs.stored.BoundedLaws.{and-true}
use Rattle.rules.specs.reading.WordLaws.{if_byte}
use Rattle.rules.specs.grammar.FirstBytes.{Begun, begun_inside, begun_next}
use Rattle.line_pieces.specs.Read.{Read, At, Refused}
use Rattle.codec.specs.Decimal.{is_digit, digits, value}
use Rattle.line_pieces.specs.Number.{number_of, number_at}
use Rattle.line_pieces.specs.NumberLaws.{digit_bounds, digits-first}
use Rattle.line_laws.specs.Grammar.{AllDigits, Numeral, Numerals, spaced, between, Piece, a_byte, a_number, list, spaced_list, PieceText, TextOf}
use Rattle.line_pieces.specs.Reading.{then_byte, then_number}
use Rattle.line_pieces.specs.NumberList.{ListRead, after_number, numbers_at, then_list, then_spaced_list, then_close}
use Rattle.line_laws.specs.pieces.ReadPieces.{if_test, read_piece, read_pieces, pieces_stay}
use Rattle.line_laws.specs.pieces.PieceTextRead.{Ended, AllEnded}
use Rattle.line_laws.specs.pieces.NumberTextRead.{if_known}

-- A line and a text have the same first e bytes.
pub record Met (s t : List ℕ) (e : ℕ) : Type 0 where
  pub inside : e ≤ length s
  pub within : e ≤ length t
  pub same : take e t ≡ take e s

-- How far a fault's bytes are those of the grammar.
unfoldable pub reach : ℕ → ℕ → ℕ
reach n i = cond (eqb n 10) (i + 1) i

pub met_of : {s t : List ℕ} {e : ℕ} → Begun s t e → Met s t e
met_of {s} {t} {e} b = record {
  inside = begun_inside b;
  within = omega (arith, b.ends);
  same = take_all e t (omega (arith, b.ends)) ∙ sym b.taken;
}

pub met_more : {s t : List ℕ} {e : ℕ} → Met s t e → (y : List ℕ) → Met s (t ++ y) e
met_more {s} {t} {e} m y = record {
  inside = m.inside;
  within = omega (arith, m.within, length-append t y);
  same = take-append-le e t y m.within ∙ m.same;
}

pub met_here : {s t : List ℕ} {e : ℕ} → Begun s t e → (y : List ℕ) → Met s (t ++ y) e
met_here b y = met_more (met_of b) y

-- ---- Digits

digits_prefix : (s : List ℕ) → take (length (digits s)) s ≡ digits s
unfolding digits
digits_prefix [] = refl
digits_prefix (c ∷ s) = go (is_digit c) (digits_prefix s)
  where
    go : (t : Bool) → take (length (digits s)) s ≡ digits s
        → take (length (cond t (c ∷ digits s) [])) (c ∷ s) ≡ cond t (c ∷ digits s) []
    go true h = rw h
    go false h = refl

pub digits-all : (s : List ℕ) → AllDigits (digits s)
unfolding digits AllDigits
digits-all [] = tt
digits-all (c ∷ s) = if_known AllDigits (is_digit c) (c ∷ digits s) [] (λ e. (e, digits-all s)) (λ _. tt)

begun-digits : {s bs : List ℕ} {i : ℕ} → Begun s bs i
    → Begun s (bs ++ digits (drop i s)) (i + length (digits (drop i s)))
begun-digits {s} {bs} {i} b = record {
  taken = take-add i (length (digits (drop i s))) s ∙ rw (b.taken, digits_prefix (drop i s));
  ends = omega (arith, b.ends, length-append bs (digits (drop i s)));
}

regroup : (a b c : List ℕ) → (a ++ (b ++ 32 ∷ [])) ++ c ≡ a ++ (b ++ 32 ∷ c)
regroup a b c = simp append_assoc

-- ---- A number

numeral-one : (d : ℕ) → is_digit d ≡ true → Numeral (d ∷ [])
unfolding AllDigits
numeral-one d h = record { some = omega arith; all = (h, tt); plain = λ _. refl }

-- What is left of a number: the number, or the beginning of one.
unfoldable pub NumberStood : List ℕ → List ℕ → Read → Type 0
NumberStood s bs (At j v) = (ds : List ℕ) × (Numeral ds × Begun s (bs ++ ds) j)
NumberStood s bs (Refused n j) = (ds : List ℕ) × (Numeral ds × Met s (bs ++ ds) (reach n j))

pub number_stood : (s bs : List ℕ) (i least most : ℕ) → Begun s bs i → NumberStood s bs (number_at s i least most)
unfolding number_at number_of AllDigits NumberStood reach
number_stood s bs i least most b = go (digits (drop i s)) refl
  where
    go : (ds : List ℕ) → digits (drop i s) ≡ ds → NumberStood s bs (number_of ds i least most)
    go [] e = (48 ∷ [], (numeral-one 48 refl, met_here b (48 ∷ [])))
    go (d ∷ ds) e =
        if_known (NumberStood s bs) (eqb d 48 && ltb 0 (length ds)) _ _
        (λ t. let p = and-true (eqb d 48) (ltb 0 (length ds)) t in
        let z : byte_at s i ≡ 48 = sym first ∙ eqb-true d 48 p.0 in
        (48 ∷ [], (numeral-one 48 refl, met_of (begun_next b z (omega arith)))))
        (λ t. if_test (NumberStood s bs) (leb least (value (d ∷ ds)) && leb (value (d ∷ ds)) most) _ _
        (d ∷ ds, (record { some = omega arith; all = all; plain = λ q. plain t q }, rw e at (begun-digits b))) (
          d ∷ [],
          (
            numeral-one d all.0,
            met_of
                (begun_next b (sym first) (omega (arith, (digit_bounds d all.0).1))),
          ),
        ))
      where
        first : d ≡ byte_at s i
        first = digits-first s i d ds e

        all : AllDigits (d ∷ ds)
        all = rw e at (digits-all (drop i s))

        plain : (eqb d 48 && ltb 0 (length ds)) ≡ false → d ≡ 48 → suc (length ds) ≡ 1
        plain h z =
            let k : eqb d 48 ≡ true = eq-eqb d 48 z in
            let l : ltb 0 (length ds) ≡ false = rw k at h in
            omega (arith, ltb-false 0 (length ds) l)

-- ---- A list of numbers

-- What is left of numbers with single spaces between: some numbers, or their beginning.
unfoldable pub NumbersStood : List ℕ → List ℕ → Read → Type 0
NumbersStood s bs (At j v) =
    (d : List ℕ) × (ds : List (List ℕ)) × (Numeral d × (Numerals ds × Begun s (bs ++ (d ++ spaced ds)) j))
NumbersStood s bs (Refused n j) =
    (d : List ℕ) × (ds : List (List ℕ)) × (Numeral d × (Numerals ds × Met s (bs ++ (d ++ spaced ds)) (reach n j)))

-- Behind a number and a space.
numbers_more : (s bs d : List ℕ) (r : Read) → Numeral d → NumbersStood s (bs ++ (d ++ 32 ∷ [])) r → NumbersStood s bs r
unfolding NumbersStood Numerals spaced
numbers_more s bs d (At j v) n (e, es, (m, (a, b))) =
    (d, e ∷ es, (n, ((m, a), rw (regroup bs d (e ++ spaced es)) at b)))
numbers_more s bs d (Refused k j) n (e, es, (m, (a, b))) =
    (d, e ∷ es, (n, ((m, a), rw (regroup bs d (e ++ spaced es)) at b)))

numbers_stood : (left : ℕ) (s bs : List ℕ) (ascending : Bool) (most least : ℕ) (ns : List ℕ) (i : ℕ) → Begun s bs i
    → NumbersStood s bs (numbers_at left s ascending most least ns i).read
unfolding numbers_at after_number NumberStood NumbersStood Numerals spaced reach
numbers_stood zero s bs ascending most least ns i b = (48 ∷ [], [], (numeral-one 48 refl, (tt, met_here b (48 ∷ []))))
numbers_stood (suc left) s bs ascending most least ns i b =
    go (number_at s i least most) (number_stood s bs i least most b)
    (λ (x : ℕ) (l : List ℕ) (j : ℕ) (cs : List ℕ) c. numbers_stood left s cs ascending most x l j c)
  where
    go : (r : Read) → NumberStood s bs r
        → ((x : ℕ) (l : List ℕ) (j : ℕ) (cs : List ℕ) → Begun s cs j
        → NumbersStood s cs (numbers_at left s ascending most x l j).read)
        → NumbersStood s bs (after_number s ascending (numbers_at left s ascending most) ns r).read
    go (Refused n j) (d, (m, q)) further = (d, [], (m, (tt, rw (append-nil d) q)))
    go (At j v) (d, (m, q)) further =
        if_byte (λ (x : ListRead). NumbersStood s bs x.read) (byte_at s j) 32 _ _
        (λ e. let x = cond ascending (v + 1) 0 in
        let l = ns ++ v ∷ [] in
        let c : Begun s (bs ++ (d ++ 32 ∷ [])) (j + 1) =
        rw (← append_assoc bs d (32 ∷ [])) (begun_next q e (omega arith)) in
        numbers_more s bs d (numbers_at left s ascending most x l (j + 1)).read m
        (further x l (j + 1) (bs ++ (d ++ 32 ∷ [])) c))
        (λ _. (d, [], (m, (tt, rw (append-nil d) q))))

-- ---- A piece

-- The text y that goes with a reading, closed by the byte b: the text with that byte, or its beginning.
unfoldable pub Stood : (List ℕ → Type 0) → List ℕ → List ℕ → Read → Type 0
Stood Text s bs (At j v) = (x : List ℕ) × (Text x × Begun s (bs ++ x) j)
Stood Text s bs (Refused n j) = (x : List ℕ) × (Text x × Met s (bs ++ x) (reach n j))

-- A byte behind a text.
stood_byte : (Text Text' : List ℕ → Type 0) (s bs : List ℕ) (b : ℕ) (r : Read) → b < 256
    → ((x : List ℕ) → Text x → Text' (x ++ b ∷ []))
    → Stood Text s bs r → Stood Text' s bs (then_byte s b r)
unfolding Stood then_byte reach
stood_byte Text Text' s bs b (At j v) small f (x, (t, q)) =
    if_byte (Stood Text' s bs) (byte_at s j) b _ _
    (λ e. (x ++ b ∷ [], (f x t, rw (← append_assoc bs x (b ∷ [])) (begun_next q e small))))
    (λ _. (x ++ b ∷ [], (f x t, rw (← append_assoc bs x (b ∷ [])) (met_here q (b ∷ [])))))
stood_byte Text Text' s bs b (Refused n j) small f (x, (t, q)) =
    (x ++ b ∷ [], (f x t, rw (← append_assoc bs x (b ∷ [])) (met_more q (b ∷ []))))

-- A list's closing bracket.
stood_close : (Text Text' : List ℕ → Type 0) (s bs : List ℕ) (fewest fullest : ℕ) (r : Read)
    → ((x : List ℕ) → Text x → Text' (x ++ 41 ∷ []))
    → Stood Text s bs r → Stood Text' s bs (then_close s fewest fullest r)
unfolding Stood then_close reach
stood_close Text Text' s bs fewest fullest (At j n) f (x, (t, q)) =
    if_byte (Stood Text' s bs) (byte_at s j) 41 _ _
    (λ e. let c : Begun s (bs ++ (x ++ 41 ∷ [])) (j + 1) =
    rw (← append_assoc bs x (41 ∷ [])) (begun_next q e (omega arith)) in
    if_test (Stood Text' s bs) (leb fewest n && leb n fullest) _ _ (x ++ 41 ∷ [], (f x t, c))
    (x ++ 41 ∷ [], (f x t, met_of c)))
    (λ _. (x ++ 41 ∷ [], (f x t, rw (← append_assoc bs x (41 ∷ [])) (met_here q (41 ∷ [])))))
stood_close Text Text' s bs fewest fullest (Refused n j) f (x, (t, q)) =
    (x ++ 41 ∷ [], (f x t, rw (← append_assoc bs x (41 ∷ [])) (met_more q (41 ∷ []))))

-- The texts of lists without their closing bracket.
abbrev Inner : List ℕ → Type 0
Inner x = (ns : List (List ℕ)) × (Numerals ns × (x ≡ between ns))

abbrev SpacedInner : List ℕ → Type 0
SpacedInner x = (ns : List (List ℕ)) × (Numerals ns × (x ≡ spaced ns))

inner_stood : (s bs : List ℕ) (r : Read) → NumbersStood s bs r → Stood Inner s bs r
unfolding NumbersStood Stood Numerals between
inner_stood s bs (At j v) (d, ds, (n, (a, q))) = (d ++ spaced ds, ((d ∷ ds, ((n, a), refl)), q))
inner_stood s bs (Refused m j) (d, ds, (n, (a, q))) = (d ++ spaced ds, ((d ∷ ds, ((n, a), refl)), q))

spaced_stood : (s bs : List ℕ) (r : Read) → NumbersStood s (bs ++ 32 ∷ []) r → Stood SpacedInner s bs r
unfolding NumbersStood Stood Numerals spaced
spaced_stood s bs (At j v) (d, ds, (n, (a, q))) =
    (32 ∷ (d ++ spaced ds), ((d ∷ ds, ((n, a), refl)), rw (append_assoc bs (32 ∷ []) (d ++ spaced ds)) at q))
spaced_stood s bs (Refused m j) (d, ds, (n, (a, q))) =
    (32 ∷ (d ++ spaced ds), ((d ∷ ds, ((n, a), refl)), rw (append_assoc bs (32 ∷ []) (d ++ spaced ds)) at q))

list_stood : (s bs : List ℕ) (ascending : Bool) (most i v : ℕ) → Begun s bs i
    → Stood Inner s bs (then_list s ascending most (At i v)).read
unfolding then_list Stood Numerals between
list_stood s bs ascending most i v b =
    if_test (λ (x : ListRead). Stood Inner s bs x.read) (eqb (byte_at s i) 41) _ _
    ([], (([], (tt, refl)), rw (append-nil bs) b))
    (inner_stood s bs _ (numbers_stood (length s + 1) s bs ascending most 0 [] i b))

spaced_list_stood : (s bs : List ℕ) (most i v : ℕ) → Begun s bs i
    → Stood SpacedInner s bs (then_spaced_list s most (At i v)).read
unfolding then_spaced_list Stood Numerals spaced
spaced_list_stood s bs most i v b =
    if_byte (λ (x : ListRead). Stood SpacedInner s bs x.read) (byte_at s i) 32 _ _
    (λ e. spaced_stood s bs _
    (numbers_stood (length s + 1) s (bs ++ 32 ∷ []) false most 0 [] (i + 1) (begun_next b e (omega arith))))
    (λ _. ([], (([], (tt, refl)), rw (append-nil bs) b)))

numeral_stood : (s bs : List ℕ) (r : Read) → NumberStood s bs r → Stood Numeral s bs r
unfolding NumberStood Stood
numeral_stood s bs (At j v) q = q
numeral_stood s bs (Refused n j) q = q

pub piece_stood : (s bs : List ℕ) (p : Piece) (i v : ℕ) → Ended p → Begun s bs i
    → Stood (PieceText p) s bs (read_piece s p (At i v))
unfolding read_piece PieceText then_number Stood
piece_stood s bs (a_byte b) i v d g =
    stood_byte (λ (x : List ℕ). x ≡ []) (λ (x : List ℕ). x ≡ b ∷ []) s bs b (At i v) d (λ x e. rw e) (here g)
  where
    here : Begun s bs i → Stood (λ (x : List ℕ). x ≡ []) s bs (At i v)
    here q = ([], (refl, rw (append-nil bs) q))
piece_stood s bs (a_number least most b) i v d g =
    stood_byte Numeral (PieceText (a_number least most b)) s bs b (number_at s i least most) d.1
    (λ x n. (x, (n, refl)))
    (numeral_stood s bs _ (number_stood s bs i least most g))
piece_stood s bs (list ascending most fewest fullest) i v d g =
    stood_close Inner (PieceText (list ascending most fewest fullest)) s bs fewest fullest
    (then_list s ascending most (At i v)).read
    (λ x t. (t.0, (t.1.0, rw t.1.1))) (list_stood s bs ascending most i v g)
piece_stood s bs (spaced_list most fewest fullest) i v d g =
    stood_close SpacedInner (PieceText (spaced_list most fewest fullest)) s bs fewest fullest
    (then_spaced_list s most (At i v)).read
    (λ x t. (t.0, (t.1.0, rw t.1.1))) (spaced_list_stood s bs most i v g)

-- ---- Pieces one after the other

-- Each piece has a text.
sample : (p : Piece) → (x : List ℕ) × PieceText p x
unfolding PieceText Numerals between spaced
sample (a_byte b) = (b ∷ [], refl)
sample (a_number least most b) = (48 ∷ b ∷ [], (48 ∷ [], (numeral-one 48 refl, refl)))
sample (list ascending most fewest fullest) = (41 ∷ [], ([], (tt, refl)))
sample (spaced_list most fewest fullest) = (41 ∷ [], ([], (tt, refl)))

samples : (ps : List Piece) → (x : List ℕ) × TextOf ps x
unfolding TextOf
samples [] = ([], refl)
samples (p ∷ ps) = ((sample p).0 ++ (samples ps).0, ((sample p).0, (samples ps).0, ((sample p).1, ((samples ps).1, refl))))

stood_behind : (s bs x : List ℕ) (p : Piece) (ps : List Piece) (r : Read) → PieceText p x
    → Stood (TextOf ps) s (bs ++ x) r → Stood (TextOf (p ∷ ps)) s bs r
unfolding Stood TextOf
stood_behind s bs x p ps (At j v) t (y, (u, q)) = (x ++ y, ((x, y, (t, (u, refl))), rw (append_assoc bs x y) at q))
stood_behind s bs x p ps (Refused n j) t (y, (u, q)) = (x ++ y, ((x, y, (t, (u, refl))), rw (append_assoc bs x y) at q))

pub pieces_stood : (s bs : List ℕ) (ps : List Piece) (i v : ℕ) → AllEnded ps → Begun s bs i
    → Stood (TextOf ps) s bs (read_pieces s ps (At i v))
unfolding Stood TextOf AllEnded read_pieces
pieces_stood s bs [] i v d g = ([], (refl, rw (append-nil bs) g))
pieces_stood s bs (p ∷ ps) i v d g =
    go (read_piece s p (At i v)) (piece_stood s bs p i v d.0 g)
    (λ (cs : List ℕ) (j w : ℕ) c. pieces_stood s cs ps j w d.1 c)
  where
    go : (r : Read) → Stood (PieceText p) s bs r
        → ((cs : List ℕ) (j w : ℕ) → Begun s cs j → Stood (TextOf ps) s cs (read_pieces s ps (At j w)))
        → Stood (TextOf (p ∷ ps)) s bs (read_pieces s ps r)
    go (At j w) (x, (t, q)) further = stood_behind s bs x p ps (read_pieces s ps (At j w)) t (further (bs ++ x) j w q)
    go (Refused n j) (x, (t, q)) further =
        rw (pieces_stay s ps n j)
        (stood_behind s bs x p ps (Refused n j) t ((samples ps).0, ((samples ps).1, met_more q (samples ps).0)))
