-- A line's pieces as the reader reads them: no fault stands before the place where a piece begins, and a fault stays.
use Rattle.std.specs.Prelude.{ℕ, zero, suc, ◌+◌, ◌≤◌, ◌≡◌, refl, Bool, true, false, cond, ◌&&◌, ◌⊎◌, List, [], ◌∷◌, ◌++◌, leb, ltb, eqb, length, drop}
use Rattle.std.proofs.Common.{arith, inl, inr}
use Rattle.rules.specs.Text.{byte_at}
use Rattle.line_pieces.specs.Read.{Read, At, Refused}
use Rattle.codec.specs.Decimal.{digits, value}
use Rattle.line_pieces.specs.Number.{number_of, number_at}
use Rattle.line_pieces.specs.Reading.{then_byte, then_number}
use Rattle.line_pieces.specs.NumberList.{ListRead, after_number, numbers_at, then_list, then_spaced_list, then_close}
use Rattle.line_laws.specs.Grammar.{Piece, a_byte, a_number, list, spaced_list}

-- A piece read, and pieces one after the other.
unfoldable pub read_piece : List ℕ → Piece → Read → Read
read_piece s (a_byte b) r = then_byte s b r
read_piece s (a_number least most b) r = then_byte s b (then_number s least most r)
read_piece s (list ascending most fewest fullest) r = then_close s fewest fullest (then_list s ascending most r).read
read_piece s (spaced_list most fewest fullest) r = then_close s fewest fullest (then_spaced_list s most r).read

unfoldable pub read_pieces : List ℕ → List Piece → Read → Read
read_pieces s [] r = r
read_pieces s (p ∷ ps) r = read_pieces s ps (read_piece s p r)

-- Where a reading stands, or its fault.
unfoldable pub place_in : Read → ℕ
place_in (At i v) = i
place_in (Refused n i) = i

-- A test, by its two answers.
pub if_test {ℓ} : {A : Type ℓ} (P : A → Type 0) (t : Bool) (x y : A) → P x → P y → P (cond t x y)
if_test P true x y p q = p
if_test P false x y p q = q

-- ---- No fault before

number_from : (s : List ℕ) (i least most : ℕ) → i ≤ place_in (number_at s i least most)
unfolding number_at number_of place_in
number_from s i least most = go (digits (drop i s))
  where
    From : Read → Type 0
    From r = i ≤ place_in r

    go : (ds : List ℕ) → i ≤ place_in (number_of ds i least most)
    go [] = omega arith
    go (d ∷ ds) =
        if_test From (eqb d 48 && ltb 0 (length ds)) _ _ (omega arith)
        (if_test From (leb least (value (d ∷ ds)) && leb (value (d ∷ ds)) most) _ _ (omega arith) (omega arith))

pub numbers_from : (left : ℕ) (s : List ℕ) (ascending : Bool) (most least : ℕ) (ns : List ℕ) (i : ℕ)
    → i ≤ place_in (numbers_at left s ascending most least ns i).read
unfolding numbers_at after_number place_in
numbers_from zero s ascending most least ns i = omega arith
numbers_from (suc left) s ascending most least ns i =
    go (λ (x : ℕ) (l : List ℕ) (j : ℕ). numbers_from left s ascending most x l j) (number_at s i least most)
    (number_from s i least most)
  where
    From : ListRead → Type 0
    From l = i ≤ place_in l.read

    go : ((x : ℕ) (l : List ℕ) (j : ℕ) → j ≤ place_in (numbers_at left s ascending most x l j).read) → (r : Read)
        → i ≤ place_in r
        → i ≤ place_in (after_number s ascending (numbers_at left s ascending most) ns r).read
    go further (At j v) h =
        if_test From (eqb (byte_at s j) 32) _ _
        (let q = further (cond ascending (v + 1) 0) (ns ++ v ∷ []) (j + 1) in omega (arith, q, h)) h
    go further (Refused n j) h = h

pub byte_from : (s : List ℕ) (b : ℕ) (r : Read) → place_in r ≤ place_in (then_byte s b r)
unfolding then_byte place_in
byte_from s b (At i v) = if_test (λ (r : Read). i ≤ place_in r) (eqb (byte_at s i) b) _ _ (omega arith) (omega arith)
byte_from s b (Refused n i) = omega arith

pub close_from : (s : List ℕ) (fewest fullest : ℕ) (r : Read) → place_in r ≤ place_in (then_close s fewest fullest r)
unfolding then_close place_in
close_from s fewest fullest (At i n) =
    if_test (λ (r : Read). i ≤ place_in r) (eqb (byte_at s i) 41) _ _
    (if_test (λ (r : Read). i ≤ place_in r) (leb fewest n && leb n fullest) _ _ (omega arith) (omega arith))
    (omega arith)
close_from s fewest fullest (Refused n i) = omega arith

list_from : (s : List ℕ) (ascending : Bool) (most : ℕ) (r : Read)
    → place_in r ≤ place_in (then_list s ascending most r).read
unfolding then_list place_in
list_from s ascending most (At i v) =
    if_test (λ (l : ListRead). i ≤ place_in l.read) (eqb (byte_at s i) 41) _ _ (omega arith)
    (numbers_from (length s + 1) s ascending most 0 [] i)
list_from s ascending most (Refused n i) = omega arith

spaced_from : (s : List ℕ) (most : ℕ) (r : Read) → place_in r ≤ place_in (then_spaced_list s most r).read
unfolding then_spaced_list place_in
spaced_from s most (At i v) =
    if_test (λ (l : ListRead). i ≤ place_in l.read) (eqb (byte_at s i) 32) _ _
    (let q = numbers_from (length s + 1) s false most 0 [] (i + 1) in omega (arith, q)) (omega arith)
spaced_from s most (Refused n i) = omega arith

then_number_from : (s : List ℕ) (least most : ℕ) (r : Read) → place_in r ≤ place_in (then_number s least most r)
unfolding then_number place_in
then_number_from s least most (At i v) = number_from s i least most
then_number_from s least most (Refused n i) = omega arith

pub piece_from : (s : List ℕ) (p : Piece) (r : Read) → place_in r ≤ place_in (read_piece s p r)
unfolding read_piece
piece_from s (a_byte b) r = byte_from s b r
piece_from s (a_number least most b) r =
    let x = then_number_from s least most r in
    let y = byte_from s b (then_number s least most r) in
    omega (arith, x, y)
piece_from s (list ascending most fewest fullest) r =
    let x = list_from s ascending most r in
    let y = close_from s fewest fullest (then_list s ascending most r).read in
    omega (arith, x, y)
piece_from s (spaced_list most fewest fullest) r =
    let x = spaced_from s most r in
    let y = close_from s fewest fullest (then_spaced_list s most r).read in
    omega (arith, x, y)

pub pieces_from : (s : List ℕ) (ps : List Piece) (r : Read) → place_in r ≤ place_in (read_pieces s ps r)
unfolding read_pieces
pieces_from s [] r = omega arith
pieces_from s (p ∷ ps) r =
    let x = piece_from s p r in
    let y = pieces_from s ps (read_piece s p r) in
    omega (arith, x, y)

-- ---- A fault stays

pub piece_stays : (s : List ℕ) (p : Piece) (n i : ℕ) → read_piece s p (Refused n i) ≡ Refused n i
unfolding read_piece then_byte then_number then_list then_spaced_list then_close
piece_stays s (a_byte b) n i = refl
piece_stays s (a_number least most b) n i = refl
piece_stays s (list ascending most fewest fullest) n i = refl
piece_stays s (spaced_list most fewest fullest) n i = refl

pub pieces_stay : (s : List ℕ) (ps : List Piece) (n i : ℕ) → read_pieces s ps (Refused n i) ≡ Refused n i
unfolding read_pieces
pieces_stay s [] n i = refl
pieces_stay s (p ∷ ps) n i = rw (piece_stays s p n i) (pieces_stay s ps n i)

-- ---- The faults are 1 and 10

unfoldable pub Numbered : Read → Type 0
Numbered (At i v) = Unit {0}
Numbered (Refused n i) = (n ≡ 1) ⊎ (n ≡ 10)

byte_numbered : (s : List ℕ) (b : ℕ) (r : Read) → Numbered r → Numbered (then_byte s b r)
unfolding then_byte Numbered
byte_numbered s b (At i v) h = if_test Numbered (eqb (byte_at s i) b) _ _ tt (inl refl)
byte_numbered s b (Refused n i) h = h

number_numbered : (s : List ℕ) (i least most : ℕ) → Numbered (number_at s i least most)
unfolding number_at number_of Numbered
number_numbered s i least most = go (digits (drop i s))
  where
    go : (ds : List ℕ) → Numbered (number_of ds i least most)
    go [] = inl refl
    go (d ∷ ds) =
        if_test Numbered (eqb d 48 && ltb 0 (length ds)) _ _ (inl refl)
        (if_test Numbered (leb least (value (d ∷ ds)) && leb (value (d ∷ ds)) most) _ _ tt (inr refl))

numbers_numbered : (left : ℕ) (s : List ℕ) (ascending : Bool) (most least : ℕ) (ns : List ℕ) (i : ℕ)
    → Numbered (numbers_at left s ascending most least ns i).read
unfolding numbers_at after_number Numbered
numbers_numbered zero s ascending most least ns i = inl refl
numbers_numbered (suc left) s ascending most least ns i =
    go (λ (x : ℕ) (l : List ℕ) (j : ℕ). numbers_numbered left s ascending most x l j) (number_at s i least most)
    (number_numbered s i least most)
  where
    go : ((x : ℕ) (l : List ℕ) (j : ℕ) → Numbered (numbers_at left s ascending most x l j).read) → (r : Read)
        → Numbered r
        → Numbered (after_number s ascending (numbers_at left s ascending most) ns r).read
    go further (At j v) h =
        if_test (λ (l : ListRead). Numbered l.read) (eqb (byte_at s j) 32) _ _
        (further (cond ascending (v + 1) 0) (ns ++ v ∷ []) (j + 1)) tt
    go further (Refused n j) h = h

close_numbered : (s : List ℕ) (fewest fullest : ℕ) (r : Read) → Numbered r → Numbered (then_close s fewest fullest r)
unfolding then_close Numbered
close_numbered s fewest fullest (At i n) h =
    if_test Numbered (eqb (byte_at s i) 41) _ _ (if_test Numbered (leb fewest n && leb n fullest) _ _ tt (inr refl))
    (inl refl)
close_numbered s fewest fullest (Refused n i) h = h

piece_numbered : (s : List ℕ) (p : Piece) (r : Read) → Numbered r → Numbered (read_piece s p r)
unfolding read_piece then_number then_list then_spaced_list Numbered
piece_numbered s (a_byte b) r h = byte_numbered s b r h
piece_numbered s (a_number least most b) (At i v) h =
    byte_numbered s b (number_at s i least most) (number_numbered s i least most)
piece_numbered s (a_number least most b) (Refused n i) h = byte_numbered s b (Refused n i) h
piece_numbered s (list ascending most fewest fullest) (At i v) h =
    close_numbered s fewest fullest _
    (if_test (λ (l : ListRead). Numbered l.read) (eqb (byte_at s i) 41) _ _ tt
    (numbers_numbered (length s + 1) s ascending most 0 [] i))
piece_numbered s (list ascending most fewest fullest) (Refused n i) h = close_numbered s fewest fullest (Refused n i) h
piece_numbered s (spaced_list most fewest fullest) (At i v) h =
    close_numbered s fewest fullest _
    (if_test (λ (l : ListRead). Numbered l.read) (eqb (byte_at s i) 32) _ _
    (numbers_numbered (length s + 1) s false most 0 [] (i + 1)) tt)
piece_numbered s (spaced_list most fewest fullest) (Refused n i) h = close_numbered s fewest fullest (Refused n i) h

pub pieces_numbered : (s : List ℕ) (ps : List Piece) (r : Read) → Numbered r → Numbered (read_pieces s ps r)
unfolding read_pieces
pieces_numbered s [] r h = h
pieces_numbered s (p ∷ ps) r h = pieces_numbered s ps (read_piece s p r) (piece_numbered s p r h)
