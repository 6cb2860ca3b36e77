-- A line's answer is its first fault: the fault with the lowest place, at the same place 1 before 10. A line that is
-- read has no fault.
use Rattle.std.specs.Prelude.{ℕ, suc, ◌+◌, ◌≤◌, ◌<◌, ◌≡◌, refl, Bool, true, false, ◌&&◌, ◌⊎◌, ◌↔◌, List, [], ◌∷◌, ◌++◌, ltb, length}
use Rattle.std.proofs.Common.{arith, sym, ◌∙◌, subst, ap₂, inl, inr, length-append, get_or-take, get_or-append-add, ltb-true, ltb-false, lt-ltb}
use Rattle.clocks.specs.stored.BoundedLaws.{and-true}
use Rattle.rules.specs.Text.{byte_at}
use Rattle.rules.specs.Fault.{StandsAt, Span}
use Rattle.rules.specs.grammar.FirstBytes.{Begun, begun_nil}
use Rattle.line_pieces.specs.Read.{Read, At, Refused}
use Rattle.line_pieces.specs.Reading.{then_end, line_limit, limited}
use Rattle.line_laws.specs.Grammar.{Piece, PieceText, LineFault1, a_number, list, spaced_list, a_byte}
use Rattle.line_laws.specs.Fault.{TenIn, TenFrom, Fault10, LineFault, FirstLineFault}
use Rattle.line_laws.specs.pieces.ReadPieces.{read_piece, read_pieces, pieces_stay, Numbered, pieces_numbered}
use Rattle.line_laws.specs.pieces.NumberTextRead.{if_known}
use Rattle.line_laws.specs.pieces.PieceTextRead.{AllEnded}
use Rattle.line_laws.specs.pieces.PieceBegun.{Stood, piece_stood}
use Rattle.line_laws.specs.faults.TenIsFault.{not_at, piece_ten}
use Rattle.line_laws.specs.faults.TenStops.{Stops, Passes, piece_stops, piece_passes}
use Rattle.line_laws.specs.faults.GrammarTheorem.{line_read, one_exact, none-before-one, ten_before-one, read_text}

-- ---- What the reader turns back by 10

pub stands_of : (s x : List ℕ) (i : ℕ) → ((l : ℕ) → l < length x → byte_at s (i + l) ≡ byte_at x l) → StandsAt s i x
unfolding StandsAt
stands_of s [] i h = tt
stands_of s (b ∷ x) i h = (
  let z : i + 0 ≡ i = omega arith in rw (← z) (h 0 (omega arith)),
  stands_of s x (i + 1) (λ l p. let z : i + 1 + l ≡ i + suc l = omega arith in rw z (h (suc l) (omega arith))),
)

-- The bytes behind those that a line begins with.
span_of : (s bs x : List ℕ) (j e : ℕ) → Begun s bs j → Begun s (bs ++ x) e → Span s j x e
span_of s bs x j e b c =
    let n = length-append bs x in
    record {
      stands = stands_of s x j (λ l p. let z : j + l ≡ length bs + l = omega (arith, b.ends) in
          sym (get_or-take e s (j + l) 256 (omega (arith, n, b.ends, c.ends)))
          ∙ rw (c.taken, z) (get_or-append-add bs x l 256));
      ends = omega (arith, n, b.ends, c.ends);
    }

ten_sound : (s bs : List ℕ) (ps : List Piece) (j v i : ℕ) → AllEnded ps → Begun s bs j
    → read_pieces s ps (At j v) ≡ Refused 10 i → TenFrom ps s j i
unfolding TenFrom AllEnded read_pieces Stood
ten_sound s bs [] j v i d b q = not_at j v 10 i q
ten_sound s bs (p ∷ ps) j v i d b q =
    go (read_piece s p (At j v)) refl (piece_stood s bs p j v d.0 b) q
    (λ (cs : List ℕ) (e w : ℕ) c f. ten_sound s cs ps e w i d.1 c f)
  where
    go : (r : Read) → read_piece s p (At j v) ≡ r → Stood (PieceText p) s bs r → read_pieces s ps r ≡ Refused 10 i
        → ((cs : List ℕ) (e w : ℕ) → Begun s cs e → read_pieces s ps (At e w) ≡ Refused 10 i → TenFrom ps s e i)
        → TenIn p s j i ⊎ ((x : List ℕ) × (e : ℕ) × (PieceText p x × (Span s j x e × TenFrom ps s e i)))
    go (At e w) f (x, (t, c)) g further = inr (x, e, (t, (span_of s bs x j e b c, further (bs ++ x) e w c g)))
    go (Refused n k) f h g further = inl (piece_ten s p j v i (f ∙ sym (pieces_stay s ps n k) ∙ g))

-- ---- What has a fault by 10 is turned back there or before

ten_in_from : (p : Piece) (s : List ℕ) (j i : ℕ) → TenIn p s j i → j ≤ i
unfolding TenIn
ten_in_from (a_byte b) s j i t = absurd t
ten_in_from (a_number least most b) s j i (e, o) = omega arith
ten_in_from (list ascending most fewest fullest) s j i (inl (ns, (a, (p, o)))) = omega (arith, p.ends)
ten_in_from (list ascending most fewest fullest) s j i (inr (ns, (a, (p, o)))) = omega (arith, p.ends)
ten_in_from (spaced_list most fewest fullest) s j i (inl (ns, (a, (p, o)))) = omega (arith, p.ends)
ten_in_from (spaced_list most fewest fullest) s j i (inr (ns, (a, (p, o)))) = omega (arith, p.ends)

ten_from : (ps : List Piece) (s : List ℕ) (j i : ℕ) → TenFrom ps s j i → j ≤ i
unfolding TenFrom
ten_from [] s j i t = absurd t
ten_from (p ∷ ps) s j i (inl t) = ten_in_from p s j i t
ten_from (p ∷ ps) s j i (inr (x, e, (u, (q, t)))) = let l = ten_from ps s e i t in omega (arith, q.ends, l)

ten_stops : (s : List ℕ) (ps : List Piece) (j v i : ℕ) → AllEnded ps → TenFrom ps s j i
    → Stops i (read_pieces s ps (At j v))
unfolding TenFrom AllEnded read_pieces Passes
ten_stops s [] j v i d t = absurd t
ten_stops s (p ∷ ps) j v i d (inl t) = go (piece_stops s p j v i t)
  where
    go : Stops i (read_piece s p (At j v)) → Stops i (read_pieces s ps (read_piece s p (At j v)))
    go (n, k, (q, l)) = rw q (n, k, (pieces_stay s ps n k, l))
ten_stops s (p ∷ ps) j v i d (inr (x, e, (u, (q, t)))) =
    go (piece_passes s p x j v e u d.0 q) (λ (w : ℕ). ten_stops s ps e w i d.1 t) (ten_from ps s e i t)
  where
    go : Passes e (read_piece s p (At j v)) → ((w : ℕ) → Stops i (read_pieces s ps (At e w))) → e ≤ i
        → Stops i (read_pieces s ps (read_piece s p (At j v)))
    go (inl (w, f)) further l = rw f (further w)
    go (inr (n, k, (f, h))) further l = rw f (n, k, (pieces_stay s ps n k, omega arith))

-- ---- A whole line, before its length is judged

line_ten : (s : List ℕ) (ps : List Piece) (i : ℕ) → AllEnded ps → line_read s ps ≡ Refused 10 i → TenFrom ps s 0 i
unfolding line_read then_end
line_ten s ps i d e = ten_sound s [] ps 0 0 i d (begun_nil s) (go (read_pieces s ps (At 0 0)) e)
  where
    go : (r : Read) → then_end s r ≡ Refused 10 i → r ≡ Refused 10 i
    go (At j v) q =
        absurd (if_known (λ (x : Read). x ≡ Refused 10 i → ⊥) (ltb j (length s)) (Refused 1 j) (At j v)
        (λ _ f. let z : ◌≡◌ {A = ℕ} 1 10 = cc in omega arith) (λ _ f. not_at j v 10 i f) q)
    go (Refused n j) q = q

line_stops : (s : List ℕ) (ps : List Piece) (i : ℕ) → AllEnded ps → TenFrom ps s 0 i → Stops i (line_read s ps)
unfolding line_read then_end
line_stops s ps i d t = go (ten_stops s ps 0 0 i d t)
  where
    go : Stops i (read_pieces s ps (At 0 0)) → Stops i (then_end s (read_pieces s ps (At 0 0)))
    go (n, k, (q, l)) = rw q (n, k, (refl, l))

line_numbered : (s : List ℕ) (ps : List Piece) → Numbered (line_read s ps)
unfolding line_read then_end Numbered
line_numbered s ps = go (read_pieces s ps (At 0 0)) (pieces_numbered s ps (At 0 0) tt)
  where
    go : (r : Read) → Numbered r → Numbered (then_end s r)
    go (At j v) h = if_known Numbered (ltb j (length s)) _ _ (λ _. inl refl) (λ _. tt)
    go (Refused n j) h = h

-- ---- The theorem

-- The length's own fault does not stand before a place up to the limit.
abbrev Allowed : List ℕ → ℕ → Type 0
Allowed s i = line_limit < length s → i ≤ line_limit

-- Turned back by what the pieces have.
first_of : (s : List ℕ) (ps : List Piece) (n i : ℕ) → AllEnded ps → Allowed s i → line_read s ps ≡ Refused n i
    → (n ≡ 1) ⊎ (n ≡ 10)
    → FirstLineFault n ps s i
unfolding LineFault Fault10
first_of s ps n i d a e (inl k) =
    record { here = inl (k, (one_exact s ps i d (rw k at e)).0); none_before = before; none_lower = lower }
  where
    before : (m j : ℕ) → j < i → LineFault m ps s j → ⊥
    before m j l (inl (q, f)) = omega (arith, none-before-one s ps n i d e j f)
    before m j l (inr (q, inl f)) = stopped (line_stops s ps j d f)
      where
        stopped : Stops j (line_read s ps) → ⊥
        stopped (x, y, (g, h)) = let z : i ≡ y = cc in omega arith
    before m j l (inr (q, inr (f, g))) = omega (arith, a f)

    lower : (m : ℕ) → m < n → LineFault m ps s i → ⊥
    lower m l (inl (q, f)) = omega arith
    lower m l (inr (q, f)) = omega arith
first_of s ps n i d a e (inr k) =
    record { here = inr (k, inl (line_ten s ps i d (rw k at e))); none_before = before; none_lower = lower }
  where
    before : (m j : ℕ) → j < i → LineFault m ps s j → ⊥
    before m j l (inl (q, f)) = omega (arith, none-before-one s ps n i d e j f)
    before m j l (inr (q, inl f)) = stopped (line_stops s ps j d f)
      where
        stopped : Stops j (line_read s ps) → ⊥
        stopped (x, y, (g, h)) = let z : i ≡ y = cc in omega arith
    before m j l (inr (q, inr (f, g))) = omega (arith, a f)

    lower : (m : ℕ) → m < n → LineFault m ps s i → ⊥
    lower m l (inl (q, f)) = let w : line_read s ps ≡ Refused 10 i = rw k at e in
        omega (arith, ten_before-one s ps i d w i f)
    lower m l (inr (q, f)) = omega arith

-- Over the limit, with no fault of the pieces up to there.
first_over : (s : List ℕ) (ps : List Piece) → line_limit < length s → ((j : ℕ) → j ≤ line_limit → LineFault1 ps s j → ⊥)
    → ((j : ℕ) → j < line_limit → TenFrom ps s 0 j → ⊥) → FirstLineFault 10 ps s line_limit
unfolding LineFault Fault10
first_over s ps over no_one no_ten =
    record { here = inr (refl, inr (over, refl)); none_before = before; none_lower = lower }
  where
    before : (m j : ℕ) → j < line_limit → LineFault m ps s j → ⊥
    before m j l (inl (q, f)) = no_one j (omega arith) f
    before m j l (inr (q, inl f)) = no_ten j l f
    before m j l (inr (q, inr (f, g))) = omega arith

    lower : (m : ℕ) → m < 10 → LineFault m ps s line_limit → ⊥
    lower m l (inl (q, f)) = no_one line_limit (omega arith) f
    lower m l (inr (q, f)) = omega arith

-- What turns a line back is its first fault.
first_fault : (s : List ℕ) (ps : List Piece) (n i : ℕ) → AllEnded ps → limited s (line_read s ps) ≡ Refused n i
    → FirstLineFault n ps s i
unfolding limited Numbered
first_fault s ps n i d e = go (line_read s ps) refl (line_numbered s ps) e
  where
    stops : (r : Read) → line_read s ps ≡ r → (j : ℕ) → TenFrom ps s 0 j → Stops j r
    stops r q j t = rw (← q) (line_stops s ps j d t)

    Goal : Read → Type 0
    Goal r = r ≡ Refused n i → FirstLineFault n ps s i

    nowhere : (k v : ℕ) {j : ℕ} → Stops j (At k v) → ⊥
    nowhere k v (a, b, (g, h)) = not_at k v a b g

    before : (k x : ℕ) {j : ℕ} → Stops j (Refused x k) → j < line_limit → line_limit < k → ⊥
    before k x {j} (a, b, (g, h)) l far = let z : k ≡ b = cc in omega arith

    near : (k : ℕ) → k ≡ i → line_limit < length s → (ltb line_limit (length s) && ltb line_limit k) ≡ false
        → i ≤ line_limit
    near k w over t =
        let o : ltb line_limit (length s) ≡ true = lt-ltb line_limit (length s) over in
        let u : ltb line_limit k ≡ false = rw o at t in
        omega (arith, ltb-false line_limit k u)

    go : (r : Read) → line_read s ps ≡ r → Numbered r → limited s r ≡ Refused n i → FirstLineFault n ps s i
    go (At k v) q m f =
        if_known Goal (ltb line_limit (length s)) (Refused 10 line_limit) (At k v)
        (λ t g. let z : 10 ≡ n = cc in
        let w : line_limit ≡ i = cc in
        rw (← z, ← w) (first_over s ps (ltb-true line_limit (length s) t) (λ j l h. (read_text s ps k v d q).1 j h)
        (λ j l u. nowhere k v (stops (At k v) q j u))))
        (λ _ g. absurd (not_at k v n i g)) f
    go (Refused x k) q m f =
        if_known Goal (ltb line_limit (length s) && ltb line_limit k) (Refused 10 line_limit) (Refused x k)
        (λ t g. let z : 10 ≡ n = cc in
        let w : line_limit ≡ i = cc in
        let b = and-true (ltb line_limit (length s)) (ltb line_limit k) t in
        let far : line_limit < k = ltb-true line_limit k b.1 in
        rw (← z, ← w) (first_over s ps (ltb-true line_limit (length s) b.0)
        (λ j l h. omega (arith, none-before-one s ps x k d q j h, far))
        (λ j l u. before k x (stops (Refused x k) q j u) l far)))
        (λ t g. let z : x ≡ n = cc in
        let w : k ≡ i = cc in
        first_of s ps n i d (λ over. near k w over t) (q ∙ g) (rw z at m)) f

-- A line that is read has no fault.
read_faultless : (s : List ℕ) (ps : List Piece) (i v : ℕ) → AllEnded ps → limited s (line_read s ps) ≡ At i v
    → (n j : ℕ) → LineFault n ps s j → ⊥
unfolding limited LineFault Fault10
read_faultless s ps i v d e n j f = go (line_read s ps) refl e
  where
    none : (k w : ℕ) → line_read s ps ≡ At k w → ltb line_limit (length s) ≡ false → LineFault n ps s j → ⊥
    none k w q t (inl (a, g)) = (read_text s ps k w d q).1 j g
    none k w q t (inr (a, inl g)) = stopped (line_stops s ps j d g)
      where
        stopped : Stops j (line_read s ps) → ⊥
        stopped (x, y, (h, l)) = not_at k w x y (sym q ∙ h)
    none k w q t (inr (a, inr (g, h))) = omega (arith, ltb-false line_limit (length s) t)

    never : (x k : ℕ) → Refused x k ≡ At i v → ⊥
    never x k g = not_at i v x k (sym g)

    go : (r : Read) → line_read s ps ≡ r → limited s r ≡ At i v → ⊥
    go (At k w) q g =
        if_known (λ (r : Read). r ≡ At i v → ⊥) (ltb line_limit (length s)) (Refused 10 line_limit) (At k w)
        (λ _ h. never 10 line_limit h) (λ t _. none k w q t f) g
    go (Refused x k) q g =
        if_known (λ (r : Read). r ≡ At i v → ⊥) (ltb line_limit (length s) && ltb line_limit k) (Refused 10 line_limit)
        (Refused x k)
        (λ _ h. never 10 line_limit h) (λ _ h. never x k h) g

-- A line has one first fault.
first_unique : (s : List ℕ) (ps : List Piece) (n m i j : ℕ) → FirstLineFault n ps s i → FirstLineFault m ps s j
    → (n ≡ m) × (i ≡ j)
first_unique s ps n m i j x y = places (ltb i j) (ltb j i) refl refl
  where
    numbers : i ≡ j → (t u : Bool) → ltb n m ≡ t → ltb m n ≡ u → n ≡ m
    numbers e true u p q = absurd (y.none_lower n (ltb-true n m p) (subst (LineFault n ps s) e x.here))
    numbers e false true p q = absurd (x.none_lower m (ltb-true m n q) (subst (LineFault m ps s) (sym e) y.here))
    numbers e false false p q = omega (arith, ltb-false n m p, ltb-false m n q)

    places : (t u : Bool) → ltb i j ≡ t → ltb j i ≡ u → (n ≡ m) × (i ≡ j)
    places true u p q = absurd (y.none_before n i (ltb-true i j p) x.here)
    places false true p q = absurd (x.none_before m j (ltb-true j i q) y.here)
    places false false p q =
        let e : i ≡ j = omega (arith, ltb-false i j p, ltb-false j i q) in
        (numbers e (ltb n m) (ltb m n) refl refl, e)

module _ (s : List ℕ) (ps : List Piece) (d : AllEnded ps) where
  -- A line is turned back exactly by its first fault.
  pub refused_exactly : (n i : ℕ) → (limited s (line_read s ps) ≡ Refused n i) ↔ FirstLineFault n ps s i
  refused_exactly n i = (first_fault s ps n i d, λ f. go f (limited s (line_read s ps)) refl)
    where
      go : FirstLineFault n ps s i → (r : Read) → limited s (line_read s ps) ≡ r → limited s (line_read s ps)
          ≡ Refused n i
      go f (At j v) e = absurd (read_faultless s ps j v d e n i f.here)
      go f (Refused m j) e = let same = first_unique s ps m n j i (first_fault s ps m j d e) f in
          e ∙ ap₂ Refused same.0 same.1

  -- It is read exactly if it has none.
  pub read_exactly : ((i : ℕ) × (v : ℕ) × (limited s (line_read s ps) ≡ At i v)) ↔ ((n i : ℕ) → LineFault n ps s i → ⊥)
  read_exactly = (λ x. read_faultless s ps x.0 x.1 d x.2, λ none. go none (limited s (line_read s ps)) refl)
    where
      go : ((n i : ℕ) → LineFault n ps s i → ⊥) → (r : Read) → limited s (line_read s ps) ≡ r
          → (i : ℕ) × (v : ℕ) × (limited s (line_read s ps) ≡ At i v)
      go none (At j v) e = (j, v, e)
      go none (Refused m j) e = absurd (none m j (first_fault s ps m j d e).here)
