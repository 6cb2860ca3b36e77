-- Refusal 1 is exact: a line's reading is turned back by 1 exactly at the first place with that fault, and never
-- passes it; what is read to the end is a text of the grammar.
use Rattle.std.specs.Prelude.{ℕ, ◌+◌, ◌≤◌, ◌<◌, ◌≡◌, refl, Bool, true, false, cond, ◌⊎◌, List, [], ltb, eqb, length, take}
use Rattle.std.proofs.Common.{arith, sym, ap, ◌∙◌, inl, inr, length-take, take_all, take-take, get_or-take, length-take-le, ltb-true, ltb-false}
use Rattle.rules.specs.Text.{byte_at}
use Rattle.rules.specs.grammar.FirstBytes.{begun_nil}
use Rattle.rules.specs.reading.WordsAnswered.{stands_to-same}
use Rattle.line_pieces.specs.Read.{Read, At, Refused}
use Rattle.line_pieces.specs.Reading.{then_end}
use Rattle.line_laws.specs.Grammar.{Piece, TextOf, LineFault1}
use Rattle.line_laws.specs.pieces.ReadPieces.{read_pieces, place_in}
use Rattle.line_laws.specs.pieces.NumberTextRead.{Near, if_known}
use Rattle.line_laws.specs.pieces.PieceTextRead.{AllEnded, pieces_met}
use Rattle.line_laws.specs.pieces.PieceBegun.{Met, reach, met_of, Stood, pieces_stood}

-- A line's reading, before its length is judged.
unfoldable pub line_read : List ℕ → List Piece → Read
line_read s ps = then_end s (read_pieces s ps (At 0 0))

-- ---- What has been passed

-- Whole: the line is a text. Turned back: a text has the same bytes up to there.
unfoldable pub Passed : List ℕ → List Piece → Read → Type 0
Passed s ps (At j v) = TextOf ps s
Passed s ps (Refused n j) = (t : List ℕ) × (TextOf ps t × Met s t (reach n j))

end_passed : (s : List ℕ) (ps : List Piece) (r : Read) → Stood (TextOf ps) s [] r → Passed s ps (then_end s r)
unfolding Stood Passed then_end reach
end_passed s ps (At j v) (x, (t, q)) =
    if_known (Passed s ps) (ltb j (length s)) _ _ (λ _. (x, (t, met_of q)))
    (λ e. let same : s ≡ x = sym (take_all j s (ltb-false j (length s) e)) ∙ q.taken in rw same t)
end_passed s ps (Refused n j) p = p

line_passed : (s : List ℕ) (ps : List Piece) → AllEnded ps → Passed s ps (line_read s ps)
unfolding line_read
line_passed s ps d = end_passed s ps (read_pieces s ps (At 0 0)) (pieces_stood s [] ps 0 0 d (begun_nil s))

-- No fault 1 where a text has the same bytes.
met_faultless : (s t : List ℕ) (ps : List Piece) (e j : ℕ) → TextOf ps t → Met s t e → LineFault1 ps s j → e ≤ j
unfolding LineFault1
met_faultless s t ps e j u m (inl (l, f)) = go (ltb j e) refl
  where
    go : (b : Bool) → ltb j e ≡ b → e ≤ j
    go true q =
        let h : j + 1 ≤ e = let k = ltb-true j e q in omega arith in
        absurd (f t u (sym (take-take (j + 1) e t h) ∙ ap (take (j + 1)) m.same ∙ take-take (j + 1) e s h))
    go false q = ltb-false j e q
met_faultless s t ps e j u m (inr (l, f)) = omega (arith, m.inside)

-- ---- A text is never turned back by 1

-- Where a text's bytes stand before place m, 1 does not answer before m.
never-one : (s t : List ℕ) (ps : List Piece) (m i : ℕ) → AllEnded ps → TextOf ps t
    → ((l : ℕ) → l < length t → l < m → byte_at s l ≡ byte_at t l)
    → (m ≤ length t) ⊎ (length s ≤ length t) → line_read s ps ≡ Refused 1 i → m ≤ i
unfolding line_read then_end place_in
never-one s t ps m i d u h k e =
    go (read_pieces s ps (At 0 0))
    (pieces_met m s ps t 0 (At 0 0) u d
    (stands_to-same m s 0 t (λ l p q. let z : 0 + l ≡ l = omega arith in rw z (h l p (omega arith)))) (inl (0, refl))) e
  where
    ends : (j v : ℕ) → then_end s (At j v) ≡ Refused 1 i → (j ≡ i) × (j < length s)
    ends j v q = if_known (λ (r : Read). r ≡ Refused 1 i → (j ≡ i) × (j < length s)) (ltb j (length s)) (Refused 1 j)
        (At j v)
        (λ b f. let z : j ≡ i = cc in (z, ltb-true j (length s) b))
        (λ b f. let z : ◌≡◌ {A = ℕ} 0 1 = cc in absurd (omega arith)) q

    go : (r : Read) → Near m (0 + length t) r → then_end s r ≡ Refused 1 i → m ≤ i
    go r (inl (v, q)) f = let w = ends (0 + length t) v (rw q at f) in last k w
      where
        last : (m ≤ length t) ⊎ (length s ≤ length t) → (0 + length t ≡ i) × (0 + length t < length s) → m ≤ i
        last (inl a) w = omega (arith, w.0)
        last (inr a) w = absurd (omega (arith, w.1))
    go (At j v) (inr (inl l)) f = omega (arith, (ends j v f).0)
    go (Refused n j) (inr (inl l)) f = let z : j ≡ i = cc in omega arith
    go r (inr (inr (j, q))) f = let g : then_end s (Refused 10 j) ≡ Refused 1 i = rw q at f in
        let z : ◌≡◌ {A = ℕ} 10 1 = cc in absurd (omega arith)

one_sound : (s : List ℕ) (ps : List Piece) (i : ℕ) → AllEnded ps → line_read s ps ≡ Refused 1 i → LineFault1 ps s i
unfolding LineFault1 Passed reach
one_sound s ps i d e = go (ltb i (length s)) refl (rw e at (line_passed s ps d))
  where
    bytes : (t : List ℕ) → take (i + 1) t ≡ take (i + 1) s → (l : ℕ) → l < length t → l < i + 1
        → byte_at s l ≡ byte_at t l
    bytes t q l a b = sym (get_or-take (i + 1) s l 256 b) ∙ ap (λ (x : List ℕ). byte_at x l) (sym q)
        ∙ get_or-take (i + 1) t l 256 b

    long : (t : List ℕ) → take (i + 1) t ≡ take (i + 1) s → i < length s → i + 1 ≤ length t
    long t q l =
        let a = length-take (i + 1) t in
        let b : length (take (i + 1) s) ≡ i + 1 = length-take-le (i + 1) s (omega arith) in
        omega (arith, a, b, ap length q)

    go : (b : Bool) → ltb i (length s) ≡ b → ((t : List ℕ) × (TextOf ps t × Met s t i)) → LineFault1 ps s i
    go true b p =
        let l = ltb-true i (length s) b in
        inl (l, λ t u q. let z = never-one s t ps (i + 1) i d u (bytes t q) (inl (long t q l)) e in omega (arith, z))
    go false b p =
        let l = ltb-false i (length s) b in
        inr (
          omega (arith, p.1.1.inside),
          λ u. let z =
              never-one s s ps (length s + 1) i d u (λ _ _ _. refl) (inr (omega arith)) e in omega (arith, z),
        )

-- ---- The theorem

-- Turned back: fault 1 stands nowhere before.
pub none-before-one : (s : List ℕ) (ps : List Piece) (n i : ℕ) → AllEnded ps → line_read s ps ≡ Refused n i → (j : ℕ)
    → LineFault1 ps s j → i ≤ j
unfolding Passed reach
none-before-one s ps n i d e j f =
    let p : (t : List ℕ) × (TextOf ps t × Met s t (cond (eqb n 10) (i + 1) i)) = rw e at (line_passed s ps d) in
    go (eqb n 10) (met_faultless s p.0 ps (cond (eqb n 10) (i + 1) i) j p.1.0 p.1.1 f)
  where
    go : (b : Bool) → cond b (i + 1) i ≤ j → i ≤ j
    go true h = omega arith
    go false h = h

-- Turned back by 1: that fault stands there, and nowhere before.
pub one_exact : (s : List ℕ) (ps : List Piece) (i : ℕ) → AllEnded ps → line_read s ps ≡ Refused 1 i
    → LineFault1 ps s i × ((j : ℕ) → LineFault1 ps s j → i ≤ j)
unfolding Passed reach
one_exact s ps i d e =
    let p : (t : List ℕ) × (TextOf ps t × Met s t i) = rw e at (line_passed s ps d) in
    (one_sound s ps i d e, λ j f. met_faultless s p.0 ps i j p.1.0 p.1.1 f)

-- Turned back by 10: fault 1 stands neither there nor before.
pub ten_before-one : (s : List ℕ) (ps : List Piece) (i : ℕ) → AllEnded ps → line_read s ps ≡ Refused 10 i → (j : ℕ)
    → LineFault1 ps s j → i < j
unfolding Passed reach
ten_before-one s ps i d e j f =
    let p : (t : List ℕ) × (TextOf ps t × Met s t (i + 1)) = rw e at (line_passed s ps d) in
    let q = met_faultless s p.0 ps (i + 1) j p.1.0 p.1.1 f in
    omega (arith, q)

-- Read to the end: a text of the grammar, which has no fault 1.
pub read_text : (s : List ℕ) (ps : List Piece) (i v : ℕ) → AllEnded ps → line_read s ps ≡ At i v
    → TextOf ps s × ((j : ℕ) → LineFault1 ps s j → ⊥)
unfolding Passed LineFault1
read_text s ps i v d e = let p : TextOf ps s = rw e at (line_passed s ps d) in (p, λ j f. none p j f)
  where
    none : TextOf ps s → (j : ℕ) → LineFault1 ps s j → ⊥
    none p j (inl (l, f)) = f s p refl
    none p j (inr (l, f)) = f p
