-- An event's line names some processes: the number of them that the first fault is judged with is the number that the
-- line's text has.
use Rattle.std.specs.Prelude.{ℕ, suc, ◌+◌, ◌<◌, ◌≡◌, refl, true, false, cond, List, [], ◌∷◌, ◌++◌, eqb, length, drop}
use Rattle.std.proofs.Common.{arith, add-zero, zero-add, add-one, sym, ap, ◌∙◌, append_assoc, drop-cons, ne_eqb}
use Rattle.std.proofs.lemmas.List.{length-map}
use Rattle.codec.specs.Ascii.{ascii}
use Rattle.rules.specs.Text.{byte_at}
use Rattle.rules.specs.Fault.{StandsAt}
use Rattle.rules.specs.reading.WordLaws.{span_append}
use Rattle.line_pieces.specs.Read.{Read, At, Refused}
use Rattle.codec.specs.Decimal.{value}
use Rattle.line_pieces.specs.NumberLaws.{inside, digit_bounds}
use Rattle.line_pieces.specs.Reading.{value_read, then_bytes, head_read, then_end}
use Rattle.line_pieces.specs.NumberList.{then_list, then_close}
use Rattle.lines.specs.Lines.{count_limit, label_limit, process_limit}
use Rattle.line_laws.specs.Grammar.{AllDigits, Numeral, Numerals, spaced, between, Piece, a_byte, list, did_pieces, Names}
use Rattle.line_laws.specs.FirstFaults.{EachLineNames}
use Rattle.line_laws.specs.pieces.ReadPieces.{read_piece, read_pieces, pieces_stay}
use Rattle.line_laws.specs.faults.GrammarTheorem.{line_read}
use Rattle.line_laws.specs.faults.TenStops.{stands_right}
use Rattle.line_laws.specs.faults.LinePieces.{named}
use Rattle.line_laws.specs.says.ListNumbers.{list_closed}
use Rattle.line_laws.specs.says.LineNumbers.{head_met}

-- The line's first list, closed, and the pieces behind it.
unfoldable pub first_read : List ℕ → Read
first_read s = then_close s 1 8 (then_list s true process_limit (head_read s (ascii "(did ("))).read

abbrev pub rest : ℕ → ℕ → List Piece
rest k n = a_byte 32 ∷ a_byte 40 ∷ list false count_limit k k ∷ a_byte 32 ∷ a_byte 40 ∷ list false label_limit n n ∷ a_byte 41
    ∷ []

pub line_after : (s : List ℕ) (k n : ℕ) → line_read s (did_pieces k n) ≡ then_end s (read_pieces s (rest k n) (first_read s))
unfolding did_pieces line_read read_pieces read_piece then_bytes first_read
line_after s k n = refl

-- Where the first list is read, the line names as many processes as were counted.
first-named : (s : List ℕ) (n e c : ℕ) → Names s n → first_read s ≡ At e c → c ≡ n
unfolding Names first_read
first-named s n e c names q =
    list_closed s true process_limit 1 8 (head_read s (ascii "(did (")) e c q (λ j v r l.
    let many : length l.said.list_digits ≡ c =
    sym (length-map l.said.list_digits value) ∙ ap length l.said.values ∙ l.said.many in
    sym many ∙ names l.said.list_digits l.said.numerals
    (span_append (head_met s (ascii "(did (") j v r) (span_append l.said.stands l.bracket)).stands)

pub named_is : (s : List ℕ) (e c : ℕ) → first_read s ≡ At e c → named s ≡ c
unfolding named first_read value_read
named_is s e c q = ap value_read q

pub same_line : (s : List ℕ) (k n : ℕ) → Names s n → line_read s (did_pieces k n) ≡ line_read s (did_pieces k (named s))
same_line s k n names = line_after s k n ∙ go (first_read s) refl ∙ sym (line_after s k (named s))
  where
    go : (r : Read) → first_read s ≡ r
        → then_end s (read_pieces s (rest k n) (first_read s)) ≡ then_end s (read_pieces s (rest k (named s)) (first_read s))
    go (At e c) q = let z : named s ≡ n = named_is s e c q ∙ first-named s n e c names q in rw z
    go (Refused m i) q = rw (q, pieces_stay s (rest k n) m i, pieces_stay s (rest k (named s)) m i)

-- ---- Each line names some number of processes

-- The spaces before a list's closing bracket.
unfoldable spaces_to : List ℕ → ℕ
spaces_to [] = 0
spaces_to (c ∷ s) = cond (eqb c 41) 0 (cond (eqb c 32) 1 0 + spaces_to s)

spaces_next : (s : List ℕ) (i c : ℕ) → byte_at s i ≡ c → c < 256
    → spaces_to (drop i s) ≡ cond (eqb c 41) 0 (cond (eqb c 32) 1 0 + spaces_to (drop (i + 1) s))
unfolding spaces_to
spaces_next s i c e h = rw (drop-cons s i 256 (inside s i (omega (arith, e))), add-one i, e)

over_digits : (s ds xs : List ℕ) (i : ℕ) → AllDigits ds → StandsAt s i (ds ++ xs)
    → spaces_to (drop i s) ≡ spaces_to (drop (i + length ds) s)
unfolding AllDigits StandsAt
over_digits s [] xs i a h = rw (add-zero i)
over_digits s (d ∷ ds) xs i a h =
    let b = digit_bounds d a.0 in
    let z : i + 1 + length ds ≡ i + suc (length ds) = omega arith in
    spaces_next s i d h.0 (omega (arith, b.1))
    ∙ rw (
      ne_eqb d 41 (λ e. omega (arith, b.0, e)),
      ne_eqb d 32
          (λ e. omega (arith, b.0, e)),
      zero-add,
      over_digits s ds xs (i + 1) a.1 h.1,
      z,
    )

over_spaced : (s : List ℕ) (ds : List (List ℕ)) (i : ℕ) → Numerals ds → StandsAt s i (spaced ds ++ 41 ∷ [])
    → spaces_to (drop i s) ≡ length ds
unfolding spaced Numerals StandsAt
over_spaced s [] i a h = spaces_next s i 41 h.0 (omega arith)
over_spaced s (d ∷ ds) i a h =
    let rest : StandsAt s (i + 1) (d ++ (spaced ds ++ 41 ∷ [])) = rw (append_assoc d (spaced ds) (41 ∷ [])) at h.1 in
    spaces_next s i 32 h.0 (omega arith)
    ∙ rw (
      over_digits s d (spaced ds ++ 41 ∷ []) (i + 1) a.0.all rest,
      over_spaced s ds (i + 1 + length d) a.1
          (stands_right s (i + 1) d (spaced ds ++ 41 ∷ []) rest),
    )
    (omega arith)

-- As many numbers as spaces, and one more; or none.
counted : (s : List ℕ) (ns : List (List ℕ)) (i : ℕ) → Numerals ns → StandsAt s i (between ns ++ 41 ∷ [])
    → length ns ≡ cond (eqb (byte_at s i) 41) 0 (spaces_to (drop i s) + 1)
unfolding between Numerals StandsAt AllDigits
counted s [] i a h = rw h.0
counted s (d ∷ ds) i a h =
    let text : StandsAt s i (d ++ (spaced ds ++ 41 ∷ [])) = rw (append_assoc d (spaced ds) (41 ∷ [])) at h in
    let count : spaces_to (drop i s) ≡ length ds =
    over_digits s d (spaced ds ++ 41 ∷ []) i a.0.all text
    ∙ over_spaced s ds (i + length d) a.1 (stands_right s i d (spaced ds ++ 41 ∷ []) text)
    in
    rw (ne_eqb (byte_at s i) 41 (digit d a.0 (spaced ds ++ 41 ∷ []) text), count) (omega arith)
  where
    digit : (xs : List ℕ) → Numeral xs → (ys : List ℕ) → StandsAt s i (xs ++ ys) → byte_at s i ≡ 41 → ⊥
    digit [] n ys h e = omega (arith, n.some)
    digit (x ∷ xs) n ys h e = let b = digit_bounds x n.all.0 in omega (arith, b.0, h.0, e)

-- However its text goes on, a line names one number of processes, if any.
pub names_some : EachLineNames
unfolding Names
names_some s = (
  cond (eqb (byte_at s 6) 41) 0 (spaces_to (drop 6 s) + 1),
  λ ns a h. counted s ns 6 a
      (stands_right s 0 (ascii "(did (") (between ns ++ 41 ∷ []) h),
)
