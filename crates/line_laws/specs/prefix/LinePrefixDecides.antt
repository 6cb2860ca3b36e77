-- The program may hand over the first bytes of a longer line, 4,107 or more: the answer is that of the whole line.
use Rattle.std.specs.Prelude.{ℕ, ◌≤◌, ◌<◌, ◌≡◌, refl, Bool, true, false, ◌&&◌, List, [], ◌∷◌, ◌++◌, map, leb, ltb, length, take}
use Rattle.std.proofs.Common.{arith, sym, ap, ◌∙◌, inl, inr, take_all, take-take, length-take-le, get_or-take, leb-true, leb-false, lt-ltb}
use Rattle.codec.specs.Ascii.{ascii}
use Rattle.line_pieces.specs.Read.{Read, At, Refused}
use Rattle.line_pieces.specs.Reading.{value_read, then_bytes, head_read, line_limit, limited}
use Rattle.lines.specs.Lines.{process_limit, watch_of, watch_line, start_of, start_line, did_of, did_line, rule_of, rule_line}
use Rattle.line_laws.specs.LinePrefix.{FirstBytesDecide}
use Rattle.line_laws.specs.Grammar.{Piece, a_byte, list, watch_pieces, start_pieces, did_pieces}
use Rattle.line_laws.specs.pieces.ReadPieces.{read_piece, read_pieces, pieces_from}
use Rattle.line_laws.specs.pieces.NumberTextRead.{if_known}
use Rattle.line_laws.specs.faults.GrammarTheorem.{line_read}
use Rattle.line_laws.specs.faults.LinePieces.{watch_read_lem, start_read_lem, named, did_read}
use Rattle.line_laws.specs.faults.NamedProcesses.{first_read, rest, line_after}
use Rattle.line_laws.specs.prefix.PrefixDecides.{enough, Front, Same, AllModest, pieces_same, end_same, limited-same, line-enough}
use Rattle.lines.specs.WatchLine.{Refused as WatchRefused}
use Rattle.lines.specs.StartLine.{Refused as StartRefused}
use Rattle.lines.specs.DidLine.{Refused as DidRefused}
use Rattle.lines.specs.RuleLine.{Refused as RuleRefused}

front_of : (s : List ℕ) → enough ≤ length s → Front s (take enough s)
front_of s h = record { long = h; size = length-take-le enough s h; bytes = λ i k. get_or-take enough s i 256 k }

-- A line over the limit is turned back.
over_refused : (s : List ℕ) (r : Read) → line_limit < length s → (n : ℕ) × (i : ℕ) × (limited s r ≡ Refused n i)
unfolding limited
over_refused s (At i v) h = (10, line_limit, rw (lt-ltb line_limit (length s) h))
over_refused s (Refused n i) h =
    if_known (λ (x : Read). (m : ℕ) × (j : ℕ) × (x ≡ Refused m j)) (ltb line_limit (length s) && ltb line_limit i)
    (Refused 10 line_limit) (Refused n i) (λ _. (10, line_limit, refl)) (λ _. (n, i, refl))

-- A short line is handed over whole; of a longer one the answer is the fault alone.
module _ {A : Type 0} (line : List ℕ → A) (refused : ℕ → ℕ → A) (ps : List Piece) (modest : AllModest ps)
    (refuses : (s : List ℕ) (n i : ℕ) → limited s (line_read s ps) ≡ Refused n i → line s ≡ refused n i) where
  answer_enough : (s : List ℕ) → line (take enough s) ≡ line s
  answer_enough s = go (leb (length s) enough) refl
    where
      go : (t : Bool) → leb (length s) enough ≡ t → line (take enough s) ≡ line s
      go true e = ap line (take_all enough s (leb-true (length s) enough e))
      go false e =
          let long = leb-false (length s) enough e in
          let w = over_refused s (line_read s ps) (omega (arith, long)) in
          refuses (take enough s) w.0 w.1 (line-enough s ps modest ∙ w.2) ∙ sym (refuses s w.0 w.1 w.2)

-- ---- The lines

watch_modest : AllModest watch_pieces
unfolding watch_pieces AllModest
watch_modest = search (arith)

watch_refuses : (s : List ℕ) (n i : ℕ) → limited s (line_read s watch_pieces) ≡ Refused n i
    → watch_line s ≡ WatchRefused n i
unfolding watch_of
watch_refuses s n i e = watch_read_lem s ∙ rw e

watch-enough : (s : List ℕ) → watch_line (take enough s) ≡ watch_line s
watch-enough s = answer_enough watch_line WatchRefused watch_pieces watch_modest watch_refuses s

start_modest : (k : ℕ) → AllModest (start_pieces k)
unfolding start_pieces AllModest
start_modest k = search (arith)

start_refuses : (k : ℕ) (s : List ℕ) (n i : ℕ) → limited s (line_read s (start_pieces k)) ≡ Refused n i
    → start_line s k ≡ StartRefused n i
unfolding start_of
start_refuses k s n i e = start_read_lem s k ∙ rw e

start_enough : (s : List ℕ) (k : ℕ) → start_line (take enough s) k ≡ start_line s k
start_enough s k = answer_enough (λ (l : List ℕ). start_line l k) StartRefused (start_pieces k) (start_modest k)
    (start_refuses k) s

-- In an event's line the first list is read alike, and then with the same number of processes; or both readings are
-- behind the limit.
first_pieces : List Piece
first_pieces = map a_byte (ascii "(did (") ++ list true process_limit 1 8 ∷ []

first_modest : AllModest first_pieces
unfolding first_pieces AllModest
first_modest = search (arith)

first_is : (s : List ℕ) → first_read s ≡ read_pieces s first_pieces (At 0 0)
unfolding first_read first_pieces read_pieces read_piece then_bytes
first_is s = refl

named_of : (s : List ℕ) → named s ≡ value_read (first_read s)
unfolding named first_read
named_of s = refl

rest_modest : (k n : ℕ) → AllModest (rest k n)
unfolding AllModest
rest_modest k n = search (arith)

did_front : (s front : List ℕ) (k : ℕ) → Front s front
    → limited s (line_read s (did_pieces k (named s))) ≡ limited front (line_read front (did_pieces k (named front)))
did_front s front k f =
    rw (line_after s k (named s), line_after front k (named front))
    (limited-same f _ _ (end_same f _ _
    (go (rw (first_is s, first_is front) (pieces_same f first_pieces (At 0 0) (At 0 0) first_modest (inl refl))))))
  where
    go : Same (first_read s) (first_read front)
        → Same (read_pieces s (rest k (named s)) (first_read s))
        (read_pieces front (rest k (named front)) (first_read front))
    go (inl e) =
        let n : named s ≡ named front = named_of s ∙ ap value_read e ∙ sym (named_of front) in
        rw n (pieces_same f (rest k (named front)) (first_read s) (first_read front) (rest_modest k (named front))
        (inl e))
    go (inr (x, y)) =
        let a = pieces_from s (rest k (named s)) (first_read s) in
        let b = pieces_from front (rest k (named front)) (first_read front) in
        inr (omega (arith, a, x), omega (arith, b, y))

did_refuses : (k : ℕ) (s : List ℕ) (n i : ℕ) → limited s (line_read s (did_pieces k (named s))) ≡ Refused n i
    → did_line s k ≡ DidRefused n i
unfolding did_of
did_refuses k s n i e = let w = did_read s k in w.3 ∙ rw e

did_enough : (s : List ℕ) (k : ℕ) → did_line (take enough s) k ≡ did_line s k
did_enough s k = go (leb (length s) enough) refl
  where
    go : (t : Bool) → leb (length s) enough ≡ t → did_line (take enough s) k ≡ did_line s k
    go true e = ap (λ (l : List ℕ). did_line l k) (take_all enough s (leb-true (length s) enough e))
    go false e =
        let long = leb-false (length s) enough e in
        let enough_long : enough ≤ length s = omega (arith, long) in
        let f = front_of s enough_long in
        let w = over_refused s (line_read s (did_pieces k (named s))) (omega (arith, long)) in
        did_refuses k (take enough s) w.0 w.1 (sym (did_front s (take enough s) k f) ∙ w.2)
        ∙ sym (did_refuses k s w.0 w.1 w.2)

-- A rule's line over the limit is turned back by its head, or by its length.
head_is : (s : List ℕ) → head_read s (ascii "(rule ") ≡ read_pieces s (map a_byte (ascii "(rule ")) (At 0 0)
unfolding read_pieces read_piece then_bytes
head_is s = refl

head_modest : AllModest (map a_byte (ascii "(rule "))
unfolding AllModest
head_modest = search (arith)

rule_refuses : (k : ℕ) (s : List ℕ) (n i : ℕ) → limited s (head_read s (ascii "(rule ")) ≡ Refused n i
    → rule_line s k ≡ RuleRefused n i
unfolding rule_line rule_of
rule_refuses k s n i e = rw e

rule_enough : (s : List ℕ) (k : ℕ) → rule_line (take enough s) k ≡ rule_line s k
rule_enough s k = go (leb (length s) enough) refl
  where
    go : (t : Bool) → leb (length s) enough ≡ t → rule_line (take enough s) k ≡ rule_line s k
    go true e = ap (λ (l : List ℕ). rule_line l k) (take_all enough s (leb-true (length s) enough e))
    go false e =
        let long = leb-false (length s) enough e in
        let enough_long : enough ≤ length s = omega (arith, long) in
        let f = front_of s enough_long in
        let h = head_read s (ascii "(rule ") in
        let g = head_read (take enough s) (ascii "(rule ") in
        let near : Same h g =
        rw (head_is s, head_is (take enough s))
        (pieces_same f (map a_byte (ascii "(rule ")) (At 0 0) (At 0 0) head_modest (inl refl)) in
        let head = limited-same f h g near in
        let w = over_refused s (head_read s (ascii "(rule ")) (omega (arith, long)) in
        rule_refuses k (take enough s) w.0 w.1 (sym head ∙ w.2) ∙ sym (rule_refuses k s w.0 w.1 w.2)

-- ---- The theorem, for every number of bytes that is enough

more_enough : {A : Type 0} (line : List ℕ → A) → ((s : List ℕ) → line (take enough s) ≡ line s)
    → (n : ℕ) → enough ≤ n → (s : List ℕ) → line (take n s) ≡ line s
more_enough line decided n h s = sym (decided (take n s)) ∙ ap line (take-take enough n s h) ∙ decided s

pub first_bytes_decide : FirstBytesDecide
first_bytes_decide n h k s = (
  more_enough watch_line watch-enough n h s,
  more_enough (λ (l : List ℕ). rule_line l k) (λ l. rule_enough l k) n h s,
  more_enough (λ (l : List ℕ). start_line l k) (λ l. start_enough l k) n h s,
  more_enough (λ (l : List ℕ). did_line l k) (λ l. did_enough l k) n h s,
)
