-- The numbers of a list that was read: their texts stand in the line, and say them.
use Rattle.std.specs.Prelude.{ℕ, zero, suc, ◌+◌, ◌≤◌, ◌≡◌, refl, Bool, false, cond, ◌&&◌, List, [], ◌∷◌, ◌++◌, map, leb, eqb, length, drop}
use Rattle.std.proofs.Common.{sym, ◌∙◌, append_assoc, append-nil, length-append, eqb-true, leb-true}
use Rattle.clocks.specs.stored.BoundedLaws.{and-true}
use Rattle.rules.specs.Text.{byte_at}
use Rattle.rules.specs.reading.WordLaws.{span_nil, span_byte, span_append}
use Rattle.line_pieces.specs.Read.{Read, At, Refused}
use Rattle.codec.specs.Decimal.{digits, value}
use Rattle.line_pieces.specs.Number.{number_at}
use Rattle.line_pieces.specs.NumberLaws.{number-after}
use Rattle.line_pieces.specs.NumberList.{ListRead, after_number, numbers_at, then_list, then_spaced_list, then_close}
use Rattle.line_laws.specs.Grammar.{Numeral, Numerals, spaced, between}
use Rattle.line_laws.specs.LineSays.{InLimits}
use Rattle.line_laws.specs.pieces.NumberTextRead.{if_known}
use Rattle.line_laws.specs.faults.TenIsFault.{not_at, Judged, number_judged}
use Rattle.rules.specs.Fault.{Span}

-- ---- Numbers from a place on

-- Behind the numbers `before`: further ones, of which the first is there.
unfoldable Said : List ℕ → Bool → ℕ → ℕ → List ℕ → ℕ → List ℕ → Read → Type 0
Said s ascending most least before j ns (At i n) =
    (d : List ℕ) × (ds : List (List ℕ)) × (Numerals (d ∷ ds) × (Span s j (d ++ spaced ds) i
    × ((ns ≡ before ++ map value (d ∷ ds)) × ((n ≡ length ns) × InLimits ascending least most (map value (d ∷ ds))))))
Said s ascending most least before j ns (Refused n i) = Unit {0}

-- One number more.
said_more : (s : List ℕ) (ascending : Bool) (most least : ℕ) (before : List ℕ) (j e : ℕ) (d : List ℕ) (ns : List ℕ)
    (r : Read) → Numeral d
    → Span s j (d ++ 32 ∷ []) e → least ≤ value d → value d ≤ most
    → Said s ascending most (cond ascending (value d + 1) 0) (before ++ value d ∷ []) e ns r
    → Said s ascending most least before j ns r
unfolding Said Numerals spaced InLimits
said_more s ascending most least before j e d ns (At i n) m q low high (f, fs, (a, (p, (v, (c, l))))) = (
  d,
  f ∷ fs,
  (
    (m, a),
    (
      rw (append_assoc d (32 ∷ []) (f ++ spaced fs)) at (span_append q p),
      (v ∙ append_assoc before (value d ∷ []) (map value (f ∷ fs)), (c, (low, (high, l)))),
    ),
  ),
)
said_more s ascending most least before j e d ns (Refused n i) m q low high x = tt

numbers_said : (left : ℕ) (s : List ℕ) (ascending : Bool) (most least : ℕ) (before : List ℕ) (j : ℕ)
    → Said s ascending most least before j (numbers_at left s ascending most least before j).numbers
    (numbers_at left s ascending most least before j).read
unfolding numbers_at after_number Said Numerals spaced InLimits Judged
numbers_said zero s ascending most least before j = tt
numbers_said (suc left) s ascending most least before j =
    go (number_at s j least most) refl (number_judged s j least most)
    (λ (x : ℕ) (l : List ℕ) (e : ℕ). numbers_said left s ascending most x l e)
  where
    go : (r : Read) → number_at s j least most ≡ r → Judged s j least most r
        → ((x : ℕ) (l : List ℕ) (e : ℕ)
        → Said s ascending most x l e (numbers_at left s ascending most x l e).numbers
        (numbers_at left s ascending most x l e).read)
        → Said s ascending most least before j
        (after_number s ascending (numbers_at left s ascending most) before r).numbers
        (after_number s ascending (numbers_at left s ascending most) before r).read
    go (Refused n i) q g further = tt
    go (At e v) q (m, (p, w)) further =
        let a = number-after s j least most e v q in
        let low : least ≤ value (digits (drop j s)) = rw w at a.low in
        let high : value (digits (drop j s)) ≤ most = rw w at a.high in
        if_known (λ (x : ListRead). Said s ascending most least before j x.numbers x.read) (eqb (byte_at s e) 32) _
        _
        (λ t. let x = numbers_at left s ascending most (cond ascending (v + 1) 0) (before ++ v ∷ []) (e + 1) in
        let more = further (cond ascending (v + 1) 0) (before ++ v ∷ []) (e + 1) in
        said_more s ascending most least before j (e + 1) (digits (drop j s)) x.numbers x.read m
        (span_append p (span_byte s e 32 (eqb-true (byte_at s e) 32 t))) low high (rw (← w) more))
        (λ _. (
          digits (drop j s),
          [],
          (
            (m, tt),
            (
              rw (append-nil (digits (drop j s))) p,
              (rw w, (sym (length-append before (v ∷ [])), (low, (high, tt)))),
            ),
          ),
        ))

-- ---- Lists, and their closing bracket

-- A list that was read: its numbers stand there, with `text` between and around them, and are within the limits.
pub record ListSaid (text : List (List ℕ) → List ℕ) (s : List ℕ) (ascending : Bool) (most j : ℕ) (ns : List ℕ)
    (i n : ℕ) : Type 0 where
  pub list_digits : List (List ℕ)
  pub numerals : Numerals list_digits
  pub stands : Span s j (text list_digits) i
  pub values : map value list_digits ≡ ns
  pub many : length ns ≡ n
  pub limits : InLimits ascending 0 most ns

-- Where the reader stands behind a list, it stood before it.
abbrev Behind : (List (List ℕ) → List ℕ) → List ℕ → Bool → ℕ → Read → ListRead → Type 0
Behind text s ascending most r l =
    (i n : ℕ) → l.read ≡ At i n
    → (j : ℕ) × (v : ℕ) × ((r ≡ At j v) × ListSaid text s ascending most j l.numbers i n)

said_between : (s : List ℕ) (ascending : Bool) (most j i n : ℕ) (ns : List ℕ) (r : Read) → r ≡ At i n
    → Said s ascending most 0 [] j ns r
    → ListSaid between s ascending most j ns i n
unfolding Said between
said_between s ascending most j i n ns (Refused m k) e x = absurd (not_at i n m k (sym e))
said_between s ascending most j i n ns (At k m) e (d, ds, (a, (p, (v, (c, l))))) =
    let y : k ≡ i = cc in
    let z : m ≡ n = cc in
    record { list_digits = d ∷ ds; numerals = a; stands = rw y at p; values = sym v; many = sym c ∙ z; limits = rw v l }

said_spaced : (s : List ℕ) (most j i n : ℕ) (ns : List ℕ) (r : Read) → byte_at s j ≡ 32 → r ≡ At i n
    → Said s false most 0 [] (j + 1) ns r
    → ListSaid spaced s false most j ns i n
unfolding Said spaced
said_spaced s most j i n ns (Refused m k) b e x = absurd (not_at i n m k (sym e))
said_spaced s most j i n ns (At k m) b e (d, ds, (a, (p, (v, (c, l))))) =
    let y : k ≡ i = cc in
    let z : m ≡ n = cc in
    record {
      list_digits = d ∷ ds;
      numerals = a;
      stands = span_append (span_byte s j 32 b) (rw y at p);
      values = sym v;
      many = sym c ∙ z;
      limits = rw v l;
    }

-- An empty list.
none_said : (text : List (List ℕ) → List ℕ) (s : List ℕ) (ascending : Bool) (most j i n : ℕ) → text [] ≡ []
    → At j 0 ≡ At i n
    → ListSaid text s ascending most j [] i n
unfolding Numerals InLimits
none_said text s ascending most j i n t e =
    let y : j ≡ i = cc in
    let z : ◌≡◌ {A = ℕ} 0 n = cc in
    record { list_digits = []; numerals = tt; stands = rw (t, y) (span_nil s i); values = refl; many = z; limits = tt }

list_said : (s : List ℕ) (ascending : Bool) (most : ℕ) (r : Read)
    → Behind between s ascending most r (then_list s ascending most r)
unfolding then_list between
list_said s ascending most (Refused m k) i n e = absurd (not_at i n m k (sym e))
list_said s ascending most (At j v) i n e = (
  j,
  v,
  (
    refl,
    if_known (λ (l : ListRead). l.read ≡ At i n → ListSaid between s ascending most j l.numbers i n)
        (eqb (byte_at s j) 41) _ _
        (λ _ q. none_said between s ascending most j i n refl q)
        (λ _ q. said_between s ascending most j i n _ _ q (numbers_said (length s + 1) s ascending most 0 [] j)) e,
  ),
)

spaced_said : (s : List ℕ) (most : ℕ) (r : Read) → Behind spaced s false most r (then_spaced_list s most r)
unfolding then_spaced_list spaced
spaced_said s most (Refused m k) i n e = absurd (not_at i n m k (sym e))
spaced_said s most (At j v) i n e = (
  j,
  v,
  (
    refl,
    if_known (λ (l : ListRead). l.read ≡ At i n → ListSaid spaced s false most j l.numbers i n)
        (eqb (byte_at s j) 32) _ _
        (λ b q. said_spaced s most j i n _ _ (eqb-true (byte_at s j) 32 b) q
        (numbers_said (length s + 1) s false most 0 [] (j + 1)))
        (λ _ q. none_said spaced s false most j i n refl q) e,
  ),
)

-- The closing bracket of a list that was read.
close_said : (s : List ℕ) (fewest fullest : ℕ) (r : Read) (e n : ℕ) → then_close s fewest fullest r ≡ At e n
    → (i : ℕ) × ((r ≡ At i n) × (Span s i (41 ∷ []) e × ((fewest ≤ n) × (n ≤ fullest))))
unfolding then_close
close_said s fewest fullest (Refused m k) e n h = absurd (not_at e n m k (sym h))
close_said s fewest fullest (At k m) e n h =
    if_known Goal (eqb (byte_at s k) 41) _ (Refused 1 k)
    (λ t. if_known Goal (leb fewest m && leb m fullest) (At (k + 1) m) (Refused 10 k)
    (λ u f. let z : k + 1 ≡ e = cc in
    let w : m ≡ n = cc in
    let b = and-true (leb fewest m) (leb m fullest) u in (
      k,
      (
        rw w,
        (
          rw z at (span_byte s k 41 (eqb-true (byte_at s k) 41 t)),
          (rw w at (leb-true fewest m b.0), rw w at (leb-true m fullest b.1)),
        ),
      ),
    ))
    (λ _ f. absurd (not_at e n 10 k (sym f))))
    (λ _ f. absurd (not_at e n 1 k (sym f))) h
  where
    Goal : Read → Type 0
    Goal y = y ≡ At e n → (i : ℕ) × ((At k m ≡ At i n) × (Span s i (41 ∷ []) e × ((fewest ≤ n) × (n ≤ fullest))))

-- A list that was read with its closing bracket.
pub record ListClosed (text : List (List ℕ) → List ℕ) (s : List ℕ) (ascending : Bool) (most fewest fullest j : ℕ)
    (ns : List ℕ) (e n : ℕ) : Type 0 where
  pub last : ℕ
  pub said : ListSaid text s ascending most j ns last n
  pub bracket : Span s last (41 ∷ []) e
  pub enough : fewest ≤ n
  pub no_more : n ≤ fullest

-- What follows from that, with the reading before the list.
module _ {G : Type 0} where
  pub list_closed : (s : List ℕ) (ascending : Bool) (most fewest fullest : ℕ) (r : Read) (e n : ℕ)
      → then_close s fewest fullest (then_list s ascending most r).read ≡ At e n
      → ((j v : ℕ) → r ≡ At j v
      → ListClosed between s ascending most fewest fullest j (then_list s ascending most r).numbers e n → G) → G
  list_closed s ascending most fewest fullest r e n h then =
      let c = close_said s fewest fullest (then_list s ascending most r).read e n h in
      let l = list_said s ascending most r c.0 n c.1.0 in
      then l.0 l.1 l.2.0
      (record { last = c.0; said = l.2.1; bracket = c.1.1.0; enough = c.1.1.1.0; no_more = c.1.1.1.1 })

  pub spaced_closed : (s : List ℕ) (most fewest fullest : ℕ) (r : Read) (e n : ℕ)
      → then_close s fewest fullest (then_spaced_list s most r).read ≡ At e n
      → ((j v : ℕ) → r ≡ At j v
      → ListClosed spaced s false most fewest fullest j (then_spaced_list s most r).numbers e n → G) → G
  spaced_closed s most fewest fullest r e n h then =
      let c = close_said s fewest fullest (then_spaced_list s most r).read e n h in
      let l = spaced_said s most r c.0 n c.1.0 in
      then l.0 l.1 l.2.0
      (record { last = c.0; said = l.2.1; bracket = c.1.1.0; enough = c.1.1.1.0; no_more = c.1.1.1.1 })
