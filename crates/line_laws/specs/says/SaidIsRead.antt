-- A line that says numbers within the limits is read, to these numbers.
use Rattle.std.specs.Prelude.{ℕ, zero, suc, ◌+◌, ◌≤◌, ◌<◌, ◌≡◌, refl, Bool, true, false, cond, List, [], ◌∷◌, ◌++◌, map}
use Rattle.std.proofs.Common.{arith, add-zero, zero-add, ◌∙◌, append_assoc, append-nil, length-append, eq-eqb, ne_eqb, le-leb, le-ltb}
use Rattle.std.proofs.Math.Path.{sym, ap}
use Rattle.std.proofs.Math.ListN.{length}
use Rattle.std.proofs.lemmas.List.{length-map}
use Rattle.codec.specs.Ascii.{ascii}
use Rattle.rules.specs.Text.{byte_at}
use Rattle.rules.specs.Fault.{StandsAt}
use Rattle.line_pieces.specs.Read.{At}
use Rattle.codec.specs.Decimal.{is_digit, value}
use Rattle.line_pieces.specs.Number.{number_of, number_at}
use Rattle.line_pieces.specs.NumberLaws.{digit_bounds}
use Rattle.line_pieces.specs.Reading.{value_read, then_byte, then_bytes, then_number, then_end, line_limit, limited, then_last}
use Rattle.line_pieces.specs.NumberList.{list_read, after_number, numbers_at, then_list, then_spaced_list, then_close, eight_values}
use Rattle.lines.specs.WatchLine.{Watch}
use Rattle.lines.specs.StartLine.{Start}
use Rattle.lines.specs.Words.{packed_word}
use Rattle.lines.specs.Lines.{k_limit, count_limit, label_limit, process_limit, room_limit, watch_of, watch_line, start_of, start_line, did_of, did_line}
use Rattle.line_laws.specs.Grammar.{AllDigits, Numeral, Numerals, spaced, between}
use Rattle.line_laws.specs.LineSays.{InLimits, WatchSays, StartSays, DidSays}
use Rattle.line_laws.specs.pieces.NumberTextRead.{plain-test}
use Rattle.line_laws.specs.faults.TenStops.{exact_digits, stands_right, first_inside}
use Rattle.line_laws.specs.faults.FaultTheorem.{stands_of}

-- ---- Numbers and lists of them

numeral-within : (ds : List ℕ) (i least most : ℕ) → Numeral ds → least ≤ value ds → value ds ≤ most
    → number_of ds i least most ≡ At (i + length ds) (value ds)
unfolding number_of
numeral-within [] i least most n low high = absurd (omega (arith, n.some))
numeral-within (d ∷ ds) i least most n low high =
    rw (plain-test d ds n, le-leb least (value (d ∷ ds)) low, le-leb (value (d ∷ ds)) most high)

number-within : (s ds : List ℕ) (i c : ℕ) (xs : List ℕ) (least most : ℕ) → Numeral ds → is_digit c ≡ false
    → StandsAt s i (ds ++ c ∷ xs)
    → least ≤ value ds → value ds ≤ most → number_at s i least most ≡ At (i + length ds) (value ds)
unfolding number_at
number-within s ds i c xs least most n q h low high =
    rw (exact_digits s ds i c xs n.all q h) (numeral-within ds i least most n low high)

numbers_within : (ds : List (List ℕ)) (left : ℕ) (s : List ℕ) (ascending : Bool) (most least : ℕ) (before : List ℕ)
    (j : ℕ) (d : List ℕ) (xs : List ℕ)
    → Numerals (d ∷ ds) → InLimits ascending least most (map value (d ∷ ds)) → length s < j + left
    → StandsAt s j (d ++ (spaced ds ++ 41 ∷ xs))
    → numbers_at left s ascending most least before j
    ≡ list_read (before ++ map value (d ∷ ds)) (At (j + length (d ++ spaced ds)) (length before + suc (length ds)))
unfolding spaced Numerals InLimits numbers_at after_number StandsAt
numbers_within ds zero s ascending most least before j d xs n l f h =
    absurd (let p = first_inside s j d (spaced ds ++ 41 ∷ xs) n.0 h in omega (arith, p))
numbers_within [] (suc left) s ascending most least before j d xs n l f h =
    rw (
      number-within s d j 41 xs least most n.0 refl h l.0 l.1.0,
      (stands_right s j d
          (41 ∷ xs) h).0,
      append-nil d,
    )
numbers_within (g ∷ gs) (suc left) s ascending most least before j d xs n l f h =
    let right = stands_right s j d (32 ∷ ((g ++ spaced gs) ++ 41 ∷ xs)) h in
    let total : j + length d + 1 + length (g ++ spaced gs) ≡ j + length (d ++ 32 ∷ (g ++ spaced gs)) =
    omega (arith, length-append d (32 ∷ (g ++ spaced gs))) in
    let count : length (before ++ value d ∷ []) + suc (length gs) ≡ length before + suc (suc (length gs)) =
    omega (arith, length-append before (value d ∷ [])) in
    let further = numbers_within gs left s ascending most (cond ascending (value d + 1) 0) (before ++ value d ∷ [])
    (j + length d + 1) g xs n.1 l.1.1 (omega arith)
    (rw (append_assoc g (spaced gs) (41 ∷ xs)) at right.1)
    in
    rw (number-within s d j 32 ((g ++ spaced gs) ++ 41 ∷ xs) least most n.0 refl h l.0 l.1.0, right.0)
    (further ∙ rw (total, count, append_assoc before (value d ∷ []) (map value (g ∷ gs))))

-- ---- Pieces that stand are passed

-- A list behind its opening bracket, or behind a line's word.
list-within : (s : List ℕ) (ascending : Bool) (most j v : ℕ) (ns : List (List ℕ)) (xs : List ℕ) → Numerals ns
    → InLimits ascending 0 most (map value ns)
    → StandsAt s j (between ns ++ 41 ∷ xs)
    → then_list s ascending most (At j v) ≡ list_read (map value ns) (At (j + length (between ns)) (length ns))
unfolding then_list between Numerals StandsAt AllDigits
list-within s ascending most j v [] xs a l h = rw (h.0, add-zero j)
list-within s ascending most j v (d ∷ ds) xs a l h =
    let h' : StandsAt s j (d ++ (spaced ds ++ 41 ∷ xs)) = rw (append_assoc d (spaced ds) (41 ∷ xs)) at h in
    rw (ne_eqb (byte_at s j) 41 (λ e. bracket d a.0 (spaced ds ++ 41 ∷ xs) h' e))
    (numbers_within ds (length s + 1) s ascending most 0 [] j d xs a l (omega arith) h'
    ∙ rw (zero-add (suc (length ds))))
  where
    bracket : (ys : List ℕ) → Numeral ys → (zs : List ℕ) → StandsAt s j (ys ++ zs) → byte_at s j ≡ 41 → ⊥
    bracket [] n zs q e = omega (arith, n.some)
    bracket (y ∷ ys) n zs q e = let b = digit_bounds y n.all.0 in omega (arith, b.0, q.0)

spaced-within : (s : List ℕ) (most j v : ℕ) (ns : List (List ℕ)) (xs : List ℕ) → Numerals ns
    → InLimits false 0 most (map value ns)
    → StandsAt s j (spaced ns ++ 41 ∷ xs)
    → then_spaced_list s most (At j v) ≡ list_read (map value ns) (At (j + length (spaced ns)) (length ns))
unfolding then_spaced_list spaced Numerals StandsAt
spaced-within s most j v [] xs a l h = rw (h.0, add-zero j)
spaced-within s most j v (d ∷ ds) xs a l h =
    let h' : StandsAt s (j + 1) (d ++ (spaced ds ++ 41 ∷ xs)) = rw (append_assoc d (spaced ds) (41 ∷ xs)) at h.1 in
    let z : j + 1 + length (d ++ spaced ds) ≡ j + suc (length (d ++ spaced ds)) = omega arith in
    rw h.0 (numbers_within ds (length s + 1) s false most 0 [] (j + 1) d xs a l (omega arith) h'
    ∙ rw (zero-add (suc (length ds)), z))

close_within : (s : List ℕ) (fewest fullest i n : ℕ) → byte_at s i ≡ 41 → fewest ≤ n → n ≤ fullest
    → then_close s fewest fullest (At i n) ≡ At (i + 1) n
unfolding then_close
close_within s fewest fullest i n b low high = rw (b, le-leb fewest n low, le-leb n fullest high)

-- Bytes that stand are passed.
pub bytes_within : (s bs xs : List ℕ) (j v : ℕ) → StandsAt s j (bs ++ xs) → then_bytes s bs (At j v)
    ≡ At (j + length bs) v
unfolding then_bytes then_byte StandsAt
bytes_within s [] xs j v h = rw (add-zero j)
bytes_within s (b ∷ bs) xs j v h =
    let z : j + 1 + length bs ≡ j + suc (length bs) = omega arith in
    rw (h.0, eq-eqb b b refl) (bytes_within s bs xs (j + 1) v h.1 ∙ rw z)

-- The line's end, within the limit.
end-within : (s : List ℕ) (i v : ℕ) → length s ≤ i → length s ≤ line_limit → limited s (then_end s (At i v)) ≡ At i v
unfolding limited then_end
end-within s i v h short = rw (le-ltb i (length s) h, le-ltb line_limit (length s) short)

-- The rest of a line, from a place to its end, is this text.
pub record Ends (s : List ℕ) (i : ℕ) (xs : List ℕ) : Type 0 where
  pub stands : StandsAt s i xs
  pub size : length s ≡ i + length xs

pub ends-all : (s t : List ℕ) → s ≡ t → Ends s 0 t
ends-all s t e = record {
  stands = stands_of s t 0 (λ l p. let z : 0 + l ≡ l = omega arith in rw (z, e));
  size = let n = ap length e in omega (arith, n);
}

pub ends_on : (s : List ℕ) (i : ℕ) (xs ys : List ℕ) → Ends s i (xs ++ ys) → Ends s (i + length xs) ys
ends_on s i xs ys h = record {
  stands = stands_right s i xs ys h.stands;
  size = omega (arith, length-append xs ys, h.size);
}

-- What is read of each piece, and the rest behind it, with a name for the place.
module _ {G : Type 0} where
  pass_bytes : (s bs xs : List ℕ) (j v : ℕ) → Ends s j (bs ++ xs)
      → ((e : ℕ) → then_bytes s bs (At j v) ≡ At e v → Ends s e xs → G) → G
  pass_bytes s bs xs j v h then = then (j + length bs) (bytes_within s bs xs j v h.stands) (ends_on s j bs xs h)

  pass_list : (s : List ℕ) (ascending : Bool) (most fewest fullest j v : ℕ) (ds : List (List ℕ)) (ns xs : List ℕ)
      → Numerals ds → map value ds ≡ ns
      → InLimits ascending 0 most ns → fewest ≤ length ns → length ns ≤ fullest → Ends s j (between ds ++ 41 ∷ xs)
      → ((i e : ℕ) → then_list s ascending most (At j v) ≡ list_read ns (At i (length ns))
      → then_close s fewest fullest (At i (length ns)) ≡ At e (length ns)
      → Ends s e xs → G) → G
  unfolding StandsAt
  pass_list s ascending most fewest fullest j v ds ns xs a e l low high h then =
      let n : length ds ≡ length ns = sym (length-map ds value) ∙ ap length e in
      let i = j + length (between ds) in
      let list : then_list s ascending most (At j v) ≡ list_read ns (At i (length ns)) =
      list-within s ascending most j v ds xs a (rw e l) h.stands ∙ rw (n, e)
      in
      let behind = ends_on s j (between ds) (41 ∷ xs) h in
      then i (i + 1) list (close_within s fewest fullest i (length ns) behind.stands.0 low high)
      (ends_on s i (41 ∷ []) xs behind)

  pass_spaced : (s : List ℕ) (most fewest fullest j v : ℕ) (ds : List (List ℕ)) (ns xs : List ℕ) → Numerals ds
      → map value ds ≡ ns
      → InLimits false 0 most ns → fewest ≤ length ns → length ns ≤ fullest → Ends s j (spaced ds ++ 41 ∷ xs)
      → ((i e : ℕ) → then_spaced_list s most (At j v) ≡ list_read ns (At i (length ns))
      → then_close s fewest fullest (At i (length ns)) ≡ At e (length ns)
      → Ends s e xs → G) → G
  unfolding StandsAt
  pass_spaced s most fewest fullest j v ds ns xs a e l low high h then =
      let n : length ds ≡ length ns = sym (length-map ds value) ∙ ap length e in
      let i = j + length (spaced ds) in
      let list : then_spaced_list s most (At j v) ≡ list_read ns (At i (length ns)) =
      spaced-within s most j v ds xs a (rw e l) h.stands ∙ rw (n, e)
      in
      let behind = ends_on s j (spaced ds) (41 ∷ xs) h in
      then i (i + 1) list (close_within s fewest fullest i (length ns) behind.stands.0 low high)
      (ends_on s i (41 ∷ []) xs behind)

  pass_number : (s : List ℕ) (least most j v c : ℕ) (ds xs : List ℕ) → Numeral ds → is_digit c ≡ false
      → least ≤ value ds → value ds ≤ most
      → Ends s j (ds ++ c ∷ xs)
      → ((e : ℕ) → then_number s least most (At j v) ≡ At e (value ds) → Ends s e (c ∷ xs) → G) → G
  unfolding then_number
  pass_number s least most j v c ds xs n q low high h then =
      then (j + length ds) (number-within s ds j c xs least most n q h.stands low high) (ends_on s j ds (c ∷ xs) h)

ended_read : (s : List ℕ) (e v : ℕ) → Ends s e [] → length s ≤ line_limit → limited s (then_end s (At e v)) ≡ At e v
ended_read s e v h short = end-within s e v (omega (arith, h.size)) short

last_read : (s : List ℕ) (e v : ℕ) → Ends s e (41 ∷ []) → length s ≤ line_limit → then_last s (At e v) ≡ At (e + 1) v
unfolding then_last then_byte StandsAt
last_read s e v h short = rw h.stands.0 (ended_read s (e + 1) v (ends_on s e (41 ∷ []) [] h) short)

-- ---- The lines

pub start_said_read : (s : List ℕ) (k : ℕ) (ls : List ℕ) → StartSays s k ls
    → start_line s k ≡ Start (packed_word 256 (eight_values ls))
unfolding start_line start_of
start_said_read s k ls x =
    pass_bytes s (ascii "(start") (spaced x.label_digits ++ 41 ∷ []) 0 0 (ends-all s _ x.text) (λ j head h₁.
    pass_spaced s label_limit k k j 0 x.label_digits ls [] x.numerals x.values x.limits
    (omega (arith, x.many)) (omega (arith, x.many)) h₁ (λ i e list close h₂.
    rw (head, list, close, ended_read s e (length ls) h₂ x.short)))

pub watch_said_read : (s : List ℕ) (k room : ℕ) → WatchSays s k room → watch_line s ≡ Watch k room
unfolding watch_line watch_of value_read then_byte StandsAt
watch_said_read s k room x =
    pass_bytes s (ascii "(watch ") (x.k_digits ++ 32 ∷ (x.room_digits ++ 41 ∷ [])) 0 0 (ends-all s _ x.text)
    (λ j head h₁.
    pass_number s 0 k_limit j 0 32 x.k_digits (x.room_digits ++ 41 ∷ []) x.numerals.0 refl (omega arith)
    (omega (arith, x.values.0, x.limits.0)) h₁ (λ e₁ first h₂.
    pass_number s 1 room_limit (e₁ + 1) (value x.k_digits) 41 x.room_digits [] x.numerals.1 refl
    (omega (arith, x.values.1, x.limits.1.0))
    (omega (arith, x.values.1, x.limits.1.1)) (ends_on s e₁ (32 ∷ []) (x.room_digits ++ 41 ∷ []) h₂)
    (λ e₂ second h₃.
    rw (
      head,
      first,
      h₂.stands.0,
      second,
      last_read s e₂ (value x.room_digits) h₃
          x.short,
      x.values.0,
      x.values.1,
    ))))

-- An ascending list has no more numbers than there are up to the limit.
few : (least most : ℕ) (vs : List ℕ) → InLimits true least most vs → least ≤ most + 1 → length vs + least ≤ most + 1
unfolding InLimits
few least most [] h l = omega arith
few least most (v ∷ vs) h l = let q = few (v + 1) most vs h.1.1 (omega (arith, h.1.0)) in omega (arith, q, h.0)

pub did_said_read : (s : List ℕ) (k : ℕ) (ps cs ls : List ℕ) → DidSays s k ps cs ls
    → did_line s k ≡ did_of (length ps) ps cs ls (At 0 0)
unfolding did_line did_of value_read
did_said_read s k ps cs ls x =
    let ending : List ℕ = ascii "))" in
    let labels : List ℕ = ascii " (" ++ (between x.label_digits ++ ending) in
    let counts : List ℕ = ascii " (" ++ (between x.count_digits ++ 41 ∷ labels) in
    pass_bytes s (ascii "(did (") (between x.process_digits ++ 41 ∷ counts) 0 0 (ends-all s _ x.text)
    (λ j₁ head h₁.
    pass_list s true process_limit 1 8 j₁ 0 x.process_digits ps counts x.numerals.0 x.values.0
    x.limits.0 x.some
    (omega (arith, few 0 process_limit ps x.limits.0 (omega arith))) h₁ (λ i₁ e₁ list₁ close₁ h₂.
    pass_bytes s (ascii " (") (between x.count_digits ++ 41 ∷ labels) e₁ (length ps) h₂ (λ j₂ bytes₁ h₃.
    pass_list s false count_limit k k j₂ (length ps) x.count_digits cs labels x.numerals.1.0 x.values.1.0
    x.limits.1.0
    (omega (arith, x.counts_many)) (omega (arith, x.counts_many)) h₃ (λ i₂ e₂ list₂ close₂ h₄.
    pass_bytes s (ascii " (") (between x.label_digits ++ ending) e₂ (length cs) h₄ (λ j₃ bytes₂ h₅.
    pass_list s false label_limit (length ps) (length ps) j₃ (length cs) x.label_digits ls (41 ∷ [])
    x.numerals.1.1 x.values.1.1 x.limits.1.1
    (omega (arith, x.labels_many)) (omega (arith, x.labels_many)) h₅ (λ i₃ e₃ list₃ close₃ h₆.
    rw (
      head,
      list₁,
      close₁,
      bytes₁,
      list₂,
      close₂,
      bytes₂,
      list₃,
      close₃,
      last_read s e₃ (length ls) h₆
          x.short,
    )))))))
