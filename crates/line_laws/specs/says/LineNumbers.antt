-- A line that is read says the numbers that are read.
use Rattle.std.specs.Prelude.{ℕ, zero, suc, ◌+◌, ◌≤◌, ◌<◌, ◌≡◌, true, false, ◌&&◌, ltb, eqb, length, drop}
use Rattle.std.proofs.Common.{arith, add-zero, sym, ap, ◌∙◌, ext_get_or, ltb-false, eqb-true}
use Rattle.std.proofs.Math.Path.{refl}
use mathlib.Core.List.{List, [], ◌∷◌}
use Rattle.codec.specs.Ascii.{ascii}
use Rattle.rules.specs.Text.{byte_at}
use Rattle.rules.specs.Fault.{StandsAt, Span}
use Rattle.rules.specs.reading.WordLaws.{span_nil, span_byte, span_append}
use Rattle.line_pieces.specs.Read.{Read, At, Refused}
use Rattle.codec.specs.Decimal.{digits, value}
use Rattle.line_pieces.specs.NumberLaws.{inside, number-after}
use Rattle.line_pieces.specs.Reading.{value_read, then_byte, then_bytes, head_read, then_number, then_end, line_limit, limited, then_last}
use Rattle.line_pieces.specs.NumberList.{then_list, then_spaced_list, then_close, eight_values}
use Rattle.lines.specs.WatchLine.{Watch}
use Rattle.lines.specs.StartLine.{Start}
use Rattle.lines.specs.DidLine.{Did}
use Rattle.lines.specs.Words.{packed_word}
use Rattle.lines.specs.Lines.{k_limit, count_limit, label_limit, process_limit, room_limit, watch_of, watch_line, start_of, start_line, did_of, did_line}
use Rattle.line_laws.specs.Grammar.{Numeral, between}
use Rattle.line_laws.specs.LineSays.{WatchSays, StartSays, DidSays}
use Rattle.line_laws.specs.pieces.NumberTextRead.{if_known}
use Rattle.line_laws.specs.faults.TenIsFault.{not_at, Judged, number_judged}
use Rattle.line_laws.specs.says.ListNumbers.{ListClosed, list_closed, spaced_closed}

-- ---- A line's last byte

pub stands_bytes : (s : List ℕ) (t : List ℕ) (i l : ℕ) → StandsAt s i t → l < length t → byte_at s (i + l) ≡ byte_at t l
unfolding StandsAt
stands_bytes s [] i l h k = absurd (omega arith)
stands_bytes s (b ∷ t) i zero h k = rw (add-zero i) h.0
stands_bytes s (b ∷ t) i (suc l) h k = let z : i + suc l ≡ i + 1 + l = omega arith in
    rw z (stands_bytes s t (i + 1) l h.1 (omega arith))

-- Bytes that stand from a line's first place to behind its last are the line.
pub whole_line : (s t : List ℕ) (e : ℕ) → Span s 0 t e → e ≡ length s → s ≡ t
whole_line s t e p h =
    ext_get_or 256 s t (omega (arith, p.ends))
    (λ l k. let z : 0 + l ≡ l = omega arith in rw z at (stands_bytes s t 0 l p.stands (omega (arith, p.ends))))

-- Behind the closing bracket the line ends, within the limit.
ended : (s : List ℕ) (r : Read) (i v : ℕ) → limited s (then_end s r) ≡ At i v
    → (r ≡ At i v) × ((length s ≤ i) × (length s ≤ line_limit))
unfolding limited then_end
ended s (Refused n j) i v h =
    absurd (if_known (λ (x : Read). x ≡ At i v → ⊥) (ltb line_limit (length s) && ltb line_limit j)
    (Refused 10 line_limit) (Refused n j)
    (λ _ f. not_at i v 10 line_limit (sym f)) (λ _ f. not_at i v n j (sym f)) h)
ended s (At j w) i v h =
    if_known (λ (x : Read). limited s x ≡ At i v → (At j w ≡ At i v) × ((length s ≤ i) × (length s ≤ line_limit)))
    (ltb j (length s)) (Refused 1 j) (At j w)
    (λ _ f. absurd (if_known (λ (x : Read). x ≡ At i v → ⊥) (ltb line_limit (length s) && ltb line_limit j)
    (Refused 10 line_limit) (Refused 1 j)
    (λ _ g. not_at i v 10 line_limit (sym g)) (λ _ g. not_at i v 1 j (sym g)) f))
    (λ t f. if_known (λ (x : Read). x ≡ At i v → (At j w ≡ At i v) × ((length s ≤ i) × (length s ≤ line_limit)))
    (ltb line_limit (length s)) (Refused 10 line_limit) (At j w)
    (λ _ g. absurd (not_at i v 10 line_limit (sym g)))
    (λ u g. let z : j ≡ i = cc in (g, (rw z at (ltb-false j (length s) t), ltb-false line_limit (length s) u))) f) h

-- A byte stands inside the line.
last_inside : (s : List ℕ) (i e : ℕ) → Span s i (41 ∷ []) e → length s ≤ e → e ≡ length s
unfolding StandsAt
last_inside s i e p h = let k = inside s i (omega (arith, p.stands.0)) in omega (arith, p.ends, k)

-- ---- What was met before, piece by piece

module _ {G : Type 0} where
  -- A byte that was met leaves the number read last.
  byte_before : (s : List ℕ) (b : ℕ) (r : Read) (e v : ℕ) → then_byte s b r ≡ At e v
      → ((i : ℕ) → r ≡ At i v → Span s i (b ∷ []) e → G) → G
  unfolding then_byte
  byte_before s b (Refused n k) e v h then = absurd (not_at e v n k (sym h))
  byte_before s b (At k w) e v h then =
      if_known (λ (x : Read). x ≡ At e v → G) (eqb (byte_at s k) b) (At (k + 1) w) (Refused 1 k)
      (λ t f. let y : k + 1 ≡ e = cc in
      let z : w ≡ v = cc in
      then k (rw z) (rw y at (span_byte s k b (eqb-true (byte_at s k) b t))))
      (λ _ f. absurd (not_at e v 1 k (sym f))) h

  bytes_before : (s bs : List ℕ) (r : Read) (e v : ℕ) → then_bytes s bs r ≡ At e v
      → ((i : ℕ) → r ≡ At i v → Span s i bs e → G) → G
  unfolding then_bytes
  bytes_before s bs r e v h then = go bs r h (λ i q p. then i q p)
    where
      go : (xs : List ℕ) (q : Read) → then_bytes s xs q ≡ At e v → ((i : ℕ) → q ≡ At i v → Span s i xs e → G) → G
      go [] q f k = k e f (span_nil s e)
      go (x ∷ xs) q f k = go xs (then_byte s x q) f (λ i g p. byte_before s x q i v g (λ j y z. k j y (span_append z p)))

  -- The closing bracket and the line's end, within the limit.
  last-before : (s : List ℕ) (r : Read) (i v : ℕ) → then_last s r ≡ At i v
      → ((e : ℕ) → r ≡ At e v → Span s e (41 ∷ []) i → length s ≤ i → length s ≤ line_limit → G) → G
  unfolding then_last
  last-before s r i v h then =
      let end = ended s (then_byte s 41 r) i v h in
      byte_before s 41 r i v end.0 (λ e q p. then e q p end.1.0 end.1.1)

  -- A number.
  number-before : (s : List ℕ) (least most : ℕ) (r : Read) (e v : ℕ) → then_number s least most r ≡ At e v
      → ((i w : ℕ) (ds : List ℕ) → r ≡ At i w → Numeral ds → Span s i ds e → value ds ≡ v → least ≤ v → v ≤ most → G)
      → G
  unfolding then_number Judged
  number-before s least most (Refused m k) e v h then = absurd (not_at e v m k (sym h))
  number-before s least most (At i w) e v h then =
      let a = number-after s i least most e v h in
      let g : Judged s i least most (At e v) = rw h at (number_judged s i least most) in
      then i w (digits (drop i s)) refl g.0 g.1.0 (sym g.1.1) a.low a.high

pub head_met : (s bs : List ℕ) (e v : ℕ) → head_read s bs ≡ At e v → Span s 0 bs e
head_met s bs e v h = bytes_before s bs (At 0 0) e v h (λ i q p. let z : i ≡ 0 = cc in rw z at p)

-- ---- An event's line

did_answers : (n : ℕ) (ps cs ls : List ℕ) (r : Read) (mask c01 c23 c45 c67 labels : ℕ)
    → did_of n ps cs ls r ≡ Did mask c01 c23 c45 c67 labels
    → (i : ℕ) × (v : ℕ) × ((r ≡ At i v) × (did_of n ps cs ls (At 0 0) ≡ Did mask c01 c23 c45 c67 labels))
unfolding did_of
did_answers n ps cs ls (At i v) mask c01 c23 c45 c67 labels e = (i, v, (refl, e))
did_answers n ps cs ls (Refused m i) mask c01 c23 c45 c67 labels e =
    let z : ◌≡◌ {A = ℕ} 0 1 = cc in absurd (omega arith)

-- The parts of a line that stand one behind the other.
did_parts : (s : List ℕ) (k n j₁ e₁ m₁ j₂ e₂ m₂ j₃ e₃ m₃ i : ℕ) (ps cs ls : List ℕ) → Span s 0 (ascii "(did (") j₁
    → ListClosed between s true process_limit 1 8 j₁ ps e₁ m₁ → Span s e₁ (ascii " (") j₂
    → ListClosed between s false count_limit k k j₂ cs e₂ m₂
    → Span s e₂ (ascii " (") j₃ → ListClosed between s false label_limit n n j₃ ls e₃ m₃ → n ≡ length ps
    → Span s e₃ (41 ∷ []) i → length s ≤ i
    → length s ≤ line_limit → DidSays s k ps cs ls
did_parts s k n j₁ e₁ m₁ j₂ e₂ m₂ j₃ e₃ m₃ i ps cs ls head p b₁ c b₂ l size last end short = record {
  process_digits = p.said.list_digits;
  count_digits = c.said.list_digits;
  label_digits = l.said.list_digits;
  numerals = (p.said.numerals, (c.said.numerals, l.said.numerals));
  text = whole_line s _ i (span_append head (span_append p.said.stands (span_append (span_append p.bracket b₁)
      (span_append c.said.stands
      (span_append (span_append c.bracket b₂) (span_append l.said.stands (span_append l.bracket last)))))))
      (last_inside s e₃ i last end);
  values = (p.said.values, (c.said.values, l.said.values));
  limits = (p.said.limits, (c.said.limits, l.said.limits));
  some = omega (arith, p.said.many, p.enough);
  counts_many = omega (arith, c.said.many, c.enough, c.no_more);
  labels_many = omega (arith, l.said.many, l.enough, l.no_more, size);
  short = short;
}

-- From behind the line's end to its first byte.
did_read_said : (s : List ℕ) (k n i v : ℕ) (first second : Read)
    → first ≡ then_close s 1 8 (then_list s true process_limit (head_read s (ascii "(did ("))).read
    → n ≡ value_read first → second ≡ then_close s k k (then_list s false count_limit
    (then_bytes s (ascii " (") first)).read
    → then_last s (then_close s n n (then_list s false label_limit (then_bytes s (ascii " (") second)).read) ≡ At i v
    → DidSays s k (then_list s true process_limit (head_read s (ascii "(did ("))).numbers
    (then_list s false count_limit (then_bytes s (ascii " (") first)).numbers
    (then_list s false label_limit (then_bytes s (ascii " (") second)).numbers
    × (n ≡ length (then_list s true process_limit (head_read s (ascii "(did ("))).numbers)
unfolding value_read
did_read_said s k n i v first second f e g h =
    last-before s _ i v h (λ e₃ q₃ last end short.
    list_closed s false label_limit n n (then_bytes s (ascii " (") second) e₃ v q₃ (λ j₃ v₃ r₃ l.
    bytes_before s (ascii " (") second j₃ v₃ r₃ (λ e₂ q₂ b₂.
    list_closed s false count_limit k k (then_bytes s (ascii " (") first) e₂ v₃ (sym g ∙ q₂) (λ j₂ v₂ r₂ c.
    bytes_before s (ascii " (") first j₂ v₂ r₂ (λ e₁ q₁ b₁.
    list_closed s true process_limit 1 8 (head_read s (ascii "(did (")) e₁ v₂ (sym f ∙ q₁) (λ j₁ v₁ r₁ p.
    let size = e ∙ ap value_read q₁ ∙ sym p.said.many in (
      did_parts s k n j₁ e₁ v₂ j₂ e₂ v₃ j₃ e₃ v i _ _ _ (head_met s (ascii "(did (") j₁ v₁ r₁) p b₁ c b₂ l size last
          end short,
      size,
    )))))))

-- The numbers that are read are those that the line says, and its words are made of them.
pub did_said : (s : List ℕ) (k mask c01 c23 c45 c67 labels : ℕ) → did_line s k ≡ Did mask c01 c23 c45 c67 labels
    → (ps cs ls : List ℕ)
    × (DidSays s k ps cs ls × (did_of (length ps) ps cs ls (At 0 0) ≡ Did mask c01 c23 c45 c67 labels))
unfolding did_line
did_said s k mask c01 c23 c45 c67 labels h =
    let a = did_answers _ _ _ _ _ mask c01 c23 c45 c67 labels h in
    let d = did_read_said s k _ a.0 a.1 _ _ refl refl refl a.2.0 in
    (_, _, _, (d.0, rw (← d.1) a.2.1))

-- ---- The line with the start labels

start_answers : (ls : List ℕ) (r : Read) (labels : ℕ) → start_of ls r ≡ Start labels
    → (i : ℕ) × (v : ℕ) × ((r ≡ At i v) × (labels ≡ packed_word 256 ls))
unfolding start_of
start_answers ls (At i v) labels e = (i, v, (refl, cc))
start_answers ls (Refused m i) labels e = let z : ◌≡◌ {A = ℕ} 0 1 = cc in absurd (omega arith)

pub start_said : (s : List ℕ) (k labels : ℕ) → start_line s k ≡ Start labels
    → (ls : List ℕ) × (StartSays s k ls × (labels ≡ packed_word 256 (eight_values ls)))
unfolding start_line
start_said s k labels h =
    let a = start_answers _ _ labels h in
    let end = ended s _ a.0 a.1 a.2.0 in
    (_, (said a.0 a.1 end.0 end.1.0 end.1.1, a.2.1))
  where
    said : (i v : ℕ) → then_close s k k (then_spaced_list s label_limit (head_read s (ascii "(start"))).read ≡ At i v
        → length s ≤ i → length s ≤ line_limit
        → StartSays s k (then_spaced_list s label_limit (head_read s (ascii "(start"))).numbers
    said i v q end short =
        spaced_closed s label_limit k k (head_read s (ascii "(start")) i v q (λ j w r l. record {
          label_digits = l.said.list_digits;
          numerals = l.said.numerals;
          text = whole_line s _ i
              (span_append (head_met s (ascii "(start") j w r) (span_append l.said.stands l.bracket))
              (last_inside s l.last i l.bracket end);
          values = l.said.values;
          limits = l.said.limits;
          many = omega (arith, l.said.many, l.enough, l.no_more);
          short = short;
        })

-- ---- The line that opens

watch_answers : (n : ℕ) (r : Read) (k room : ℕ) → watch_of n r ≡ Watch k room → (i : ℕ) × ((r ≡ At i room) × (n ≡ k))
unfolding watch_of
watch_answers n (At i v) k room e = let z : v ≡ room = cc in (i, (rw z, cc))
watch_answers n (Refused m i) k room e = let z : ◌≡◌ {A = ℕ} 0 1 = cc in absurd (omega arith)

pub watch_said : (s : List ℕ) (k room : ℕ) → watch_line s ≡ Watch k room → WatchSays s k room
unfolding watch_line value_read
watch_said s k room h = let a = watch_answers _ _ k room h in said a.0 a.1.0 a.1.1
  where
    said : (i : ℕ) → then_last s
        (then_number s 1 room_limit (then_byte s 32 (then_number s 0 k_limit (head_read s (ascii "(watch ")))))
        ≡ At i room
        → value_read (then_number s 0 k_limit (head_read s (ascii "(watch "))) ≡ k → WatchSays s k room
    said i q e =
        last-before s _ i room q (λ e₂ q₂ last end short.
        number-before s 1 room_limit _ e₂ room q₂ (λ j₂ v₂ r r₂ numeral₂ span₂ is₂ low₂ high₂.
        byte_before s 32 _ j₂ v₂ r₂ (λ e₁ q₁ space.
        number-before s 0 k_limit (head_read s (ascii "(watch ")) e₁ v₂ q₁
        (λ j₁ v₁ p r₁ numeral₁ span₁ is₁ low₁ high₁.
        let same : v₂ ≡ k = sym (ap value_read q₁) ∙ e in
        record {
          k_digits = p;
          room_digits = r;
          numerals = (numeral₁, numeral₂);
          text = whole_line s _ i
              (span_append (head_met s (ascii "(watch ") j₁ v₁ r₁)
              (span_append span₁ (span_append space (span_append span₂ last))))
              (last_inside s e₂ i last end);
          values = (is₁ ∙ same, is₂);
          limits = (rw same at high₁, (low₂, high₂));
          short = short;
        }))))
