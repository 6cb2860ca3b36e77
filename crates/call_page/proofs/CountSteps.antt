-- A count's digits, laid over blanks from the right: what one turn of the loop adds.
use Prim.Native.Nat.{ℕ, zero, suc, ◌+◌, ◌-◌, ◌/◌, ◌%◌, ◌^◌, ◌≤◌, ◌<◌}
use native.Mathlib.Omega.{arith}
use native.Mathlib.Nat.{pow-suc}
use mathlib.Core.Path.{◌≡◌, refl, sym, ap, ◌∙◌}
use mathlib.Core.List.{List, [], ◌∷◌, ◌++◌, append_assoc}
use lib.ListN.{length, get_or, take, drop, set, replicate, length-append, length-replicate, take-append-drop, drop_of_length-le}
use lib.Seq.{set_comm, sets, take_all, take-suc, take_at, drop_at, drop-cons, length-take-le}
use Rattle.codec.specs.Decimal.{numeral_of, numeral}
use Rattle.codec.specs.DecimalLaws.{one_digit, more_digits, shorter, length-numeral}
use Rattle.codec.specs.SetsLaws.{set-within, sets-sets}
use Rattle.call_page.specs.Page.{aligned}
use Rattle.call_page.specs.RowLaws.{length-aligned, eleven_digits, length-count}

-- A number that is aligned to the right: its last digit, and what stands before.
last_digit : (j rest : ℕ) → 10 ≤ rest
    → aligned (suc j) (numeral_of (suc j) rest) ≡ aligned j (numeral_of j (rest / 10)) ++ ((48 + rest % 10) ∷ [])
unfolding aligned
last_digit j rest l =
    let text : List ℕ = numeral_of j (rest / 10) in
    let one : List ℕ = (48 + rest % 10) ∷ [] in
    let same : suc j - (length text + 1) ≡ j - length text = omega arith in
    rw (more_digits j rest l, length-append text one, same)
    (sym (append_assoc (replicate (j - length text) 32) text one))

only_digit : (j rest : ℕ) → rest < 10
    → aligned (suc j) (numeral_of (suc j) rest) ≡ replicate j 32 ++ ((48 + rest % 10) ∷ [])
unfolding aligned
only_digit j rest l =
    let digit : rest % 10 ≡ rest = omega arith in
    let same : suc j - 1 ≡ j = omega arith in
    rw (one_digit j rest l, digit, same)

blank_last : (j : ℕ) (xs : List ℕ) → replicate (suc j) 32 ++ xs ≡ replicate j 32 ++ 32 ∷ xs
blank_last zero xs = refl
blank_last (suc j) xs = ap (λ (s : List ℕ). 32 ∷ s) (blank_last j xs)

-- ---- The last characters of the column

-- Before a turn: from character i on the column stands there, before it are blanks, and of the count `rest` is left.
pub record Laid (page₀ : List ℕ) (at count : ℕ) (page : List ℕ) (rest i : ℕ) : Type 0 where
  pub some : 1 ≤ i
  pub within : i ≤ 11
  pub fits : rest < 10 ^ i
  pub left : take i (aligned 11 (numeral count)) ≡ aligned i (numeral_of i rest)
  pub stands : page ≡ sets page₀ at (replicate i 32 ++ drop i (aligned 11 (numeral count)))

module _ (page₀ : List ℕ) (at count : ℕ) (l : count < 10 ^ 10) where
  -- The column.
  abbrev col : List ℕ
  col = aligned 11 (numeral count)

  long : length col ≡ 11
  long = length-aligned 11 (numeral count) (omega (arith, length-count count l))

  -- Where there were eleven blanks.
  pub none_laid : (entry : List ℕ) → page₀ ≡ sets entry at (replicate 11 32) → Laid page₀ at count page₀ count 11
  none_laid entry e =
      let blank : sets page₀ at (replicate 11 32) ≡ page₀ =
      ap (λ (s : List ℕ). sets s at (replicate 11 32)) e
      ∙ sets-sets entry at (replicate 11 32) (replicate 11 32) refl ∙ sym e in
      record {
        some = omega arith;
        within = omega arith;
        fits = omega (arith, pow-suc 10 10);
        left = take_all 11 col (omega (arith, long)) ∙ ap (aligned 11) (eleven_digits count l);
        stands = rw (drop_of_length-le col {i = 11} (omega (arith, long))) (sym blank);
      }

  -- The column's part before character j + 1 ends with that character: so it stands behind what is before.
  split : (j rest : ℕ) (text : List ℕ) → j < 11 → length text ≡ j → take (suc j) col ≡ text ++ ((48 + rest % 10) ∷ [])
      → (take j col ≡ text) × (drop j col ≡ (48 + rest % 10) ∷ drop (suc j) col)
  split j rest text h e q =
      let one : List ℕ = (48 + rest % 10) ∷ [] in
      let both = take-suc col j 0 (omega (arith, long)) in
      let shut : length (take j col) ≡ j = length-take-le j col (omega (arith, long)) in
      let here : get_or col j 0 ∷ [] ≡ one =
      sym (drop_at (take j col) (get_or col j 0 ∷ []) j shut) ∙ ap (drop j) (sym both ∙ q) ∙ drop_at text one j e in
      let digit : get_or col j 0 ≡ 48 + rest % 10 = cc in (
        sym (take_at (take j col) (get_or col j 0 ∷ []) j shut) ∙ ap (take j) (sym both ∙ q) ∙ take_at text one j e,
        drop-cons col j 0 (omega (arith, long)) ∙ ap (λ (c : ℕ). c ∷ drop (suc j) col) digit,
      )

  -- The digit goes over the last blank.
  over_blank : (page : List ℕ) (j rest : ℕ) → page ≡ sets page₀ at (replicate (suc j) 32 ++ drop (suc j) col)
      → drop j col ≡ (48 + rest % 10) ∷ drop (suc j) col
      → set page (at + j) (48 + rest % 10) ≡ sets page₀ at (replicate j 32 ++ drop j col)
  over_blank page j rest e q =
      let behind : List ℕ = drop (suc j) col in
      rw (q, e, blank_last j behind)
      (set-within page₀ at (replicate j 32) 32 behind (at + j) (48 + rest % 10)
      (rw (length-replicate {A = ℕ} j 32)))

  pub digit_laid : (page : List ℕ) (i rest : ℕ) → Laid page₀ at count page rest i → (rest / 10 ≡ 0 → ⊥)
      → Laid page₀ at count (set page (at + (i - 1)) (48 + rest % 10)) (rest / 10) (i - 1)
  digit_laid page zero rest L n = absurd (omega (arith, L.some))
  digit_laid page (suc zero) rest L n = absurd (n (omega (arith, L.fits, pow-suc 10 0)))
  digit_laid page (suc (suc j)) rest L n =
      let less : suc (suc j) - 1 ≡ suc j = omega arith in
      let large : 10 ≤ rest = omega arith in
      let text : List ℕ = aligned (suc j) (numeral_of (suc j) (rest / 10)) in
      let wide : length text ≡ suc j = length-aligned (suc j) _ (length-numeral (suc j) (rest / 10)) in
      let parts = split (suc j) rest text (omega (arith, L.within)) wide (L.left ∙ last_digit (suc j) rest large) in
      rw less (record {
        some = omega arith;
        within = omega (arith, L.within);
        fits = shorter (suc j) rest L.fits;
        left = parts.0;
        stands = over_blank page (suc j) rest L.stands parts.1;
      })

  pub last_laid : (page : List ℕ) (i rest : ℕ) → Laid page₀ at count page rest i → rest / 10 ≡ 0
      → set page (at + (i - 1)) (48 + rest % 10) ≡ sets page₀ at col
  last_laid page zero rest L n = absurd (omega (arith, L.some))
  last_laid page (suc j) rest L n =
      let less : suc j - 1 ≡ j = omega arith in
      let small : rest < 10 = omega arith in
      let parts =
      split j rest (replicate j 32) (omega (arith, L.within)) (length-replicate {A = ℕ} j 32)
      (L.left ∙ only_digit j rest small) in
      rw less (over_blank page j rest L.stands parts.1
      ∙ rw (← parts.0) (ap (sets page₀ at) (take-append-drop j col)))

  -- ---- Two digits at a time

  -- Both at once, or the last one first.
  two : (page : List ℕ) (i d e : ℕ) → 2 ≤ i
      → sets page (at + (i - 2)) (d ∷ e ∷ []) ≡ set (set page (at + (i - 1)) e) (at + (i - 1 - 1)) d
  two page i d e h =
      let next : suc (at + (i - 2)) ≡ at + (i - 1) = omega arith in
      let here : at + (i - 1 - 1) ≡ at + (i - 2) = omega arith in
      rw (next, here) (set_comm page (at + (i - 2)) (at + (i - 1)) d e (omega arith))

  pub pair_laid : (page : List ℕ) (i rest : ℕ) → Laid page₀ at count page rest i → 100 ≤ rest
      → (3 ≤ i) × Laid page₀ at count
      (sets page (at + (i - 2)) ((48 + rest % 100 / 10) ∷ (48 + rest % 100 % 10) ∷ [])) (rest / 100) (i - 2)
  pair_laid page i rest L h =
      let one = digit_laid page i rest L (λ z. omega arith) in
      let both = digit_laid _ (i - 1) (rest / 10) one (λ z. omega arith) in
      let some = both.some in
      let tens : rest % 100 / 10 ≡ rest / 10 % 10 = omega arith in
      let ones : rest % 100 % 10 ≡ rest % 10 = omega arith in
      let left : rest / 100 ≡ rest / 10 / 10 = omega arith in
      let less : i - 2 ≡ i - 1 - 1 = omega arith in (
        omega arith,
        rw (tens, ones, left, two page i (48 + rest / 10 % 10) (48 + rest % 10) (omega arith), less) both,
      )

  pub last-pair : (page : List ℕ) (i rest : ℕ) → Laid page₀ at count page rest i → 10 ≤ rest → rest < 100
      → (2 ≤ i) × (sets page (at + (i - 2)) ((48 + rest / 10) ∷ (48 + rest % 10) ∷ []) ≡ sets page₀ at col)
  last-pair page i rest L h k =
      let one = digit_laid page i rest L (λ z. omega arith) in
      let some = one.some in
      let tens : rest / 10 ≡ rest / 10 % 10 = omega arith in (
        omega arith,
        two page i (48 + rest / 10) (48 + rest % 10) (omega arith)
            ∙ ap (λ (d : ℕ). set (set page (at + (i - 1)) (48 + rest % 10)) (at + (i - 1 - 1)) (48 + d)) tens
            ∙ last_laid _ (i - 1) (rest / 10) one (omega arith),
      )

  -- The blanks are gone where the column is.
  pub column_stands : (entry page : List ℕ) → page₀ ≡ sets entry at (replicate 11 32) → page ≡ sets page₀ at col
      → page ≡ sets entry at col
  column_stands entry page e q =
      q ∙ ap (λ (s : List ℕ). sets s at col) e
      ∙ sets-sets entry at (replicate 11 32) col (length-replicate {A = ℕ} 11 32 ∙ sym long)
