-- A row, part by part: its columns one behind the other, blanks where there are no more processes, its ending.
use Prim.Native.Nat.{ℕ, zero, suc, ◌+◌, ◌-◌, ◌*◌, ◌≤◌, ◌<◌}
use native.Mathlib.Omega.{arith}
use native.Mathlib.Nat.{add-suc, add-zero}
use native.Mathlib.Numerals.{add-one}
use mathlib.Core.Path.{◌≡◌, refl, sym, ap, ◌∙◌}
use mathlib.Core.Bool.{Bool, true, false}
use mathlib.Core.List.{List, [], ◌∷◌, ◌++◌, append_assoc, append-nil}
use lib.ListN.{length, replicate, replicate-append-replicate}
use lib.Seq.{sets}
use borrow.Author.Tests.{lt-ltb, le-ltb}
use Rattle.codec.specs.Ascii.{ascii}
use Rattle.codec.specs.Decimal.{numeral}
use Rattle.codec.specs.SetsLaws.{sets-append}
use Rattle.clocks.specs.Counts.{at}
use Rattle.call_page.specs.Page.{aligned, column, columns, word, row, ending}
use Rattle.call_page.specs.PageCode.{TenDigits}
use Rattle.call_page.specs.RowLaws.{length-columns}

-- ---- The ending

pub ending_yes : (holds : Bool) → holds ≡ true → ascii " yes" ++ (10 ∷ []) ≡ ending holds
unfolding ending word
ending_yes holds h = rw h refl

pub ending_no : (holds : Bool) → holds ≡ false → ascii " no " ++ (10 ∷ []) ≡ ending holds
unfolding ending word
ending_no holds h = rw h refl

-- ---- The columns

-- What is stored behind a part of the row.
behind : (page₀ : List ℕ) (place : ℕ) (xs : List ℕ) (b : ℕ) (ys : List ℕ) → b ≡ place + length xs
    → sets (sets page₀ place xs) b ys ≡ sets page₀ place (xs ++ ys)
behind page₀ place xs b ys e = rw e (sets-append page₀ place xs ys)

pub no_columns : (page : List ℕ) (place k : ℕ) (counts : List ℕ) → page ≡ sets page place (columns k counts 0)
unfolding columns
no_columns page place k counts = refl

module _ (page₀ : List ℕ) (place k : ℕ) (counts : List ℕ) (ten : TenDigits counts) where
  pub next_column : (p : ℕ) → p < k
      → sets (sets page₀ place (columns k counts p)) (place + 11 * p) (aligned 11 (numeral (at counts p)))
      ≡ sets page₀ place (columns k counts (p + 1))
  unfolding columns column
  next_column p l =
      let there : place + 11 * p ≡ place + length (columns k counts p) = omega (arith, length-columns k counts p ten) in
      behind page₀ place (columns k counts p) (place + 11 * p) (aligned 11 (numeral (at counts p))) there
      ∙ rw (add-one p, lt-ltb p k l)

-- From process k on all is blank.
blank_columns : (k : ℕ) (counts : List ℕ) (m : ℕ)
    → columns k counts (k + m) ≡ columns k counts k ++ replicate (11 * m) 32
unfolding columns column aligned
blank_columns k counts zero = rw add-zero (sym (append-nil (columns k counts k)))
blank_columns k counts (suc m) =
    let more : 11 * suc m ≡ 11 * m + 11 = omega arith in
    rw (add-suc k m, le-ltb (k + m) k (omega arith), more, ← replicate-append-replicate {A = ℕ} (11 * m) 11 32)
    (ap (λ (s : List ℕ). s ++ replicate 11 32) (blank_columns k counts m)
    ∙ append_assoc (columns k counts k) (replicate (11 * m) 32) (replicate 11 32))

all-columns : (k : ℕ) (counts : List ℕ) → k ≤ 8
    → columns k counts k ++ replicate (11 * (8 - k)) 32 ≡ columns k counts 8
all-columns k counts few =
    let all : k + (8 - k) ≡ 8 = omega arith in
    sym (blank_columns k counts (8 - k)) ∙ ap (columns k counts) all

-- ---- The whole row

pub row_stands : (page₀ : List ℕ) (place k : ℕ) (counts : List ℕ) (holds : Bool) → TenDigits counts → k ≤ 8
    → (b page₁ : List ℕ) → page₁ ≡ sets page₀ place (columns k counts k)
    → b ≡ sets page₁ (place + 11 * k) (replicate (11 * (8 - k)) 32)
    → sets b (place + 88) (ending holds) ≡ sets page₀ place (row k counts holds)
unfolding row
row_stands page₀ place k counts holds ten few b page₁ e f =
    let blanks : List ℕ = replicate (11 * (8 - k)) 32 in
    let there : place + 11 * k ≡ place + length (columns k counts k) = omega (arith, length-columns k counts k ten) in
    let eight : b ≡ sets page₀ place (columns k counts 8) =
    f ∙ ap (λ (s : List ℕ). sets s (place + 11 * k) blanks) e
    ∙ behind page₀ place (columns k counts k) (place + 11 * k) blanks there
    ∙ ap (sets page₀ place) (all-columns k counts few) in
    let end : place + 88 ≡ place + length (columns k counts 8) = omega (arith, length-columns k counts 8 ten) in
    ap (λ (s : List ℕ). sets s (place + 88) (ending holds)) eight
    ∙ behind page₀ place (columns k counts 8) (place + 88) (ending holds) end
