-- What is true of every page on all bytes (02 [7]): what a refused one leaves, where everything stands in an accepted
-- one, that its columns say the counts, and how a caller tells the answers apart. Proved in PageTheorem.
use Rattle.std.specs.Prelude.{ℕ, ◌+◌, ◌-◌, ◌*◌, ◌≤◌, ◌<◌, ◌≡◌, Bool, cond, List, [], ◌∷◌, ◌++◌, ◌≢◌, eqb, length, get_or, take, drop, replicate}
use Rattle.codec.specs.Ascii.{ascii}
use Rattle.codec.specs.Bit.{bit}
use Rattle.codec.specs.Decimal.{digits, value}
use Rattle.codec.specs.Little.{Bytes}
use Rattle.clocks.specs.Counts.{at}
use Rattle.frontiers.specs.Bytes.{frontier_at}
use Rattle.records.specs.Record.{process_count, line_total, kept_count}
use Rattle.answers.specs.Result.{refused, gives}
use Rattle.answers.specs.Told.{Told}
use Rattle.call_page.specs.Page.{row_length, Paged, page_call}

-- ---- What a reader of a page sees

-- The characters of column p in row i; those behind the columns, with the line feed.
abbrev pub column_at : (page : List ℕ) (i p : ℕ) → List ℕ
column_at page i p = take 11 (drop (row_length * i + 11 * p) page)

abbrev pub end_at : (page : List ℕ) (i : ℕ) → List ℕ
end_at page i = take 5 (drop (row_length * i + 88) page)

-- A text without the blanks that it begins with.
unfoldable pub without_blanks : (xs : List ℕ) → List ℕ
without_blanks [] = []
without_blanks (c ∷ s) = cond (eqb c 32) (without_blanks s) (c ∷ s)

-- A column says a number: it begins with a blank, behind its blanks stand digits alone, at least one, these say the
-- number, and the first is 0 only if the number is.
pub record Says (column : List ℕ) (n : ℕ) : Type 0 where
  pub begins : get_or column 0 0 ≡ 32
  pub all_digits : digits (without_blanks column) ≡ without_blanks column
  pub some : 1 ≤ length (without_blanks column)
  pub says : value (without_blanks column) ≡ n
  pub no_needless_zero : 1 ≤ n → get_or (without_blanks column) 0 0 ≢ 48

-- Row i is that of a cut with these counts, of k processes, at which the rule has this truth.
pub record RowSays (k : ℕ) (counts : ℕ → ℕ) (truth : Bool) (page : List ℕ) (i : ℕ) : Type 0 where
  pub count : (p : ℕ) → p < k → Says (column_at page i p) (counts p)
  pub blank : (p : ℕ) → k ≤ p → p < 8 → column_at page i p ≡ replicate 11 32
  pub verdict : end_at page i ≡ cond truth (ascii " yes") (ascii " no ") ++ (10 ∷ [])

-- ---- Every page

-- A call P on record s, a window and a page was accepted.
pub record Printed (w : ℕ) (s window page : List ℕ) (P : Paged) : Type 0 where
  pub all_rows : P.answer ≡ gives (kept_count s)
  -- in the window's order
  pub each_row : (i : ℕ) → i < kept_count s
      → RowSays (process_count s) (at (frontier_at w window i).counts)
      (bit (frontier_at w window i).values (line_total s - 1)) P.page i
  -- and what stands behind the rows is as it was
  pub same_length : length P.page ≡ length page
  pub rest_stays : drop (row_length * kept_count s) P.page ≡ drop (row_length * kept_count s) page

-- For counts of up to four bytes.
abbrev pub PageIsExact : Type 0
PageIsExact =
    (w : ℕ) → w ≤ 4 → (s window page : List ℕ) → Bytes window → (n : ℕ)
    → (page_call w s window page).answer ≡ gives n → Printed w s window page (page_call w s window page)

abbrev pub RefusedWritesNothing : Type 0
RefusedWritesNothing =
    (w : ℕ) (s window page : List ℕ) (n : ℕ)
    → (page_call w s window page).answer ≡ refused n → (page_call w s window page).page ≡ page

-- ---- The word

-- The value is the number of rows.
abbrev pub PageTells : Type 0
PageTells = (w : ℕ) (s window page : List ℕ) → Told (page_call w s window page).answer
