-- A page (02 [7]): the kept frontiers as text, a row of 92 columns and a line feed for each.
use Rattle.std.specs.Prelude.{ℕ, zero, suc, ◌-◌, ◌*◌, Bool, cond, ◌||◌, List, [], ◌∷◌, ◌++◌, ltb, length, drop, replicate}
use Rattle.codec.specs.Ascii.{ascii}
use Rattle.codec.specs.Bit.{bit}
use Rattle.codec.specs.Decimal.{numeral}
use Rattle.clocks.specs.Counts.{at}
use Rattle.frontiers.specs.declared.Frontier.{Frontier}
use Rattle.frontiers.specs.Bytes.{frontiers}
use Rattle.records.specs.Record.{process_count, line_total, kept_count}
use Rattle.refusals.specs.Refusals.{bad_record_length, bad_window_length, room_of, bad_state}
use Rattle.numbers.specs.Refusal.{length_number, state_number, short_page_number}
use Rattle.answers.specs.Result.{Result, refused, gives}

-- ---- A row

-- The bytes of a row, with its line feed.
abbrev pub row_length : ℕ
row_length = 93

-- A text at the right of so many characters, blanks before it.
unfoldable pub aligned : (width : ℕ) (text : List ℕ) → List ℕ
aligned width text = replicate (width - length text) 32 ++ text

-- The column of process p: its count; blanks alone where p is none of the k processes that there are.
unfoldable pub column : (k : ℕ) (counts : List ℕ) (p : ℕ) → List ℕ
column k counts p = aligned 11 (cond (ltb p k) (numeral (at counts p)) [])

-- The columns of the first n processes.
unfoldable pub columns : (k : ℕ) (counts : List ℕ) (n : ℕ) → List ℕ
columns k counts zero = []
columns k counts (suc p) = columns k counts p ++ column k counts p

-- What is said of the rule.
unfoldable pub word : (truth : Bool) → List ℕ
word truth = cond truth (ascii "yes") (ascii "no ")

-- What stands behind the columns: a blank, the word and a line feed.
unfoldable pub ending : (truth : Bool) → List ℕ
ending truth = ascii " " ++ word truth ++ (10 ∷ [])

-- The row of a cut with these counts, at which the rule has this truth.
unfoldable pub row : (k : ℕ) (counts : List ℕ) (truth : Bool) → List ℕ
row k counts truth = columns k counts 8 ++ ending truth

-- The rows of frontiers, one behind the other, for the rule that is this line of the table.
unfoldable pub rows : (k line : ℕ) (fs : List Frontier) → List ℕ
rows k line [] = []
rows k line (f ∷ fs) = row k f.counts (bit f.values line) ++ rows k line fs

-- ---- The call

-- 44: a page of n bytes is too short for all rows.
unfoldable pub short_page : (kept n : ℕ) → Bool
short_page kept n = ltb n (row_length * kept)

-- What the call answers, and leaves in the page. Record and window stay as they are.
pub record Paged : Type 0 where
  pub answer : Result
  pub page : List ℕ

-- Turned back by a number; and with the rows of these frontiers, what stood behind them.
abbrev pub page_turned_back : (page : List ℕ) (n : ℕ) → Paged
page_turned_back page n = record { answer = refused n; page = page }

abbrev pub page_written : (s : List ℕ) (fs : List Frontier) (page : List ℕ) → Paged
page_written s fs page = record {
  answer = gives (kept_count s);
  page = rows (process_count s) (line_total s - 1) fs ++ drop (row_length * kept_count s) page;
}

unfoldable pub page_call : (w : ℕ) (s window page : List ℕ) → Paged
page_call w s window page =
    cond (bad_record_length w (length s) || bad_window_length w (length window)) (page_turned_back page length_number)
    (cond (bad_state w (room_of w (length window)) s) (page_turned_back page state_number)
    (cond (short_page (kept_count s) (length page)) (page_turned_back page short_page_number)
    (page_written s (frontiers w window (kept_count s)) page)))
