-- What the code of a page keeps to: counts that have a place in a column, a table of digits, and the number that the
-- call is turned back with.
use Rattle.std.specs.Prelude.{ℕ, ◌+◌, ◌*◌, ◌/◌, ◌%◌, ◌^◌, ◌<◌, ◌≡◌, cond, ◌||◌, List, length, get_or}
use Rattle.clocks.specs.Counts.{at}
use Rattle.records.specs.Record.{kept_count}
use Rattle.refusals.specs.Refusals.{bad_record_length, bad_window_length, room_of, bad_state}
use Rattle.call_page.specs.Page.{short_page}

-- No count has more than ten digits.
abbrev pub TenDigits : List ℕ → Type 0
TenDigits counts = (p : ℕ) → at counts p < 10 ^ 10

-- A table of the two digits of each number below 100.
pub record Pairs (pairs : List ℕ) : Type 0 where
  pub long : length pairs ≡ 200
  pub tens : (n : ℕ) → n < 100 → get_or pairs (2 * n) 0 ≡ 48 + n / 10
  pub ones : (n : ℕ) → n < 100 → get_or pairs (2 * n + 1) 0 ≡ 48 + n % 10

-- The number, by the page's length; 0 for none.
unfoldable pub page_fault : ℕ → List ℕ → List ℕ → ℕ → ℕ
page_fault w s window n =
    cond (bad_record_length w (length s) || bad_window_length w (length window)) 6
    (cond (bad_state w (room_of w (length window)) s) 34 (cond (short_page (kept_count s) n) 44 0))
