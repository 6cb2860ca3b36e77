-- The answer of a call that is no part of a list of calls, as it writes no watch (02 [7]: a page), and its word.
use Rattle.std.specs.Prelude.{ℕ, ◌*◌}

pub data Result : Type 0 where
  -- turned back, by a number of 01 or 02
  refused : (n : ℕ) → Result
  -- done: the value, as the rows of a page
  gives : (n : ℕ) → Result

-- The reply word, as reply_word has it: number + 65,536 value; flag and place are 0.
unfoldable pub result_word : (r : Result) → ℕ
result_word (refused n) = n
result_word (gives n) = 65536 * n
