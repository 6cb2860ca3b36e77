-- How a caller tells close's answers apart by its reply word, on all bytes (02 [5]; proved in CloseReplyLaws).
use Rattle.std.specs.Prelude.{ℕ, ◌<◌, ◌/◌, ◌%◌, ◌≡◌, List, ◌↔◌}
use Rattle.answers.specs.Answer.{Answer, turned_back, process_closed, reply_word}
use Rattle.call_close.specs.Close.{close_call}

pub record CloseTold (a : Answer) : Type 0 where
  -- closed exactly if the word's number is 0: its value is then the number of frontiers kept
  pub closed_exactly : (n : ℕ)
      → (a ≡ process_closed n) ↔ ((reply_word a % 256 ≡ 0) × (reply_word a / 65536 % 65536 ≡ n))
  -- turned back exactly if its number is not 0
  pub turned_exactly : (n : ℕ) → (a ≡ turned_back n 0) ↔ ((0 < n) × (reply_word a % 256 ≡ n))

abbrev pub CloseTells : Type 0
CloseTells = (w p : ℕ) (s window : List ℕ) → CloseTold (close_call w p s window).answer
