-- How a caller tells find's answers apart by its reply word, on all bytes (02 [4]; proved in FindReplyLaws).
use Rattle.std.specs.Prelude.{ℕ, ◌<◌, ◌/◌, ◌%◌, ◌≡◌, List, ◌↔◌}
use Rattle.answers.specs.Answer.{Answer, turned_back, found, absent, reply_word}
use Rattle.call_find.specs.Find.{find_call}

pub record FindTold (a : Answer) : Type 0 where
  -- found exactly if the word's flag is 1: its value is then the place
  pub found_exactly : (i : ℕ) → (a ≡ found i) ↔ ((reply_word a / 256 % 256 ≡ 1) × (reply_word a / 65536 % 65536 ≡ i))
  -- turned back exactly if its number is not 0
  pub turned_exactly : (n : ℕ) → (a ≡ turned_back n 0) ↔ ((0 < n) × (reply_word a % 256 ≡ n))
  -- none exactly if it is 0
  pub absent_exactly : (a ≡ absent) ↔ (reply_word a ≡ 0)

abbrev pub FindTells : Type 0
FindTells = (w line : ℕ) (s window : List ℕ) → FindTold (find_call w line s window)
