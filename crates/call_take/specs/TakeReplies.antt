-- How a caller tells a take's answers apart by its reply word and the record that it leaves, on all bytes (01, The
-- calls: take; proved in TakeReplyLaws).
use Rattle.std.specs.Prelude.{ℕ, ◌≤◌, ◌<◌, ◌/◌, ◌%◌, ◌≡◌, Bool, List, ◌⊎◌, ◌↔◌, eqb}
use Rattle.codec.specs.Little.{Bytes}
use Rattle.numbers.specs.Limit.{most_frontiers}
use Rattle.numbers.specs.Refusal.{false_clock_number, length_number, no_room_number, state_number}
use Rattle.records.specs.Record.{taken_counts}
use Rattle.answers.specs.Answer.{turned_back, state, nothing_ready, reply_word}
use Rattle.call_take.specs.Take.{Taken, take_capped}

-- What a take answers and leaves, for counts of w bytes.
pub record TakeTold (w : ℕ) (t : Taken) : Type 0 where
  -- nothing ready exactly if the word is 0
  pub nothing_exactly : (t.answer ≡ nothing_ready) ↔ (reply_word t.answer ≡ 0)
  -- an event taken exactly if its value is above 0: that is the number of frontiers kept, the flag is the rule's truth,
  -- and the counts are those that stand in the record afterwards
  pub taken_exactly : (counts : List ℕ) (truth : Bool) (kept : ℕ)
      → (t.answer ≡ state counts truth kept)
      ↔ ((0 < kept) × (reply_word t.answer / 65536 % 65536 ≡ kept)
      × (eqb (reply_word t.answer / 256 % 256) 1 ≡ truth) × (taken_counts w t.bytes ≡ counts))
  pub few_kept : (counts : List ℕ) (truth : Bool) (kept : ℕ) → t.answer ≡ state counts truth kept
      → kept ≤ most_frontiers
  -- turned back exactly if its number is not 0: that is 6, 34, 35 or 36
  pub turned_exactly : (n : ℕ) → (t.answer ≡ turned_back n 0) ↔ ((0 < n) × (reply_word t.answer % 256 ≡ n))
  pub turned_by : (n place : ℕ) → t.answer ≡ turned_back n place
      → (place ≡ 0)
      × ((n ≡ length_number) ⊎ ((n ≡ state_number) ⊎ ((n ≡ false_clock_number) ⊎ (n ≡ no_room_number))))
  -- so there is no other word: it is 0, or its value or its number is above 0
  pub no_other : (reply_word t.answer ≡ 0)
      ⊎ ((0 < reply_word t.answer / 65536 % 65536) ⊎ (0 < reply_word t.answer % 256))
  -- the flag is 0 or 1, and there is no place
  pub one_flag : reply_word t.answer / 256 % 256 ≤ 1
  pub no_place : reply_word t.answer / 4294967296 ≡ 0

-- Of every take, under a cap too, that is lent a record of bytes.
abbrev pub TakeTells : Type 0
TakeTells = (w cap : ℕ) (s window scratch : List ℕ) → Bytes s → TakeTold w (take_capped w cap s window scratch)
