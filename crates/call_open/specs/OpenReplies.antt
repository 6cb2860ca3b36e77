-- How a caller tells an open's answers apart by its reply word and the record that it leaves, on all arguments (01, The
-- calls: open; Turned back; proved in OpenReplyLaws).
use Rattle.std.specs.Prelude.{ℕ, ◌≤◌, ◌<◌, ◌/◌, ◌%◌, ◌≡◌, Bool, List, ◌⊎◌, ◌↔◌, eqb, replicate}
use Rattle.numbers.specs.Limit.{most_processes}
use Rattle.numbers.specs.Refusal.{atom_number, labels_number, length_number, processes_number}
use Rattle.records.specs.Record.{taken_counts}
use Rattle.answers.specs.Answer.{turned_back, state, reply_word}
use Rattle.call_open.specs.Open.{Opened, open_call}

-- The word of what an open answers and leaves, for counts of w bytes, whatever may turn it back.
pub record OpenWord (w : ℕ) (o : Opened) : Type 0 where
  -- accepted exactly if the word's number is 0: its value is the number of frontiers kept, the flag is the rule's
  -- truth, and the counts are those that stand in the record afterwards
  pub opened_exactly : (counts : List ℕ) (truth : Bool) (kept : ℕ)
      → (o.answer ≡ state counts truth kept)
      ↔ ((reply_word o.answer % 256 ≡ 0) × (reply_word o.answer / 65536 % 65536 ≡ kept)
      × (eqb (reply_word o.answer / 256 % 256) 1 ≡ truth) × (taken_counts w o.bytes ≡ counts))
  -- that is one frontier, and eight zeros
  pub opened_with : (counts : List ℕ) (truth : Bool) (kept : ℕ) → o.answer ≡ state counts truth kept
      → (kept ≡ 1) × (counts ≡ replicate most_processes 0)
  -- turned back exactly if its number is not 0: it stands there, with its place
  pub turned_exactly : (n place : ℕ)
      → (o.answer ≡ turned_back n place)
      ↔ ((0 < n) × (reply_word o.answer % 256 ≡ n) × (reply_word o.answer / 4294967296 ≡ place))
  -- the flag is 0 or 1
  pub one_flag : reply_word o.answer / 256 % 256 ≤ 1

-- ... and what turns it back.
pub record OpenTold (w : ℕ) (o : Opened) : Type 0 where
  pub word : OpenWord w o
  -- 6, 5 or 9 without a place, or a number of the text's, 1 to 4, with a place below 1,024
  pub turned_by : (n place : ℕ) → o.answer ≡ turned_back n place
      → ((place ≡ 0) × ((n ≡ length_number) ⊎ ((n ≡ processes_number) ⊎ (n ≡ labels_number))))
      ⊎ ((1 ≤ n) × (n ≤ atom_number) × (place < 1024))

abbrev pub OpenTells : Type 0
OpenTells = (w : ℕ) (text : List ℕ) (k : ℕ) (labels s window : List ℕ) → OpenTold w (open_call w text k labels s window)
