-- The answers of the calls, with 01's numbers and values (01, The calls; Turned back; 02 [1], [4], [5]), and the words
-- that C gets.
use Rattle.std.specs.Prelude.{ℕ, ◌+◌, ◌*◌, ◌-◌, Bool, true, false, List, map, length, get_or}
use Rattle.codec.specs.Bit.{bit}
use Rattle.frontiers.specs.declared.Frontier.{Frontier}

pub data Answer : Type 0 where
  -- turned back: a number of 01 or 02, and the byte's place where it has one (0 where it has none)
  turned_back : (n place : ℕ) → Answer
  -- opened, or an event taken: the taken counts, the rule's truth at the largest cut, the frontiers kept
  state : (counts : List ℕ) (truth : Bool) (kept : ℕ) → Answer
  -- no pending event is ready
  nothing_ready : Answer
  -- an offer accepted: the number of pending events (01: held)
  held : (n : ℕ) → Answer
  -- an offer of an event that is pending already (02 [1]): neither a refusal nor accepted
  again : Answer
  -- the place of the first kept frontier that has the line, or none (02 [4])
  found : (i : ℕ) → Answer
  absent : Answer
  -- a process closed: the frontiers kept (02 [5])
  process_closed : (kept : ℕ) → Answer

-- 1 for true.
abbrev pub flag : (b : Bool) → ℕ
flag true = 1
flag false = 0

-- The reply word: number + 256 flag + 65,536 value + 2 ^ 32 place.
unfoldable pub reply_word : (a : Answer) → ℕ
reply_word (turned_back n place) = n + 4294967296 * place
reply_word (state counts truth kept) = 256 * flag truth + 65536 * kept
reply_word nothing_ready = 0
reply_word (held n) = 65536 * n
reply_word again = 256
reply_word (found i) = 256 + 65536 * i
reply_word absent = 0
reply_word (process_closed n) = 65536 * n

-- The answer of an event taken: the counts, the last line at the last frontier, the frontiers kept.
unfoldable pub state_of : (lines : ℕ) (counts : List ℕ) (fs : List Frontier) → Answer
state_of lines counts fs = state counts (bit (get_or (map (λ f. f.values) fs) (length fs - 1) 0) (lines - 1)) (length fs)
