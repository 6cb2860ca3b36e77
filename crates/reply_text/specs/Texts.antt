-- The answers' text (01, Examples: the program; 02 [1]), each with its line feed.
use Rattle.std.specs.Prelude.{ℕ, zero, suc, ◌-◌, Bool, cond, List, [], ◌∷◌, ◌++◌}
use Rattle.clocks.specs.Counts.{at}
use Rattle.codec.specs.Ascii.{ascii}
use Rattle.codec.specs.Decimal.{numeral}
use Rattle.answers.specs.Answer.{Answer, turned_back, state, nothing_ready, held, again, found, absent, process_closed}

-- The n counts behind the first, with a space before each.
unfoldable pub more_counts : (counts : List ℕ) (n : ℕ) → List ℕ
more_counts counts zero = []
more_counts counts (suc n) = more_counts counts n ++ (32 ∷ []) ++ numeral (at counts (suc n))

-- The first k counts, at least one, with single spaces between them.
unfoldable pub counts_text : (counts : List ℕ) (k : ℕ) → List ℕ
counts_text counts k = numeral (at counts 0) ++ more_counts counts (k - 1)

-- (refused n place)
unfoldable pub refused_text : (n place : ℕ) → List ℕ
refused_text n place = ascii "(refused " ++ numeral n ++ (32 ∷ []) ++ numeral place ++ (41 ∷ 10 ∷ [])

-- (held n)
unfoldable pub held_text : (n : ℕ) → List ℕ
held_text n = ascii "(held " ++ numeral n ++ (41 ∷ 10 ∷ [])

-- (again)
unfoldable pub again_text : List ℕ
again_text = ascii "(again)" ++ (10 ∷ [])

-- (state (c ..) yes|no kept), with the counts of k processes
unfoldable pub verdict_text : (holds : Bool) → List ℕ
verdict_text holds = cond holds (ascii ") yes ") (ascii ") no ")

unfoldable pub state_text : (counts : List ℕ) (k : ℕ) (holds : Bool) (kept : ℕ) → List ℕ
state_text counts k holds kept = ascii "(state (" ++ counts_text counts k ++ verdict_text holds ++ numeral kept ++ (41 ∷ 10 ∷ [])

-- What is printed for an answer, where there are k processes. Nothing ready prints nothing; the program asks for no
-- place and closes no process.
unfoldable pub answer_text : (k : ℕ) (a : Answer) → List ℕ
answer_text k (turned_back n place) = refused_text n place
answer_text k (state counts truth kept) = state_text counts k truth kept
answer_text k nothing_ready = []
answer_text k (held n) = held_text n
answer_text k again = again_text
answer_text k (found i) = []
answer_text k absent = []
answer_text k (process_closed n) = []
