-- What the functions' contracts cite beside the definition.
use Rattle.std.specs.Prelude.{ℕ, ◌≤◌, ◌≡◌, Result, Ok, Err, List, get_or}
use Rattle.numbers.specs.declared.refusal.Refusal.{Refusal}
use Rattle.numbers.specs.RefusalNumber.{number_of}
use Rattle.clocks.specs.Counts.{list_of}
use Rattle.answers.specs.Result as answers
use Rattle.call_busiest.specs.Sharing.{evenly}

-- The sharing of the first k processes where each has so many, and the first ones, so many of them, one more.
abbrev pub sharing : ℕ → ℕ → ℕ → List ℕ
sharing k each more = list_of k (evenly each more)

-- All bytes from a place on are 0.
abbrev pub Blank : List ℕ → ℕ → Type 0
Blank s place = (i : ℕ) → place ≤ i → get_or s i 0 ≡ 0

-- The answer that a result stands for.
abbrev pub answer_of : Result ℕ Refusal → answers.Result
answer_of (Ok kept) = answers.gives kept
answer_of (Err refusal) = answers.refused (number_of refusal)
