-- Lists of counts in ascending order.
use Rattle.std.specs.Prelude.{ℕ, ◌<◌, List, [], T, length, get_or}
use Rattle.lookup.specs.Order.{before}

-- Each list stands before all that follow it.
abbrev pub Ascending : List (List ℕ) → Type 0
Ascending xs = (i j : ℕ) → i < j → j < length xs → T (before (get_or xs i []) (get_or xs j []))
