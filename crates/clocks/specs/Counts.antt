-- Counts as they are stored: lists of them, one for each process, and the cuts that such lists are.
use Rattle.std.specs.Prelude.{ℕ, zero, suc, List, [], ◌∷◌, get_or}
use Rattle.clocks.specs.Event.{Cut}

-- The cut of a list of counts: process p's is the p-th, and 0 past the end (01, Clocks and cuts: a clock of eight
-- counts; the taken counts).
abbrev pub at : (l : List ℕ) → Cut
at l p = get_or l p 0

-- The first n values of a function, in a list: a cut as it is stored.
unfoldable pub list_of : {A : Type 0} → (n : ℕ) (f : ℕ → A) → List A
list_of zero f = []
list_of (suc n) f = f 0 ∷ list_of n (λ p. f (suc p))

-- One clock for each process, as a list of lists of counts (01, Clocks and cuts: the clock of each process's last
-- event, eight counts for each of eight).
abbrev pub clock_rows : (ls : List (List ℕ)) (p : ℕ) → Cut
clock_rows ls p = at (get_or ls p [])
