-- The predicates of events and cuts as tests that compute, over the first n processes.

-- What one process asks of an event, as a test.
use Rattle.std.specs.Prelude.{ℕ, ◌+◌, Bool, cond, ◌&&◌, List, [], ◌∷◌, leb, eqb}
use Rattle.clocks.specs.declared.Event.{Event}
use Rattle.clocks.specs.History.{taken, clock_of}
use Rattle.clocks.specs.Event.{Cut, involved, count, less}
use Rattle.clocks.specs.Bounded.{all_below}

abbrev pub ready_at : (b : Bool) (n c : ℕ) → Bool
ready_at b n c = cond b (eqb n (c + 1)) (leb n c)

-- The event is ready at the cut, as far as the first n processes show (01: ready, enabled).
unfoldable pub ready : (n : ℕ) (e : Event) (S : Cut) → Bool
ready n e S = all_below n (λ p. ready_at (involved e p) (count e p) (S p))

-- The cut is a consistent one, as far as the first n processes show (01: consistent cut).
unfoldable pub consistent : (n : ℕ) (ts : List Event) (S : Cut) → Bool
consistent n ts S = all_below n (λ p. leb (S p) (taken ts p) && all_below n (λ q. leb (clock_of ts p (S p) q) (S q)))

-- The event leads to the cut: it is the last one there of each of its processes, and the cut has all that it knows of.
unfoldable pub leads_to : (n : ℕ) (f : Event) (S : Cut) → Bool
leads_to n f S = all_below n (λ p. cond (involved f p) (eqb (count f p) (S p)) (leb (count f p) (S p)))

-- The cuts from which one of the events leads to the cut (01: precedes).
unfoldable pub through : (n : ℕ) (ts es : List Event) (S : Cut) → List Cut
through n ts [] S = []
through n ts (f ∷ fs) S = cond (leads_to n f S && consistent n ts (less f S)) (less f S ∷ through n ts fs S) (through n ts fs S)

unfoldable pub predecessors : (n : ℕ) (ts : List Event) (S : Cut) → List Cut
predecessors n ts S = through n ts ts S
