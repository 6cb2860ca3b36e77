-- Two events and what they know of each other (01, Clocks and cuts: two events without a common desk; 02 [2]).
use Rattle.std.specs.Prelude.{ℕ, ◌≤◌, ◌≡◌, true, false}
use Rattle.clocks.specs.declared.Event.{Event}
use Rattle.clocks.specs.Event.{involved, count}

-- No process takes part in both.
pub record Apart (e f : Event) : Type 0 where
  pub none_common : (p : ℕ) → involved e p ≡ true → involved f p ≡ false

-- The clock of f counts e: it has reached e's count at a process of e.
abbrev pub Counts : (f e : Event) → Type 0
Counts f e = (p : ℕ) × (involved e p ≡ true) × (count e p ≤ count f p)

-- Neither's clock counts the other.
abbrev pub NeitherCounts : (e f : Event) → Type 0
NeitherCounts e f = (Counts e f → ⊥) × (Counts f e → ⊥)
