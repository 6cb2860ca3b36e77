-- What became of the accepted events: taken, pending, or gone with a false clock (01, The calls: the balance); and
-- which processes were closed (02 [5]).
use Rattle.std.specs.Prelude.{ℕ, ◌+◌, ◌≡◌, true, T}
use mathlib.Core.List.{List, [], ◌∷◌, Memᴰ}
use Rattle.clocks.specs.declared.Event.{Event}
use Rattle.clocks.specs.Event.{count, one, involved, Ready}
use Rattle.clocks.specs.History.{taken}
use Rattle.clocks.specs.SameEvent.{same_event}
use Rattle.clocks.specs.Key.{key_of, key_before}

-- How often an event, by mask, clock and labels, stands in a list.
unfoldable pub occurrences : (e : Event) (es : List Event) → ℕ
occurrences e [] = 0
occurrences e (f ∷ fs) = one (same_event e f) + occurrences e fs

-- The events taken, newest first; those pending; those that left with a false clock (35); the mask of the closed
-- processes.
pub record Ledger : Type 0 where
  pub history : List Event
  pub pending : List Event
  pub falsified : List Event
  pub closed : ℕ

-- How often an event stands in the ledger.
abbrev pub accounted : (e : Event) (L : Ledger) → ℕ
accounted e L = occurrences e L.history + occurrences e L.pending + occurrences e L.falsified

-- No pending event is ready.
abbrev pub Settled : (L : Ledger) → Type 0
Settled L = (e : Event) → Memᴰ e L.pending → Ready e (taken L.history) → ⊥

-- Pending events stand in the order of their keys (01, The window: by lowest process and then its count).
abbrev pub Ordered : (es : List Event) → Type 0
Ordered [] = Unit {0}
Ordered (e ∷ es) = ((f : Event) → Memᴰ f es → T (key_before (key_of e) (key_of f))) × Ordered es

-- Two events have no count at a common process in common.
abbrev pub NoClash : (e f : Event) → Type 0
NoClash e f = (p : ℕ) → involved e p ≡ true → involved f p ≡ true → count e p ≡ count f p → ⊥

-- No two pending events have (01, Turned back: 32).
abbrev pub Clear : (es : List Event) → Type 0
Clear [] = Unit {0}
Clear (e ∷ es) = ((f : Event) → Memᴰ f es → NoClash e f) × Clear es
