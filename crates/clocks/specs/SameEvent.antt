-- Equality of events as a test: by mask, eight counts and eight labels (01, The calls: each event, by mask, clock and
-- labels).
use Rattle.std.specs.Prelude.{ℕ, Bool, ◌&&◌, eqb}
use Rattle.clocks.specs.declared.Event.{Event}
use Rattle.clocks.specs.Bounded.{all_below}
use Rattle.clocks.specs.Counts.{at}

-- The two events have the same count and the same label byte at process p.
abbrev pub same_at : (e f : Event) (p : ℕ) → Bool
same_at e f p = eqb (at e.clock p) (at f.clock p) && eqb (at e.labels p) (at f.labels p)

-- The two events are the same.
unfoldable pub same_event : (e f : Event) → Bool
same_event e f = eqb e.mask f.mask && all_below 8 (same_at e f)
