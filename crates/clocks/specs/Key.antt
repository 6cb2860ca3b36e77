-- The order of the pending events: by lowest process, and then its count (01, The window: held events).
use Rattle.std.specs.Prelude.{ℕ, Bool, ◌&&◌, ◌||◌, ltb, eqb}
use Rattle.std.specs.Int.Count.{count_trailing_zeros}
use Rattle.clocks.specs.declared.Event.{Event}
use Rattle.clocks.specs.declared.Key.{Key}
use Rattle.clocks.specs.Counts.{at}

-- The lowest process that takes part: the lowest bit set in the mask, and 8 where none is (01, Clocks and cuts: an
-- event's lowest process).
unfoldable pub lowest : (e : Event) → ℕ
lowest e = count_trailing_zeros 8 e.mask

-- An event's place in the order: its lowest process and the count there. (Past the end of a clock of eight, the count
-- is 0.)
unfoldable pub key_of : (e : Event) → Key
key_of e = record { process = lowest e; count = at e.clock (lowest e) }

-- One key comes before another: a lower process, or the same one and a lower count.
unfoldable pub key_before : (a b : Key) → Bool
key_before a b = ltb a.process b.process || (eqb a.process b.process && ltb a.count b.count)
