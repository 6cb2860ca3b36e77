-- Events that are sent again (02 [1]): two are the same if mask, clock and labels all agree.
use Rattle.std.specs.Prelude.{Bool, List}
use Rattle.clocks.specs.declared.Event.{Event}
use Rattle.clocks.specs.Bounded.{any_of}
use Rattle.clocks.specs.SameEvent.{same_event}

-- The event is the same as one of these.
unfoldable pub repeated : (e : Event) (fs : List Event) → Bool
repeated e fs = any_of (same_event e) fs
