-- What the search through the pending events keeps to, for 32 and for "again".
use Rattle.std.specs.Prelude.{Bool, cond}
use Rattle.clocks.specs.declared.Event.{Event}
use Rattle.clocks.specs.SameEvent.{same_event}
use Rattle.refusals.specs.Refusals.{conflicts}

-- The two events are the same, or else have the same count at a common process.
unfoldable pub alike : Bool → Event → Event → Bool
alike whole e f = cond whole (same_event e f) (conflicts e f)
