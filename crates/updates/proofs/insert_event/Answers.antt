-- The events behind are moved up, then the event is stored: the law `stored_inserted`.
use mathlib.Core.Path.{◌≡◌}
use lib.ListN.{length}
use Rattle.updates.proofs.UpdateSteps.{length-event_bytes, stored_inserted}
use Rattle.records.specs.Record.{event_length, event_bytes}
use Rattle.std.proofs.Common.{rules}
use Rattle.updates.proofs.insert_event.Goals as goal

-- By rewriting and not by `cc`: of a wrong byte `cc` only says that it met a bound of its own.
pub returns : goal.returns
returns c =
    let a = c.args in
    let long : length (event_bytes a.w a.e) ≡ event_length a.w = length-event_bytes a.w a.e (search rules) (search rules) in
    rw (
      c.write_event.ensures,
      c.bytes.ensures.value,
      c.move_up.ensures,
      c.event_length.ensures.0,
      c.pending_place-end.ensures.0,
      c.pending_place-place.ensures.0,
      c.pending_count-n.ensures.0,
    ) (stored_inserted a.w a.i a.«record».now a.e long)
